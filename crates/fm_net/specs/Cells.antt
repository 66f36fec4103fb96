-- Pairs in cells, and an index that has the place of each key's cell.
use Rattle.std.specs.Prelude.{ℕ, List, Option}
use Rattle.std.specs.List.{filter_map}

-- the pairs in the cells, in the order of the index
abbrev pub pairs_in_cells : {K V : Type 0} → (ℕ → Option (K × V)) → List (K × ℕ) → List (K × V)
pairs_in_cells at places = filter_map (λ e. at e.1) places
