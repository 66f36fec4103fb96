-- Pairs whose keys rise, kept in blocks. A block is its first key and what it holds.
use Rattle.std.specs.Prelude.{List, [], ◌∷◌, ◌++◌}
use Rattle.fm_lattice.specs.Stocks.{Stock}

-- the pairs of the blocks, one block after another
abbrev pub pairs_of : {K V : Type 0} → List (K × Stock (K × V)) → List (K × V)
pairs_of [] = []
pairs_of (b ∷ bs) = b.1.items ++ pairs_of bs
