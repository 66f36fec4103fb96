-- A table that is the join of deltas.
use Rattle.std.specs.Prelude.{◌≡◌, List, [], ◌∷◌}
use Rattle.fm_records.specs.Table.{Table}
use Rattle.fm_records.specs.Ranges.{CanBe}
use Rattle.fm_delta.specs.Deltas.{joined_all}

-- each of the deltas can be
abbrev pub AllCanBe : List Table → Type 0
AllCanBe [] = Unit {0}
AllCanBe (delta ∷ deltas) = CanBe delta × AllCanBe deltas

-- the table is the join of the deltas, each of which can be
pub record IsJoinOf (k : Table) (deltas : List Table) : Type 0 where
  pub can_be : AllCanBe deltas
  pub value : k ≡ joined_all deltas
