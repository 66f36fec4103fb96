-- How many places are taken on each machine.
use Rattle.std.specs.Prelude.{ℕ, unwrap_or}
use Rattle.std.specs.Ordering.{nat_cmp}
use Rattle.std.specs.BTreeMap.{get}
use Rattle.fm_share.specs.declared.taken_places.TakenPlaces.{TakenPlaces}

abbrev pub taken_on : TakenPlaces → ℕ → ℕ
taken_on taken m = unwrap_or (get nat_cmp taken.by_machine m) 0
