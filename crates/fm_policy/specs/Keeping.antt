-- When a keeper of a network can follow what is known.
use Rattle.std.specs.Prelude.{◌≡◌, Bool, IsTrue}
use Rattle.fm_records.specs.Table.{Table}
use Rattle.fm_records.specs.Ranges.{CanBe}
use Rattle.fm_records.specs.Joined.{table_join}
use Rattle.fm_policy.specs.Changes.{Keys, changed_keys}

-- a keeper, if fresh, is for what was known before a delta was taken in; with it, the table is what is known, and the keys
-- are the delta's
pub record FollowsAfter (fresh : Bool) (is_for : Table → Type 0) (now : Table) (changed : Keys) : Type 0 where
  pub before : Table
  pub delta : Table
  pub before_can_be : CanBe before
  pub delta_can_be : CanBe delta
  pub for_before : IsTrue fresh → is_for before
  pub joined : now ≡ table_join before delta
  pub keys : changed ≡ changed_keys delta
