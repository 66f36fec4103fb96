-- A fresh keeper of any kind follows the table that it is for.
use Rattle.std.specs.Prelude.{IsTrue}
use Rattle.fm_records.specs.Table.{Table}
use Rattle.fm_records.specs.Ranges.{CanBe}
use Rattle.fm_edit.specs.declared.keepers.Keeper.{Keeper}
use Rattle.fm_edit.specs.declared.keepers.Keeper.TheVariants.{Edits, Builds, Defers}
use Rattle.fm_edit.specs.laws.DeferringLaws.{fresh_deferred_follows}
use Rattle.fm_edit.specs.inner.Keepers.{is_fresh_keeper, KeeperIsFor, KeeperFollows}

pub fresh_keeper_follows : (s : Keeper) (k : Table) → CanBe k → IsTrue (is_fresh_keeper s) → KeeperIsFor s k → KeeperFollows s k
fresh_keeper_follows (Edits e) k can fresh here = λ _. here
fresh_keeper_follows (Builds b) k can fresh here = λ _. here
fresh_keeper_follows (Defers d) k can fresh here = fresh_deferred_follows d k can fresh here
