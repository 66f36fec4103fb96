-- A keeper of any kind. Own.
use Rattle.std.specs.Prelude.{◌≡◌, Bool, Some, is_some, IsTrue}
use Rattle.fm_records.specs.Table.{Table}
use Rattle.fm_net.specs.Network.{net_of}
use Rattle.fm_edit.specs.declared.keepers.Keeper.{Keeper}
use Rattle.fm_edit.specs.declared.keepers.Keeper.TheVariants.{Edits, Builds, Defers}
use Rattle.fm_edit.specs.DeferredModel.{is_fresh_deferred, DeferredIsFor, DeferredFollows}
use Rattle.fm_edit.specs.EditorModel.{is_fresh_editor, IsFor}

abbrev pub is_fresh_keeper : Keeper → Bool
is_fresh_keeper (Edits e) = is_fresh_editor e
is_fresh_keeper (Builds b) = is_some b
is_fresh_keeper (Defers d) = is_fresh_deferred d

abbrev pub KeeperIsFor : Keeper → Table → Type 0
KeeperIsFor (Edits e) k = IsFor e k
KeeperIsFor (Builds b) k = b ≡ Some (net_of k)
KeeperIsFor (Defers d) k = DeferredIsFor d k

abbrev pub KeeperFollows : Keeper → Table → Type 0
KeeperFollows (Edits e) k = IsTrue (is_fresh_editor e) → IsFor e k
KeeperFollows (Builds b) k = IsTrue (is_some b) → b ≡ Some (net_of k)
KeeperFollows (Defers d) k = DeferredFollows d k
