-- What a keeper is that takes in keys and edits or builds when the network is read: fresh or stale, and for which
-- table. Own.
use Rattle.std.specs.Prelude.{◌≡◌, ◌&&◌, Bool, true, Option, Some, None, IsTrue}
use Rattle.fm_records.specs.Table.{Table}
use Rattle.fm_net.specs.Net.{Net}
use Rattle.fm_net.specs.Network.{net_of}
use Rattle.fm_policy.specs.Changes.{Keys, has_no_keys}
use Rattle.fm_policy.specs.Keeping.{FollowsAfter}
use Rattle.fm_edit.specs.declared.deferred.Deferred.{Deferred}
use Rattle.fm_edit.specs.declared.editor.Editor.{Editor}
use Rattle.fm_edit.specs.EditorModel.{is_fresh_editor, IsFor}

-- its Editor, or what it built, was of what was known when the network was last read
abbrev pub was_fresh : Option Editor → Bool → Bool
was_fresh (Some e) built = is_fresh_editor e
was_fresh None built = built

abbrev pub HasNetworkOf : Option Editor → Net → Table → Type 0
HasNetworkOf (Some e) net k = IsFor e k
HasNetworkOf None net k = net ≡ net_of k

-- no key came since
abbrev pub is_fresh_deferred : Deferred → Bool
is_fresh_deferred d = was_fresh d.editor d.built && has_no_keys d.pending

abbrev pub DeferredIsFor : Deferred → Table → Type 0
DeferredIsFor d k = HasNetworkOf d.editor d.network k

-- An Editor was for what was known before one delta, with which the table is what is known, and of which the keys are
-- those that are pending. Without an Editor nothing but a fresh network has to be that of the table.
abbrev pub CanFollow : Option Editor → Bool → Net → Keys → Table → Type 0
CanFollow (Some e) built net pending k = IsTrue (is_fresh_editor e) × FollowsAfter true (IsFor e) k pending
CanFollow None built net pending k = IsTrue (built && has_no_keys pending) → net ≡ net_of k

abbrev pub DeferredFollows : Deferred → Table → Type 0
DeferredFollows d k = CanFollow d.editor d.built d.network d.pending k
