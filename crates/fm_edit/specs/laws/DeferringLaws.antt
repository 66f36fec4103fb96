-- Laws of keepers that follow late.
use Rattle.std.proofs.Common.{◌≡◌, ℕ, Bool, true, List, [], ◌∷◌, Option, Some, None, refl}
use Rattle.std.specs.Prelude.{◌&&◌, IsTrue}
use Rattle.fm_records.specs.Table.{Table}
use Rattle.fm_records.specs.Ranges.{CanBe}
use Rattle.fm_records.proofs.LookupLaws.{both_true}
use Rattle.fm_net.specs.Net.{Net}
use Rattle.fm_policy.specs.Changes.{Keys, no_keys, is_nil, has_no_keys}
use Rattle.fm_policy.proofs.KeepingLaws.{took_none}
use Rattle.fm_edit.specs.declared.deferred.Deferred.{Deferred}
use Rattle.fm_edit.specs.declared.editor.Editor.{Editor}
use Rattle.fm_edit.specs.EditorModel.{is_fresh_editor, IsFor}
use Rattle.fm_edit.specs.DeferredModel.{was_fresh, HasNetworkOf, CanFollow, is_fresh_deferred, DeferredIsFor, DeferredFollows}

is_none : (xs : List ℕ) → is_nil xs ≡ true → xs ≡ []
is_none [] h = refl
is_none (x ∷ xs) h = absurd (let no : ⊥ = cc in no)

pub are_none : (c : Keys) → has_no_keys c ≡ true → c ≡ no_keys
are_none c h =
    let parts = both_true (is_nil c.jobs && is_nil c.tasks) (is_nil c.machines) h in
    let first = both_true (is_nil c.jobs) (is_nil c.tasks) parts.0 in
    λ i. record { jobs = is_none c.jobs first.0 i; tasks = is_none c.tasks first.1 i; machines = is_none c.machines parts.1 i }

follows_by : (o : Option Editor) (built : Bool) (net : Net) (pending : Keys) (k : Table) → CanBe k → IsTrue (was_fresh o built && has_no_keys pending) → HasNetworkOf o net k → CanFollow o built net pending k
follows_by (Some e) built net pending k can fresh here =
    let parts = both_true (is_fresh_editor e) (has_no_keys pending) fresh in
    (parts.0, took_none (IsFor e) k pending can (are_none pending parts.1) here)
follows_by None built net pending k can fresh here = λ _. here

pub fresh_deferred_follows : (d : Deferred) (k : Table) → CanBe k → IsTrue (is_fresh_deferred d) → DeferredIsFor d k → DeferredFollows d k
fresh_deferred_follows d k = follows_by d.editor d.built d.network d.pending k
