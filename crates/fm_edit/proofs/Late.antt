-- What a keeper that follows late keeps, when a delta is taken in and when the network is read.
use Rattle.std.proofs.Common.{◌≡◌, ◌∙◌, Bool, true, false, Option, Some, None, refl, sym, ap, subst}
use Rattle.std.specs.Prelude.{◌&&◌, IsTrue}
use Rattle.fm_records.specs.Table.{Table}
use Rattle.fm_records.specs.Ranges.{CanBe}
use Rattle.fm_records.proofs.LookupLaws.{both_true}
use Rattle.fm_records.specs.Joined.{table_join}
use Rattle.fm_net.specs.Net.{Net}
use Rattle.fm_net.specs.Network.{net_of}
use Rattle.fm_policy.specs.Changes.{Keys, changed_keys, joined_keys, has_no_keys}
use Rattle.fm_policy.specs.Keeping.{FollowsAfter}
use Rattle.fm_policy.proofs.KeepingLaws.{took_on}
use Rattle.fm_edit.specs.declared.editor.Editor.{Editor}
use Rattle.fm_edit.specs.EditorModel.{is_fresh_editor, IsFor}
use Rattle.fm_edit.specs.DeferredModel.{was_fresh, HasNetworkOf, CanFollow}

-- a delta without keys leaves the table
unchanged : ((k d : Table) → has_no_keys (changed_keys d) ≡ true → table_join k d ≡ k) → {fresh : Bool} {is_for : Table → Type 0} {now : Table} {keys : Keys}
    → (t : FollowsAfter fresh is_for now keys) → has_no_keys keys ≡ true → now ≡ t.before
unchanged nothing t none = t.joined ∙ nothing t.before t.delta (ap has_no_keys (sym t.keys) ∙ none)

-- a keeper that is fresh and follows a table is for it
pub fresh_is_for : ((k d : Table) → has_no_keys (changed_keys d) ≡ true → table_join k d ≡ k)
    → (o : Option Editor) (built : Bool) (net : Net) (pending : Keys) (now : Table) → CanFollow o built net pending now → IsTrue (was_fresh o built && has_no_keys pending) → HasNetworkOf o net now
fresh_is_for nothing (Some e) built net pending now follows fresh =
    let t = follows.1 in
    subst (IsFor e) (sym (unchanged nothing t (both_true (is_fresh_editor e) (has_no_keys pending) fresh).1)) (t.for_before refl)
fresh_is_for nothing None built net pending now follows fresh = follows fresh

module _ (joins : (k l : Table) → CanBe k → CanBe l → changed_keys (table_join k l) ≡ joined_keys (changed_keys k) (changed_keys l))
    (split : (a b : Keys) → has_no_keys (joined_keys a b) ≡ (has_no_keys a && has_no_keys b))
    (nothing : (k d : Table) → has_no_keys (changed_keys d) ≡ true → table_join k d ≡ k)
    (built : Bool) (net : Net) (old keys new : Keys) (is : new ≡ joined_keys old keys) (now : Table) where
  parts : has_no_keys new ≡ true → (has_no_keys old ≡ true) × (has_no_keys keys ≡ true)
  parts h = both_true (has_no_keys old) (has_no_keys keys) (sym (ap has_no_keys is ∙ split old keys) ∙ h)

  -- it still follows
  pub follows_on : (o : Option Editor) → FollowsAfter true (CanFollow o built net old) now keys → CanFollow o built net new now
  follows_on (Some e) t =
      let held = t.for_before refl in
      (held.0, took_on joins (IsFor e) old keys new now is (record { before = t.before; delta = t.delta; before_can_be = t.before_can_be; delta_can_be = t.delta_can_be; for_before = λ _. held.1; joined = t.joined; keys = t.keys }))
  follows_on None t = λ fresh.
      let now_none = both_true built (has_no_keys new) fresh in
      let none = parts now_none.1 in
      t.for_before refl (λ i. now_none.0 i && none.0 i) ∙ ap net_of (sym (unchanged nothing t none.1))

  -- what is fresh still, is for what is known
  pub given_on : (o : Option Editor) → FollowsAfter (was_fresh o built && has_no_keys old) (HasNetworkOf o net) now keys → IsTrue (was_fresh o built && has_no_keys new) → HasNetworkOf o net now
  given_on o t fresh =
      let was = both_true (was_fresh o built) (has_no_keys new) fresh in
      let none = parts was.1 in
      subst (HasNetworkOf o net) (sym (unchanged nothing t none.1)) (t.for_before (λ i. was.0 i && none.0 i))

  -- what was stale is stale
  pub stale_on : (o : Option Editor) → (was_fresh o built && has_no_keys old) ≡ false → (was_fresh o built && has_no_keys new) ≡ false
  stale_on o stale = ap (λ b. was_fresh o built && b) (ap has_no_keys is ∙ split old keys) ∙ either (was_fresh o built) (has_no_keys old) (has_no_keys keys) stale where
    either : (a b c : Bool) → (a && b) ≡ false → (a && (b && c)) ≡ false
    either true true c h = absurd (let no : ⊥ = cc in no)
    either true false c h = refl
    either false b c h = refl
