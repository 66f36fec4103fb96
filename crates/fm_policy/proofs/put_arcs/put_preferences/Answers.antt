use Rattle.std.proofs.Common.{◌≡◌, ◌∙◌, true, suc, take, add-one, ap, subst, sym, inl, inr, rules}
use Rattle.std.proofs.lemmas.List.{take_all}
use Rattle.std.specs.Prelude.{is_some}
use Rattle.std.specs.Ordering.{nat_cmp}
use Rattle.fm_lattice.specs.Maps.{lookup}
use Rattle.fm_records.specs.Facts.{live_spec}
use Rattle.fm_net.proofs.NetworkLaws.{mapped_from}
use Rattle.fm_policy.specs.inner.Inputs.{asked_of}
use Rattle.fm_policy.specs.inner.NetworkSoFar.{CoversPreferred}
use Rattle.fm_policy.proofs.Adds.{adds_then}
use Rattle.fm_policy.proofs.Parts.{preferred_needs, task_to_preferred}
use Rattle.fm_policy.proofs.Covered.{preferred_still}
use Rattle.fm_policy.proofs.Preferred.{taken}
use Rattle.fm_policy.proofs.put_arcs.put_preferences.Goals as goal

pub put-requires-clause-arc : goal.put-requires-clause-arc
put-requires-clause-arc c =
    let k = c.args.knowledge.now in
    c.preferred_arc-arc.ensures ∙ task_to_preferred k c.args.task c.entry-item.result.0 (c.args.request, c.args.prefer.now) c.requires.asked c.requires.waits

pub loop-entry-preserved : goal.loop-entry-preserved
loop-entry-preserved c =
    let k = c.args.knowledge.now in
    let t = c.args.task in
    let es = c.entries-entry-items.result.now in
    let i = c.loop-entry.entry-index in
    let is : es ≡ c.args.prefer.now = c.entries-entry-items.ensures.entries in
    let step = c.in_ok-put.ensures in
    let new = c.put.new.network in
    let here : CoversPreferred k t c.entry-item.result.0 new = step.covers in
    record {
      adds = adds_then k _ _ _ c.loop-entry.invariant.adds step.adds;
      covers = λ m some has. elim (taken m es i c.entry-item.result c.loop-entry-test.true c.entry-item.is (subst (λ xs. is_some (lookup nat_cmp m (take (suc i) xs)) ≡ true) (sym is) (rw add-one at some))) [
        | inl before ↦ preferred_still k c.loop-entry.network new step.adds.grows t m (c.loop-entry.invariant.covers m (subst (λ xs. is_some (lookup nat_cmp m (take i xs)) ≡ true) is before)) has
        | inr is ↦ subst (λ q. CoversPreferred k t q new) is here has
      ];
    }

pub returns-clause-covers : goal.returns-clause-covers
returns-clause-covers c = λ m has.
    let k = c.args.knowledge.now in
    let spec = mapped_from asked_of (live_spec k c.args.task) (c.args.request, c.args.prefer.now) c.requires.asked in
    let all = preferred_needs k c.args.task m spec.0 spec.1 c.requires.waits has in
    let some = subst (λ xs. is_some (lookup nat_cmp m xs) ≡ true) (ap (λ x. x.1) spec.2) all.0 in
    c.loop-entry.invariant.covers m (subst (λ xs. is_some (lookup nat_cmp m xs) ≡ true) (sym (take_all c.loop-entry.entry-index c.args.prefer.now (search rules))) some) has
