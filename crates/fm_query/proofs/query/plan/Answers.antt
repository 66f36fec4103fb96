use Rattle.std.proofs.Common.{◌≡◌, ℕ, List, None, refl, sym, ap, inl, inr, subst, vec_items}
use Rattle.std.specs.Option.{IsSomeAnd}
use Rattle.fm_records.specs.Table.{Table}
use Rattle.fm_records.specs.Know.{table_of}
use Rattle.fm_query.specs.PlanText.{IsPlanText}
use Rattle.fm_query.proofs.Asking.{of_none, of_some}
use Rattle.fm_query.proofs.query.plan.Goals as goal

pub returns-in-None-clause-err : goal.returns-in-None-clause-err
returns-in-None-clause-err g c = λ w h. inr (inl (of_none c.args.world.now w c.args.at h (λ o. o ≡ None) c.in-None.ensures refl, refl))

pub returns-in_ok-least_plan_text-in-Some-clause-ok : goal.returns-in_ok-least_plan_text-in-Some-clause-ok
returns-in_ok-least_plan_text-in-Some-clause-ok g c = λ w h.
    let known : Table = c.in-Some.coordinator.now.state.knowledge in
    let text = subst (λ (t : List ℕ). IsPlanText known t) (sym (ap vec_items c.into_bytes.ensures.value)) c.in_ok-least_plan_text-in-Some.ensures.ok in
    of_some c.args.world.now w c.args.at h (λ o. IsSomeAnd o (λ r. IsPlanText (table_of r.taken) c.into_bytes.result.items)) _ c.in-Some.ensures
    (λ r same. subst (λ (k : Table). IsPlanText k c.into_bytes.result.items) same text)
