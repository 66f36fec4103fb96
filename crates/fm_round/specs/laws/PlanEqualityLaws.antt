-- That the equalities are those of the values.
use Rattle.std.specs.Prelude.{◌≡◌, refl}
use Rattle.std.specs.Bool.{Decides}
use Rattle.std.specs.Cmp.{IsPartialEquivalence}
use Rattle.std.proofs.Common.{ap, rules}
use Rattle.std.proofs.lemmas.Bool.Decides.{Decides-and}
use Rattle.std.proofs.lemmas.Slice.Eq.{slice_eq-Decides}
use Rattle.fm_records.specs.laws.RecordEqualityLaws.{op_Decides, equivalence}
use Rattle.fm_round.specs.declared.plan.Place.{Place}
use Rattle.fm_round.specs.declared.plan.Preempt.{Preempt}
use Rattle.fm_round.specs.declared.plan.Answer.{Answer}
use Rattle.fm_round.specs.declared.plan.Plan.{Plan}
use Rattle.fm_round.specs.declared.plan.Admitted.{Admitted}
use Rattle.fm_round.specs.PlanEquality.{same_place, same_preempt, same_answer, same_plan, same_admitted}

place_Decides : (a b : Place) → Decides (same_place a b) (a ≡ b)
place_Decides a b = search rules

preempt_Decides : (a b : Preempt) → Decides (same_preempt a b) (a ≡ b)
preempt_Decides a b = search rules

answer_Decides : (a b : Answer) → Decides (same_answer a b) (a ≡ b)
answer_Decides a b = search rules

pub plan_Decides : (p q : Plan) → Decides (same_plan p q) (p ≡ q)
plan_Decides p q =
    let all =
    Decides-and _ _
    (slice_eq-Decides place_Decides p.places q.places _ refl)
    (slice_eq-Decides preempt_Decides p.preempts q.preempts _ refl) in
    (λ h. let both = all.0 h in λ i. record { places = both.0 i; preempts = both.1 i }, λ e. all.1 (ap (λ r. r.places) e, ap (λ r. r.preempts) e))

pub admitted_Decides : (a b : Admitted) → Decides (same_admitted a b) (a ≡ b)
admitted_Decides a b =
    let all =
    Decides-and _ _
    (slice_eq-Decides op_Decides a.ops b.ops _ refl)
    (slice_eq-Decides answer_Decides a.answers b.answers _ refl) in
    (λ h. let both = all.0 h in λ i. record { ops = both.0 i; answers = both.1 i }, λ e. all.1 (ap (λ r. r.ops) e, ap (λ r. r.answers) e))

pub plan_equivalence : IsPartialEquivalence same_plan
plan_equivalence = equivalence same_plan plan_Decides

pub admitted_equivalence : IsPartialEquivalence same_admitted
admitted_equivalence = equivalence same_admitted admitted_Decides
