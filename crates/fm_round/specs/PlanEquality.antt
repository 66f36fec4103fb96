-- Equality of plans and of their admission: item by item.
use Rattle.std.specs.Prelude.{Bool, ◌&&◌}
use Rattle.std.specs.Cmp.Lexicographic.{pointwise}
use Rattle.fm_records.specs.RecordEquality.{same_op}
use Rattle.fm_round.specs.declared.plan.Place.{Place}
use Rattle.fm_round.specs.declared.plan.Preempt.{Preempt}
use Rattle.fm_round.specs.declared.plan.Answer.{Answer}
use Rattle.fm_round.specs.declared.plan.Plan.{Plan}
use Rattle.fm_round.specs.declared.plan.Admitted.{Admitted}
use Rattle.fm_round.specs.contracts.plan.PlacePartialEq.TheImpl as place_eq
use Rattle.fm_round.specs.contracts.plan.PreemptPartialEq.TheImpl as preempt_eq
use Rattle.fm_round.specs.contracts.plan.AnswerPartialEq.TheImpl as answer_eq

-- the equalities that the parts derive: field by field
abbrev pub same_place : Place → Place → Bool
same_place = (place_eq.ghosts).eq

abbrev pub same_preempt : Preempt → Preempt → Bool
same_preempt = (preempt_eq.ghosts).eq

abbrev pub same_answer : Answer → Answer → Bool
same_answer = (answer_eq.ghosts).eq

abbrev pub same_plan : Plan → Plan → Bool
same_plan p q = pointwise same_place p.places q.places && pointwise same_preempt p.preempts q.preempts

abbrev pub same_admitted : Admitted → Admitted → Bool
same_admitted a b = pointwise same_op a.ops b.ops && pointwise same_answer a.answers b.answers
