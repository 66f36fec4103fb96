use Rattle.std.proofs.Common.{refl, string_bytes}
use Rattle.fm_query.proofs.Asking.{planned_text}
use Rattle.fm_query.proofs.solution_text.least_plan_text.Goals as goal

pub returns-clause-ok : goal.returns-clause-ok
returns-clause-ok g c = planned_text string_bytes c.plan_text.result _ _ _ refl c.in_ok-plan.ensures.ok c.plan_text.ensures.ok
