use Rattle.fm_planner.proofs.Plans.{plan_is}
use Rattle.fm_planner.proofs.network_plan.least_plan.Goals as goal

pub returns-clause-ok : goal.returns-clause-ok
returns-clause-ok c = plan_is _ _ _ _ c.requires c.in_ok-flow.ensures.least c.in_ok-plan.ensures
