use Rattle.fm_serve.proofs.run.shared_plan.Goals as goal

pub returns : goal.returns
returns c = record { plan = c.in_ok-planned.planned.plan; plan_of = c.in_ok-planned.ensures; is = c.in_ok-part.ensures }
