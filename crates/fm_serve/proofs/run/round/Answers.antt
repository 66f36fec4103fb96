use Rattle.std.proofs.Common.{subst}
use Rattle.fm_script.specs.RoundPlans.{IsRoundPlan}
use Rattle.fm_serve.proofs.Rounds.{plan_at, rounds, refuses}
use Rattle.fm_serve.proofs.run.round.Goals as goal

pub returns-clause-ok : goal.returns-clause-ok
returns-clause-ok c = λ w h.
    let plan = c.in_ok-plan.plan in
    let kind = c.args.kind.now in
    let seen = subst (λ k. IsRoundPlan k kind plan) c.get-knowledge.ensures c.in_ok-plan.ensures in
    let planned = plan_at c.args.world.now w c.args.at h _ kind plan c.in_ok-sight.ensures.sight seen in
    rounds w c.args.at kind plan (c.in_ok-sight.ensures.accepted w h) planned c.take_step.result c.take_step.new.world (c.take_step.ensures.ok _ (c.in_ok-sight.ensures.stands w h))

pub returns-clause-err : goal.returns-clause-err
returns-clause-err c = λ w h.
    let plan = c.in_ok-plan.plan in
    let kind = c.args.kind.now in
    let seen = subst (λ k. IsRoundPlan k kind plan) c.get-knowledge.ensures c.in_ok-plan.ensures in
    let planned = plan_at c.args.world.now w c.args.at h _ kind plan c.in_ok-sight.ensures.sight seen in
    refuses w c.args.at kind plan (c.in_ok-sight.ensures.accepted w h) planned c.take_step.result (c.take_step.ensures.err _ (c.in_ok-sight.ensures.stands w h))
