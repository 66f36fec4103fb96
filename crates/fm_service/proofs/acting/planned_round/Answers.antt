use Rattle.std.proofs.Common.{refl, sym, ap, ◌∙◌, subst, vec_items}
use Rattle.std.specs.Option.{IfSome}
use Rattle.fm_script.specs.RoundPlans.{IsRoundPlan}
use Rattle.fm_coord.specs.Decisions.{IsDecidedBy}
use Rattle.fm_world.specs.declared.step.Act.TheVariants as act
use Rattle.fm_world.specs.Worlds.{step_of}
use Rattle.fm_query.specs.RoundText.{round_text}
use Rattle.fm_service.specs.WorldSteps.{step_at, WorldStep}
use Rattle.fm_service.proofs.Results.{returned}
use Rattle.fm_service.proofs.Steps.{nobody_there, full, roomy, commit_refused, round_told}
use Rattle.fm_service.proofs.acting.planned_round.Goals as goal

pub returns-in_default-clause-err : goal.returns-in_default-clause-err
returns-in_default-clause-err c = λ w h. nobody_there c.args.world.now w c.args.at h c.in_default.ensures act.View

pub returns-in_err-check_room-clause-err : goal.returns-in_err-check_room-clause-err
returns-in_err-check_room-clause-err c = λ w h.
    returned c.from_residual.result c.from_residual.ensures.1
    (λ e same. same ∙ full c.args.world.now w c.args.at h c.in-Some.coordinator.now.state c.in-Some.ensures _ c.in_err-check_room.ensures.err)

pub returns-in_err-plan-clause-err : goal.returns-in_err-plan-clause-err
returns-in_err-plan-clause-err c = λ w h.
    returned c.from_residual-in_err-plan.result c.from_residual-in_err-plan.ensures.1
    (λ e same. same ∙ c.in_err-plan.ensures.err ∙ roomy c.args.world.now w c.args.at h c.in-Some.coordinator.now.state c.in-Some.ensures c.in_ok-check_room.ensures.ok)

pub returns-in_err-decision-clause-err : goal.returns-in_err-decision-clause-err
returns-in_err-decision-clause-err c = λ w h.
    returned c.from_residual-in_err-decision.result c.from_residual-in_err-decision.ensures.1
    (λ e same. same ∙ commit_refused c.args.world.now w c.args.at h c.in-Some.coordinator.now.state c.in-Some.ensures c.in_ok-plan.plan _ c.in_err-decision.ensures.err)

pub returns-in_err-round_text-clause-err : goal.returns-in_err-round_text-clause-err
returns-in_err-round_text-clause-err c = λ w h.
    returned c.from_residual-in_err-round_text.result c.from_residual-in_err-round_text.ensures.1
    (λ e same. same ∙ c.in_err-round_text.ensures.err ∙ roomy c.args.world.now w c.args.at h c.in-Some.coordinator.now.state c.in-Some.ensures c.in_ok-check_room.ensures.ok)

pub accept-requires : goal.accept-requires
accept-requires c = subst (λ o. IfSome o (λ s. IsDecidedBy s c.in_ok-decision.decision)) c.in-Some.ensures c.in_ok-decision.ensures.decided

pub returns-clause-ok : goal.returns-clause-ok
returns-clause-ok c = λ w h.
    let d = c.in_ok-decision.decision in
    let plan_of = subst (IsRoundPlan c.in-Some.coordinator.now.state.knowledge c.args.kind.now) (sym c.in_ok-decision.ensures.plan) c.in_ok-plan.ensures.ok in
    let commit : WorldStep w (step_at c.args.at (act.Commit d.plan)) (step_of w (step_at c.args.at (act.Commit d.plan))) = record { accepted = c.in_ok-_admitted.ensures.accepted w h; made = refl } in (
      step_of w (step_at c.args.at (act.Commit d.plan)),
      round_told c.args.world.now w c.args.at h c.in-Some.coordinator.now.state c.in-Some.ensures c.args.kind.now d.plan d.admitted _ _ plan_of c.in_ok-decision.ensures.decided.admitted
          (ap vec_items c.into_bytes-text.ensures.value ∙ c.in_ok-round_text.ensures.ok ∙ ap (round_text d.plan) c.get.ensures) commit,
      c.in_ok-_admitted.ensures.stands w h,
    )
