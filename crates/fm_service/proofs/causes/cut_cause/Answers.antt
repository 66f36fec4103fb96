use Rattle.std.proofs.Common.{◌∙◌}
use Rattle.fm_world.specs.declared.step.Act.TheVariants as act
use Rattle.fm_service.proofs.Steps.{cut_cause}
use Rattle.fm_service.proofs.StepCauses.{nobody}
use Rattle.fm_service.proofs.causes.cut_cause.Goals as goal

pub returns-in_default : goal.returns-in_default
returns-in_default c = λ w h. nobody c.args.world.now w c.args.at h c.in_default.ensures (act.Cut c.args.range)

pub returns : goal.returns
returns c = λ w h. c.ranged_cause.ensures ∙ cut_cause c.args.world.now w c.args.at h c.in-Some.coordinator.now.state c.in-Some.ensures c.args.range
