use Rattle.std.proofs.Common.{◌∙◌}
use Rattle.fm_world.specs.declared.step.Act.TheVariants as act
use Rattle.fm_service.proofs.StepCauses.{nobody, trim_there}
use Rattle.fm_service.proofs.causes.trim_cause.Goals as goal

pub returns-in_default : goal.returns-in_default
returns-in_default c = λ w h. nobody c.args.world.now w c.args.at h c.in_default.ensures (act.Trim c.args.floor)

pub returns : goal.returns
returns c = λ w h. c.trimmed_cause.ensures ∙ trim_there c.args.world.now w c.args.at h c.in-Some.coordinator.now.state c.in-Some.ensures c.args.floor
