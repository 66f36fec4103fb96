use Rattle.std.proofs.Common.{refl}
use Rattle.fm_world.specs.declared.step.Act.TheVariants as act
use Rattle.fm_world.specs.Worlds.{step_of}
use Rattle.fm_service.specs.WorldSteps.{step_at}
use Rattle.fm_service.proofs.acting.prepared_cut.Goals as goal

pub returns-clause-ok : goal.returns-clause-ok
returns-clause-ok c = λ w h. (
  step_of w (step_at c.args.at (act.Cut c.args.range)),
  record { told = c.in_ok-prepared.ensures.line w h; cut = record { accepted = c.in_ok-give.ensures.accepted w h; made = refl } },
  c.in_ok-give.ensures.stands w h,
)
