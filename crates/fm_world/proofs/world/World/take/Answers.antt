use Rattle.std.proofs.Common.{◌∙◌, subst}
use Rattle.fm_delta.specs.declared.packet.Packet.{Packet}
use Rattle.fm_world.specs.declared.step.Act.TheVariants as act
use Rattle.fm_world.specs.Worlds.{step_of}
use Rattle.fm_world.specs.Represents.{WorldRepresents}
use Rattle.fm_world.proofs.Taking.{stands_alike, as_it_came}
use Rattle.fm_world.proofs.world.World.take.Goals as goal

pub returns-in-Ok-clause-stands : goal.returns-in-Ok-clause-stands
returns-in-Ok-clause-stands g c = λ w sent h same.
    stands_alike c.step.new.self w c.args.at c.args.by c.args.packet sent (as_it_came c.args.packet c.law_spelled.ensures ∙ same)
    (subst (λ (p : Packet). WorldRepresents c.step.new.self (step_of w (record { at = c.args.at; by = c.args.by; act = act.Take p }))) c.share.ensures.same (c.in-Ok.ensures.stands w h))
