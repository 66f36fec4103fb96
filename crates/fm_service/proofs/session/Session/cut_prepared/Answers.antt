use Rattle.std.proofs.Common.{◌≡◌, true, length, refl, ◌∙◌}
use Rattle.fm_world.specs.declared.step.Act.TheVariants as act
use Rattle.fm_world.specs.Worlds.{step_of}
use Rattle.fm_service.specs.WorldSteps.{step_at}
use Rattle.fm_service.specs.StreamSteps.{named_also}
use Rattle.fm_service.proofs.Steps.{counted}
use Rattle.fm_service.proofs.session.Session.cut_prepared.Goals as goal

pub returns-clause-ok : goal.returns-clause-ok
returns-clause-ok c = λ behind stand k here.
    let count = c.packet_count.ensures ∙ counted c.args.self.now.world k.world here.stands in
    let new : c.in_ok-add.field-0 ≡ true = cc in
    let named = c.in_ok-add.ensures.added new ∙ (λ i. named_also (here.named_is i) c.args.name.now (count i)) in (
      record { named = named_also k.named c.args.name.now (length k.world.packets); marks = k.marks; own_marks = k.own_marks; stored_marks = k.stored_marks; world = step_of k.world (step_at c.args.at (act.Cut c.args.range)) },
      (
        step_of k.world (step_at c.args.at (act.Cut c.args.range)),
        record { told = c.in_ok-prepared.ensures.line k.world here.stands; cut = record { accepted = c.in_default.ensures.accepted k.world here.stands; made = refl } },
        refl,
      ),
      record { stands = c.in_default.ensures.stands k.world here.stands; named_is = named; marks_is = here.marks_is; own_marks_is = here.own_marks_is; stored_marks_is = here.stored_marks_is },
    )
