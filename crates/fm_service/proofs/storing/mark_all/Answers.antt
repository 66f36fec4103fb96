use Rattle.std.proofs.Common.{◌∙◌}
use Rattle.fm_service.proofs.Anew.{all_stand}
use Rattle.fm_service.proofs.Unstored.{ends_are}
use Rattle.fm_service.proofs.storing.mark_all.Goals as goal

pub returns : goal.returns
returns c = λ k h. record {
  stands = h.stands;
  named_is = h.named_is;
  marks_is = h.marks_is;
  own_marks_is = h.own_marks_is;
  stored_marks_is = c.set_ends.ensures k.world.replicas (all_stand c.coordinators.result.now c.args.session.now.world c.coordinators.ensures k.world h.stands) ∙ ends_are k.world.replicas;
}
