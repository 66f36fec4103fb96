use Rattle.std.proofs.Common.{◌≡◌, get_or, sym, ap, ◌∙◌}
use Rattle.fm_world.specs.declared.step.Act.TheVariants as act
use Rattle.fm_world.specs.Worlds.{with_number, cause_of}
use Rattle.fm_service.specs.WorldSteps.{step_at}
use Rattle.fm_service.specs.StreamSteps.{mark_at, news_of}
use Rattle.fm_service.proofs.Steps.{news_is, news_there}
use Rattle.fm_service.proofs.StepCauses.{nobody}
use Rattle.fm_service.proofs.request_causes.news_cause.Goals as goal

pub returns-in_default : goal.returns-in_default
returns-in_default c = λ k h.
    nobody c.args.session.now.world k.world c.args.at h.stands c.in_default.ensures (act.Cut (news_of (mark_at k c.args.at) (with_number k.world.replicas c.args.at)))

pub returns : goal.returns
returns c = λ k h.
    let s = c.in-Some.coordinator.now.state in
    let mark = mark_at k c.args.at in
    let m : get_or c.args.session.now.marks c.from.result 0 ≡ mark_at k c.args.at = λ i. get_or (h.marks_is i) (c.from.ensures i) 0 in
    let range = c.news_between-range.ensures
    ∙ news_is c.args.session.now.world k.world c.args.at h.stands s c.in-Some.ensures mark _ _ _ m c.floor.ensures c.end.ensures
    ∙ sym (news_there c.args.session.now.world k.world c.args.at h.stands s c.in-Some.ensures mark) in
    c.cut_cause.ensures k.world h.stands ∙ ap (λ r. cause_of k.world (step_at c.args.at (act.Cut r))) range
