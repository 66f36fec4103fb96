use Rattle.std.proofs.Common.{◌≡◌, length, get_or, slice_set, refl, sym, ap, ◌∙◌, subst}
use Rattle.fm_world.specs.declared.step.Act.TheVariants as world
use Rattle.fm_world.specs.Worlds.{with_number, refusal_of}
use Rattle.fm_coord.specs.declared.entry.Range.{Range}
use Rattle.fm_service.specs.WorldSteps.{step_at, Cuts}
use Rattle.fm_service.specs.StreamSteps.{Following, mark_at, news_of}
use Rattle.fm_service.specs.Sessions.{SessionAt}
use Rattle.fm_service.proofs.Results.{returned}
use Rattle.fm_service.proofs.Steps.{nobody_there, here, news_is, news_there}
use Rattle.fm_service.proofs.session.Session.news.Goals as goal

pub returns-in_default-clause-err : goal.returns-in_default-clause-err
returns-in_default-clause-err c = λ k h. nobody_there c.args.self.now.world k.world c.args.at h.stands c.in_default.ensures (world.Cut (news_of (mark_at k c.args.at) (with_number k.world.replicas c.args.at)))

pub returns-in_err-text-clause-err : goal.returns-in_err-text-clause-err
returns-in_err-text-clause-err c = λ k h.
    let s = c.in-Some.coordinator.now.state in
    let mark = mark_at k c.args.at in
    let m : get_or c.args.self.now.marks c.from.result 0 ≡ mark_at k c.args.at = λ i. get_or (h.marks_is i) (c.from.ensures i) 0 in
    let range = c.news_between-range.ensures
    ∙ news_is c.args.self.now.world k.world c.args.at h.stands s c.in-Some.ensures mark _ _ _ m c.floor.ensures c.end-end.ensures
    ∙ sym (news_there c.args.self.now.world k.world c.args.at h.stands s c.in-Some.ensures mark) in
    returned c.from_residual.result c.from_residual.ensures.1
    (λ e same. same ∙ c.in_err-text.ensures.err k h ∙ ap (λ range. refusal_of k.world (step_at c.args.at (world.Cut range))) range)

pub returns-clause-ok : goal.returns-clause-ok
returns-clause-ok c = λ behind stand k h.
    let s = c.in-Some.coordinator.now.state in
    let there = here c.args.self.now.world k.world c.args.at h.stands s c.in-Some.ensures in
    let m : get_or c.args.self.now.marks c.from.result 0 ≡ mark_at k c.args.at = λ i. get_or (h.marks_is i) (c.from.ensures i) 0 in
    let range = c.news_between-range.ensures
    ∙ news_is c.args.self.now.world k.world c.args.at h.stands s c.in-Some.ensures (mark_at k c.args.at) _ _ _ m c.floor.ensures c.end-end.ensures in
    let end = c.end-end.ensures ∙ there.stands.end in
    let went = c.in_ok-text.ensures.ok behind stand k h in
    let at = subst (λ (j : Following). SessionAt c.cut.new.self j) went.1.2 went.2 in (
      record { named = k.named; marks = slice_set k.marks c.args.at (length there.replica.buffer); own_marks = k.own_marks; stored_marks = k.stored_marks; world = went.1.0 },
      record {
        replica = there.replica;
        there = there.at;
        v = went.1.0;
        cuts = subst (λ (r : Range). Cuts k.world c.args.at r c.in_ok-text.text.items went.1.0) range went.1.1;
        is = refl;
      },
      record { stands = at.stands; named_is = at.named_is; marks_is = λ i. slice_set (at.marks_is i) (c.from-2.ensures i) (end i); own_marks_is = at.own_marks_is; stored_marks_is = at.stored_marks_is },
    )
