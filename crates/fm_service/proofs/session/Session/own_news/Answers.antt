use Rattle.std.proofs.Common.{◌≡◌, get_or, slice_set, refl, sym, ap, ◌∙◌, subst}
use Rattle.fm_coord.specs.declared.entry.Range.TheVariants.{Full}
use Rattle.fm_world.specs.declared.step.Act.TheVariants as world
use Rattle.fm_service.specs.OwnNews.{own_news_since, own_mark_after}
use Rattle.fm_service.specs.StreamSteps.{CutsMaybe, CutRefused, own_mark_at}
use Rattle.fm_service.proofs.Results.{returned}
use Rattle.fm_service.proofs.Steps.{nobody_there, nobody_tells, here, own_there}
use Rattle.fm_service.proofs.session.Session.own_news.Goals as goal

pub returns-in_default-clause-err : goal.returns-in_default-clause-err
returns-in_default-clause-err c = λ k h. (
  Full,
  nobody_tells c.args.self.now.world k.world c.args.at h.stands c.in_default.ensures (own_mark_at k c.args.at),
  nobody_there c.args.self.now.world k.world c.args.at h.stands c.in_default.ensures (world.Cut Full),
)

pub returns-in_err-text-clause-err : goal.returns-in_err-text-clause-err
returns-in_err-text-clause-err c = λ k h.
    let s = c.in-Some.coordinator.now.state in
    let there = here c.args.self.now.world k.world c.args.at h.stands s c.in-Some.ensures in
    let m : get_or c.args.self.now.own_marks c.from.result 0 ≡ own_mark_at k c.args.at = λ i. get_or (h.own_marks_is i) (c.from.ensures i) 0 in
    let range = c.own_news_since-news.ensures.range there.replica there.stands
    ∙ ap (λ mark. own_news_since mark there.replica) m
    ∙ own_there c.args.self.now.world k.world c.args.at h.stands s c.in-Some.ensures (own_mark_at k c.args.at) in
    returned c.from_residual.result c.from_residual.ensures.1
    (λ e same. subst (λ r. CutRefused k c.args.at r e) range (subst (CutRefused k c.args.at c.own_news_since-news.result.range) (sym same) (c.in_err-text.ensures.err k h)))

pub returns-clause-ok : goal.returns-clause-ok
returns-clause-ok c = λ behind stand k h.
    let s = c.in-Some.coordinator.now.state in
    let there = here c.args.self.now.world k.world c.args.at h.stands s c.in-Some.ensures in
    let m : get_or c.args.self.now.own_marks c.from.result 0 ≡ own_mark_at k c.args.at = λ i. get_or (h.own_marks_is i) (c.from.ensures i) 0 in
    let range = c.own_news_since-news.ensures.range there.replica there.stands ∙ ap (λ mark. own_news_since mark there.replica) m in
    let mark = c.own_news_since-news.ensures.mark there.replica there.stands ∙ ap (λ mark. own_mark_after mark there.replica) m in
    let went = c.in_ok-text.ensures.ok k h in (
      record { named = k.named; marks = k.marks; own_marks = slice_set k.own_marks c.args.at (own_mark_after (own_mark_at k c.args.at) there.replica); stored_marks = k.stored_marks; world = went.0 },
      record {
        replica = there.replica;
        there = there.at;
        v = went.0;
        cuts = subst (λ r. CutsMaybe k.world c.args.at r c.in_ok-text.text.items went.0) range went.1;
        is = refl;
      },
      record {
        stands = went.2.stands;
        named_is = went.2.named_is;
        marks_is = went.2.marks_is;
        own_marks_is = λ i. slice_set (went.2.own_marks_is i) (c.from-2.ensures i) (mark i);
        stored_marks_is = went.2.stored_marks_is;
      },
    )
