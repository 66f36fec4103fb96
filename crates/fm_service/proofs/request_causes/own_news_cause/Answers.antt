use Rattle.std.proofs.Common.{◌≡◌, None, get_or, sym, ap, ◌∙◌, subst}
use Rattle.fm_coord.specs.declared.entry.Range.TheVariants.{Full}
use Rattle.fm_world.specs.declared.step.Act.TheVariants as act
use Rattle.fm_service.specs.OwnNews.{own_news_since}
use Rattle.fm_service.specs.StreamSteps.{IsVerdict, CutRefused, own_mark_at}
use Rattle.fm_service.proofs.Steps.{nobody_there, nobody_tells, here, own_there}
use Rattle.fm_service.proofs.Verdicts.{of_cut, no_cut, unknown}
use Rattle.fm_service.proofs.request_causes.own_news_cause.Goals as goal

pub returns-in_default : goal.returns-in_default
returns-in_default c = λ k h. (
  (
    Full,
    nobody_tells c.args.session.now.world k.world c.args.at h.stands c.in_default.ensures (own_mark_at k c.args.at),
    nobody_there c.args.session.now.world k.world c.args.at h.stands c.in_default.ensures (act.Cut Full),
  ),
  unknown,
)

pub returns-in-Some-range : goal.returns-in-Some-range
returns-in-Some-range c = λ k h.
    let s = c.in-Some.coordinator.now.state in
    let there = here c.args.session.now.world k.world c.args.at h.stands s c.in-Some.ensures in
    let m : get_or c.args.session.now.own_marks c.from.result 0 ≡ own_mark_at k c.args.at = λ i. get_or (h.own_marks_is i) (c.from.ensures i) 0 in
    let range = c.own_news_since-news.ensures.range there.replica there.stands
    ∙ ap (λ mark. own_news_since mark there.replica) m
    ∙ own_there c.args.session.now.world k.world c.args.at h.stands s c.in-Some.ensures (own_mark_at k c.args.at) in
    subst (λ o. IsVerdict (CutRefused k c.args.at o) c.cut_cause.result) (sym c.in-Some-range.is ∙ range)
    (of_cut k c.args.at c.in-Some-range.range c.cut_cause.result (c.cut_cause.ensures k.world h.stands))

pub returns-in-None : goal.returns-in-None
returns-in-None c = λ k h.
    let s = c.in-Some.coordinator.now.state in
    let there = here c.args.session.now.world k.world c.args.at h.stands s c.in-Some.ensures in
    let m : get_or c.args.session.now.own_marks c.from.result 0 ≡ own_mark_at k c.args.at = λ i. get_or (h.own_marks_is i) (c.from.ensures i) 0 in
    let range = c.own_news_since-news.ensures.range there.replica there.stands
    ∙ ap (λ mark. own_news_since mark there.replica) m
    ∙ own_there c.args.session.now.world k.world c.args.at h.stands s c.in-Some.ensures (own_mark_at k c.args.at) in
    subst (λ o. IsVerdict (CutRefused k c.args.at o) None) (sym c.in-None.is ∙ range) (no_cut k c.args.at)
