use Rattle.std.proofs.Common.{◌≡◌, None, refl, inl, inr, ap, ◌∙◌, length, vec_items}
use Rattle.std.specs.Option.{IsSomeAnd}
use Rattle.fm_query.specs.QueryTexts.{end_text}
use Rattle.fm_query.proofs.Asking.{of_none, of_represented}
use Rattle.fm_query.proofs.query.end.Goals as goal

pub returns-in-None-clause-err : goal.returns-in-None-clause-err
returns-in-None-clause-err g c = λ w h. inr (inl (of_none c.args.world.now w c.args.at h (λ o. o ≡ None) c.in-None.ensures refl, refl))

pub returns-in_ok-end_text-in-Some-clause-ok : goal.returns-in_ok-end_text-in-Some-clause-ok
returns-in_ok-end_text-in-Some-clause-ok g c = λ w h.
    of_represented c.args.world.now w c.args.at h (λ o. IsSomeAnd o (λ r. c.into_bytes.result.items ≡ end_text r.floor (length r.buffer))) _ c.in-Some.ensures
    (λ r stands. ap vec_items c.into_bytes.ensures.value ∙ c.in_ok-end_text-in-Some.ensures.ok ∙ (λ i. end_text (stands.floor i) (stands.end i)))
