use Rattle.std.proofs.Common.{◌≡◌, None, refl, inl, inr, ap, ◌∙◌, vec_items}
use Rattle.std.specs.Option.{IsSomeAnd}
use Rattle.fm_records.specs.Know.{table_of}
use Rattle.fm_query.specs.ListText.{list_text}
use Rattle.fm_query.proofs.Asking.{of_none, of_some}
use Rattle.fm_query.proofs.query.list.Goals as goal

pub returns-in-None-clause-err : goal.returns-in-None-clause-err
returns-in-None-clause-err g c = λ w h. inr (inl (of_none c.args.world.now w c.args.at h (λ o. o ≡ None) c.in-None.ensures refl, refl))

pub returns-in_ok-list_of-in-Some-clause-ok : goal.returns-in_ok-list_of-in-Some-clause-ok
returns-in_ok-list_of-in-Some-clause-ok g c = λ w h.
    of_some c.args.world.now w c.args.at h (λ o. IsSomeAnd o (λ r. c.into_bytes.result.items ≡ list_text c.args.listing (table_of r.taken))) _ c.in-Some.ensures
    (λ r same. ap vec_items c.into_bytes.ensures.value ∙ c.in_ok-list_of-in-Some.ensures.ok ∙ ap (list_text c.args.listing) same)
