use Rattle.std.proofs.Common.{◌≡◌, ℕ, List, None, refl, ◌∙◌, sym, ap, inl, inr, subst, vec_items}
use Rattle.std.specs.Option.{IsSomeAnd}
use Rattle.fm_records.specs.Table.{Table}
use Rattle.fm_records.specs.Know.{table_of}
use Rattle.fm_query.specs.NextText.{IsNextText, IsNoNext}
use Rattle.fm_query.proofs.Asking.{of_none, of_some, no_next}
use Rattle.fm_query.proofs.query.next.Goals as goal

pub returns-in-None-clause-err : goal.returns-in-None-clause-err
returns-in-None-clause-err g c = λ w h. inr (inl (of_none c.args.world.now w c.args.at h (λ o. o ≡ None) c.in-None.ensures refl, refl))

pub returns-in-Ok-clause-ok : goal.returns-in-Ok-clause-ok
returns-in-Ok-clause-ok g c = λ w h.
    let known : Table = c.knowledge.result.now in
    let text = subst (λ (t : List ℕ). IsNextText known c.args.subject t) (sym (ap vec_items c.into_bytes.ensures.value)) c.in-Ok.ensures.ok in
    of_some c.args.world.now w c.args.at h (λ o. IsSomeAnd o (λ r. IsNextText (table_of r.taken) c.args.subject c.into_bytes.result.items)) _ c.in-Some.ensures
    (λ r same. subst (λ (k : Table). IsNextText k c.args.subject c.into_bytes.result.items) (c.knowledge.ensures ∙ same) text)

pub returns-in-Err-clause-err : goal.returns-in-Err-clause-err
returns-in-Err-clause-err g c = λ w h.
    no_next c.args.world.now w c.args.at h c.args.subject _ _ c.in-Some.ensures (subst (λ (t : Table). IsNoNext t c.args.subject c.in-Err.refusal) c.knowledge.ensures c.in-Err.ensures.err)
