use Rattle.std.proofs.Common.{ℕ, [], ◌∷◌, ◌++◌, Option, Some, Result, Ok, Err, refl, ap, ◌∙◌, subst, inl}
use Rattle.std.specs.Option.{option_to_list}
use Rattle.std.specs.Result.{OnErr}
use Rattle.std.specs.Io.KnownBytes.{Consumes}
use Rattle.std.proofs.KnownBytes.{Consumes-trans}
use Rattle.fm_io.proofs.Spelling.{joined_line}
use Rattle.fm_io.proofs.lines.next_line.Goals as goal

at_error : {T E P : Type 0} (r : Result T E) → P → OnErr r P
at_error (Ok t) p = tt
at_error (Err e) p = p

pub returns-in-Some-eq10-clause-next : goal.returns-in-Some-eq10-clause-next
returns-in-Some-eq10-clause-next g c =
    let i = c.loop-count.invariant in
    let ahead = c.keep_ahead.ensures.ahead i.bytes i.kept in
    let line = i.bytes ++ ahead.0 in
    let feed = subst (λ (o : Option ℕ). Consumes (g.S.Source.remaining c.keep_ahead.new.source) (g.S.Source.remaining c.next_byte.new.source) (option_to_list o)) (c.in-Some-eq10.is ∙ ap (λ (n : ℕ). Some n) c.in-Some-eq10.field-0-test) c.in_ok-next_byte.ensures.byte in
    let took = Consumes-trans _ _ _ i.bytes ahead.0 i.consumed ahead.1 in
    (line ++ 10 ∷ [], Consumes-trans _ _ _ line (10 ∷ []) took feed, (line, joined_line i.bytes ahead.0 i.line ahead.2, ahead.3, refl))

pub returns-in_err-next_byte-clause-err : goal.returns-in_err-next_byte-clause-err
returns-in_err-next_byte-clause-err g c =
    let i = c.loop-count.invariant in
    let ahead = c.keep_ahead.ensures.ahead i.bytes i.kept in
    let took = Consumes-trans _ _ _ (i.bytes ++ ahead.0) [] (Consumes-trans _ _ _ i.bytes ahead.0 i.consumed ahead.1) c.in_err-next_byte.ensures.err in
    at_error c.from_residual.result ((i.bytes ++ ahead.0) ++ [], took, joined_line (i.bytes ++ ahead.0) [] (joined_line i.bytes ahead.0 i.line ahead.2) refl, inl c.in_err-next_byte.ensures.failed)
