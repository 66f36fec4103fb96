use Rattle.std.proofs.Common.{List, ℕ, sym, ap, subst}
use Rattle.fm_io.specs.declared.lines.Next.{Next}
use Rattle.fm_io.specs.LineReads.{IsKeptLine, IsNextLine, is_last}
use Rattle.fm_io.proofs.Running.{at_end, broken_off, next, at_last, stopped, one_line, one_ended}
use Rattle.fm_io.proofs.follow.follow.Goals as goal

pub returns-in_err-next_line : goal.returns-in_err-next_line
returns-in_err-next_line g c =
    let e = c.in_err-next_line.ensures.err in
    broken_off _ _ _ _ _ _ _ _ _ _ c.loop-count.invariant e.0 _ e.1 _ c.from_residual.result c.in_err-next_line.field-0.0 0 c.from_residual.ensures.1 c.in_err-next_line.ensures.cause e.2 e.3

pub returns-in-End : goal.returns-in-End
returns-in-End g c =
    let got = c.in_ok-next_line.ensures.next in
    let none = subst (λ (x : Next). IsNextLine x got.0 c.next_line.new.line.items) c.in-End.is got.2 in
    at_end _ _ _ _ _ _ _ _ _ _ c.loop-count.invariant got.0 _ got.1 _ tt none (c.in_ok-next_line.ensures.end (ap is_last c.in-End.is))

pub returns-in-Last : goal.returns-in-Last
returns-in-Last g c =
    let got = c.in_ok-next_line.ensures.next in
    let last = subst (λ (x : Next). IsNextLine x got.0 c.next_line.new.line.items) c.in-Last.is got.2 in
    let kept = subst (λ (xs : List ℕ). IsKeptLine c.in-Last.kept got.0 xs) (sym c.deref.ensures.value) last.2 in
    let taken = c.reply.ensures.taken got.0 kept in
    at_last _ _ _ _ _ _ _ _ _ _ c.loop-count.invariant got.0 _ got.1 _ _ _ _ got.0 taken.0 taken.1 c.reply.result (one_line got.0 last.0 last.1) (c.in_ok-next_line.ensures.end (ap is_last c.in-Last.is)) c.reply.ensures.cause taken.2

pub returns-in_err-reply-in-Line : goal.returns-in_err-reply-in-Line
returns-in_err-reply-in-Line g c =
    let got = c.in_ok-next_line.ensures.next in
    let line = subst (λ (x : Next). IsNextLine x got.0 c.next_line.new.line.items) c.in-Line.is got.2 in
    let kept = subst (λ (xs : List ℕ). IsKeptLine c.in-Line.kept line.0 xs) (sym c.deref-in-Line.ensures.value) line.2 in
    let taken = c.in_err-reply-in-Line.ensures.taken line.0 kept in
    stopped _ _ _ _ _ _ _ _ _ _ c.loop-count.invariant got.0 _ got.1 _ _ _ _ line.0 taken.0 taken.1
    c.from_residual-in_err-reply-in-Line.result c.in_err-reply-in-Line.field-0.0
    c.from_residual-in_err-reply-in-Line.ensures.1 c.in_err-reply-in-Line.ensures.cause
    (one_ended line.0 got.0 line.1 line.3) taken.2

pub loop-count-preserved : goal.loop-count-preserved
loop-count-preserved g c =
    let got = c.in_ok-next_line.ensures.next in
    let line = subst (λ (x : Next). IsNextLine x got.0 c.next_line.new.line.items) c.in-Line.is got.2 in
    let kept = subst (λ (xs : List ℕ). IsKeptLine c.in-Line.kept line.0 xs) (sym c.deref-in-Line.ensures.value) line.2 in
    let taken = c.in_ok-reply-in-Line.ensures.taken line.0 kept in
    next _ _ _ _ _ _ _ _ _ _ c.loop-count.invariant got.0 _ got.1 (g.S.Source.has_failed c.next_line.new.source) _ _ _ line.0 taken.0 taken.1 line.1 line.3 taken.2
