use Rattle.std.proofs.Common.{List, ℕ, ◌+◌, ◌<◌, sym, ap, subst, arith}
use Rattle.fm_io.specs.declared.lines.Next.{Next}
use Rattle.fm_io.specs.LineReads.{IsKeptLine, IsNextLine, is_last}
use Rattle.fm_io.proofs.Running.{one_line}
use Rattle.fm_io.proofs.GroupRuns.{group_first, group_open, group_at_end, group_cut_off, group_more, group_last}
use Rattle.fm_io.proofs.group_commit.answer_group.Goals as goal

pub loop-count-init : goal.loop-count-init
loop-count-init g c = record { run = group_first _ _ _ _ _ c.new-held.ensures.none c.new-held.ensures.empty; room = c.new-held.ensures.room }

pub returns-in-Err : goal.returns-in-Err
returns-in-Err g c =
    let e = c.in-Err.ensures.err in
    group_cut_off _ _ _ _ _ _ _ _ c.loop-count.invariant.run e.0 _ e.1 (g.S.Source.has_failed c.next_line.new.source) e.2 e.3

pub returns-in-Ok-End : goal.returns-in-Ok-End
returns-in-Ok-End g c =
    let got = c.in-Ok-End.ensures.next in
    let none = subst (λ (x : Next). IsNextLine x got.0 c.next_line.new.line.items) c.in-Ok-End.field-0-is got.2 in
    group_at_end _ _ _ _ _ _ _ _ c.loop-count.invariant.run got.0 _ got.1 (g.S.Source.has_failed c.next_line.new.source) none (c.in-Ok-End.ensures.end (ap is_last c.in-Ok-End.field-0-is))

pub returns-in-Ok-Last : goal.returns-in-Ok-Last
returns-in-Ok-Last g c =
    let got = c.in-Ok-Last.ensures.next in
    let last = subst (λ (x : Next). IsNextLine x got.0 c.next_line.new.line.items) c.in-Ok-Last.field-0-is got.2 in
    let kept = subst (λ (xs : List ℕ). IsKeptLine c.in-Ok-Last.kept got.0 xs) (sym c.deref.ensures.value) last.2 in
    group_last _ _ _ _ _ _ _ _ c.loop-count.invariant.run got.0 _ got.1 _ _ _ got.0 _ (c.answer_line.ensures got.0 kept) c.add.ensures.any c.add.ensures.added (g.S.Source.has_failed c.next_line.new.source)
    (one_line got.0 last.0 last.1) (c.in-Ok-Last.ensures.end (ap is_last c.in-Ok-Last.field-0-is))

pub returns-then-is_full : goal.returns-then-is_full
returns-then-is_full g c =
    let got = c.in-Ok-Line.ensures.next in
    let line = subst (λ (x : Next). IsNextLine x got.0 c.next_line.new.line.items) c.in-Ok-Line.field-0-is got.2 in
    let kept = subst (λ (xs : List ℕ). IsKeptLine c.in-Ok-Line.kept line.0 xs) (sym c.deref-in-Ok-Line.ensures.value) line.2 in
    let more = group_more _ _ _ _ _ _ _ _ c.loop-count.invariant.run got.0 _ got.1 _ _ _ line.0 _ (c.answer_line-in-Ok-Line.ensures line.0 kept)
    c.add-in-Ok-Line.ensures.any c.add-in-Ok-Line.ensures.added line.1 line.3 in
    let some : 0 < c.loop-count.count + 1 = omega arith in
    group_open _ _ _ _ _ _ _ _ more (g.S.Source.has_failed c.next_line.new.source) some

pub loop-count-preserved : goal.loop-count-preserved
loop-count-preserved g c =
    let got = c.in-Ok-Line.ensures.next in
    let line = subst (λ (x : Next). IsNextLine x got.0 c.next_line.new.line.items) c.in-Ok-Line.field-0-is got.2 in
    let kept = subst (λ (xs : List ℕ). IsKeptLine c.in-Ok-Line.kept line.0 xs) (sym c.deref-in-Ok-Line.ensures.value) line.2 in
    record {
      run = group_more _ _ _ _ _ _ _ _ c.loop-count.invariant.run got.0 _ got.1 _ _ _ line.0 _ (c.answer_line-in-Ok-Line.ensures line.0 kept)
          c.add-in-Ok-Line.ensures.any c.add-in-Ok-Line.ensures.added line.1 line.3;
      room = c.is_full.ensures c.if-is_full.false;
    }

pub returns : goal.returns
returns g c =
    let some : 0 < c.loop-count.count = omega (arith, c.loop-count-test.false) in
    group_open _ _ _ _ _ _ _ _ c.loop-count.invariant.run (g.S.Source.has_failed c.loop-count.source) some
