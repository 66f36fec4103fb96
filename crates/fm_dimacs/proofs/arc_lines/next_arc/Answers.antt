-- The line's numbers are the arc's, and tell it from all others.
use Rattle.std.proofs.Common.{◌≡◌, [], sym, ◌∙◌, subst, arith}
use Rattle.fm_net.specs.inner.NetworkIter.{arc_entry}
use Rattle.fm_dimacs.specs.inner.Scan.{IsAfter}
use Rattle.fm_dimacs.proofs.Arcs.{no_numbers, same_numbers, arc_stands}
use Rattle.fm_dimacs.proofs.Leading.{ids_tell}
use Rattle.fm_dimacs.proofs.arc_lines.next_arc.Goals as goal

pub returns-in_default-clause-none : goal.returns-in_default-clause-none
returns-in_default-clause-none c = λ a behind is after e. no_numbers c.args.nodes.now c.args.text.now a behind (omega arith) is c.in_default.ensures e

pub returns-in_default-arc_with-clause-none : goal.returns-in_default-arc_with-clause-none
returns-in_default-arc_with-clause-none c = λ a behind is after e.
    c.in_default-arc_with.ensures.none a is (same_numbers c.args.nodes.now c.args.text.now a behind (c.in-Some.numbers, c.in-Some.behind.now) (omega arith) is c.in-Some.ensures e)

pub returns-then-comes_after-clause-some : goal.returns-then-comes_after-clause-some
returns-then-comes_after-clause-some c =
    let arc = arc_entry c.in-Some-arc_with.arc in
    (c.in-Some-arc_with.ensures.some.0, c.comes_after.ensures.0 c.if-comes_after.true, arc_stands c.args.nodes.now c.args.text.now arc (c.in-Some.numbers, c.in-Some.behind.now) c.in-Some-arc_with.ensures.some.1 c.in-Some.ensures)

pub returns-else-comes_after-clause-none : goal.returns-else-comes_after-clause-none
returns-else-comes_after-clause-none c = λ a behind is after e.
    let arc = arc_entry c.in-Some-arc_with.arc in
    let numbers = same_numbers c.args.nodes.now c.args.text.now a behind (c.in-Some.numbers, c.in-Some.behind.now) (omega arith) is c.in-Some.ensures e in
    let same : a ≡ arc = ids_tell c.args.nodes.now [] [] a arc is c.in-Some-arc_with.ensures.some.0 (numbers ∙ sym c.in-Some-arc_with.ensures.some.1) in
    let yes = c.comes_after.ensures.1 (subst (IsAfter c.args.last) same after) in
    let never : ⊥ = cc in never
