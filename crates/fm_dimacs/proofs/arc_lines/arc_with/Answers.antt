-- No arc of these IDs can be where a test failed.
use Rattle.std.proofs.Common.{arith}
use Rattle.fm_dimacs.proofs.Arcs.{known}
use Rattle.fm_dimacs.proofs.arc_lines.arc_with.Goals as goal
use Rattle.fm_dimacs.proofs.arc_lines.arc_with.Goals.{else-joins-via-then-joins+then-capacity-ge1+else-cost-from, else-joins-via-then-joins+else-capacity-ge1, else-joins-via-else-joins}

pub returns-else-joins-clause-none : goal.returns-else-joins-clause-none
returns-else-joins-clause-none c = λ a is e.
    let k = known c.args.nodes.now a c.args.numbers c.in-Some.from c.in-Some-node_with.to is e c.in-Some.ensures.some c.in-Some-node_with.ensures.some in
    elim c.else-joins.branch [
      | else-joins-via-then-joins+then-capacity-ge1+else-cost-from w ↦ absurd (omega (arith, k.cost))
      | else-joins-via-then-joins+else-capacity-ge1 w ↦ absurd (omega (arith, k.capacity))
      | else-joins-via-else-joins w ↦ let yes = c.joins.ensures.1 k.kinds in absurd (let never : ⊥ = cc in never)
    ]
