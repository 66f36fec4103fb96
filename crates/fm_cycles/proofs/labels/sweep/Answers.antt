use Rattle.std.proofs.Common.{◌≡◌, ◌<◌, ◌≤◌, length, true, false, sym, subst, rules, arith}
use Rattle.fm_cycles.specs.Residual.{residual}
use Rattle.fm_cycles.proofs.Lowered.{past}
use Rattle.fm_cycles.proofs.Swept.{one_more, all, turn_of, turn_less}
use Rattle.fm_cycles.proofs.labels.sweep.Goals as goal
use Rattle.fm_cycles.proofs.labels.sweep.Goals.{then-backwards, else-backwards}

pub loop-turn-preserved : goal.loop-turn-preserved
loop-turn-preserved c =
    let n = length c.args.arcs.now in
    let less : c.loop-turn.turn < n = search rules in
    let within : c.if-backwards.place < n = elim c.if-backwards.branch [ then-backwards w ↦ (let e = w.place-is in omega arith) | else-backwards w ↦ (let e = w.place-is in omega arith) ] in
    let is : turn_of c.args.backwards n c.if-backwards.place ≡ c.loop-turn.turn = elim c.if-backwards.branch [
      | then-backwards w ↦ let e = w.place-is in let b : c.args.backwards ≡ true = search (rules, w) in subst (λ x. turn_of x n c.if-backwards.place ≡ c.loop-turn.turn) (sym b) (omega arith)
      | else-backwards w ↦ let e = w.place-is in let b : c.args.backwards ≡ false = search (rules, w) in subst (λ x. turn_of x n c.if-backwards.place ≡ c.loop-turn.turn) (sym b) (omega arith)
    ] in
    let costs : length c.relax.new.labels.costs.items ≡ length c.loop-turn.labels.costs.items = search (rules, c.relax.ensures.costs) in
    let parents : length c.relax.new.labels.parents.items ≡ length c.loop-turn.labels.costs.items = search (rules, c.relax.ensures.parents) in
    one_more (residual c.args.arcs.now c.args.units.now) c.args.backwards n c.args.labels.now c.loop-turn.turn c.if-backwards.place c.loop-turn.labels c.relax.new.labels
    (λ s can. past c.args.arcs.now c.args.units.now s n (omega arith) can) less within is c.loop-turn.invariant c.relax.ensures.relaxed costs parents

pub returns-clause-swept : goal.returns-clause-swept
returns-clause-swept c =
    let n = length c.args.arcs.now in
    let end : n ≤ c.loop-turn.turn = omega arith in
    all (residual c.args.arcs.now c.args.units.now) c.args.backwards n c.args.labels.now c.loop-turn.turn c.loop-turn.labels
    (λ s can. let one = turn_less c.args.backwards n s.arc (past c.args.arcs.now c.args.units.now s n (omega arith) can) in omega arith) c.loop-turn.invariant
