use Rattle.std.proofs.Common.{sym, subst, arith}
use Rattle.std.proofs.lemmas.Int.{ints}
use Rattle.fm_certificate.proofs.Small.{IsWithin, within_at}
use Rattle.fm_why.proofs.bounds.reduced.Goals as goal

pub overflow_add-result : goal.overflow_add-result
overflow_add-result c =
    let from = subst IsWithin (sym c.potential.ensures) (within_at c.args.potentials.now c.args.from.now c.requires.small) in
    omega (arith, ints, from.above, from.below)

pub overflow_sub-result : goal.overflow_sub-result
overflow_sub-result c =
    let from = subst IsWithin (sym c.potential.ensures) (within_at c.args.potentials.now c.args.from.now c.requires.small) in
    let to = subst IsWithin (sym c.potential-2.ensures) (within_at c.args.potentials.now c.args.to.now c.requires.small) in
    omega (arith, ints, from.above, from.below, to.above, to.below)

pub returns-clause-is : goal.returns-clause-is
returns-clause-is c =
    let from = subst IsWithin (sym c.potential.ensures) (within_at c.args.potentials.now c.args.from.now c.requires.small) in
    let to = subst IsWithin (sym c.potential-2.ensures) (within_at c.args.potentials.now c.args.to.now c.requires.small) in
    rw (← c.potential.ensures, ← c.potential-2.ensures) (omega (arith, ints, from.above, from.below, to.above, to.below, c.from.ensures))

pub returns-clause-fits : goal.returns-clause-fits
returns-clause-fits c =
    let from = subst IsWithin (sym c.potential.ensures) (within_at c.args.potentials.now c.args.from.now c.requires.small) in
    let to = subst IsWithin (sym c.potential-2.ensures) (within_at c.args.potentials.now c.args.to.now c.requires.small) in
    omega (arith, ints, from.above, from.below, to.above, to.below, c.from.ensures)
