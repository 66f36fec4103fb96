use Rattle.std.proofs.Common.{arith}
use Rattle.fm_certificate.proofs.flow.Flow.leaving.Goals as goal

pub returns : goal.returns
returns c = rw (← c.self.view_is) (rw c.deref.ensures.value at c.sum_from.ensures)

pub sum_from-requires-clause-rises : goal.sum_from-requires-clause-rises
sum_from-requires-clause-rises c = rw (c.deref.ensures.value) c.self.invariant.rises

pub sum_from-requires-clause-fits : goal.sum_from-requires-clause-fits
sum_from-requires-clause-fits c = rw (c.deref.ensures.value) c.self.invariant.fits

pub sum_from-requires-clause-short : goal.sum_from-requires-clause-short
sum_from-requires-clause-short c = rw (c.deref.ensures.value) (omega (arith, c.self.inside.units.small, c.self.inside.units.ok.0, c.self.inside.units.ok.1))
