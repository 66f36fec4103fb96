use Rattle.fm_world.specs.inner.Sweeps.{AreFirstTaken}
use Rattle.fm_world.proofs.linearization.Linearization.take_first.Given as goal

abbrev pub invariant-loop-taken : goal.invariant-loop-taken
invariant-loop-taken l = AreFirstTaken l.at l.entries l.taken l.fn.self.steps.items l.self.steps.items l.fn.self.packets l.self.packets
