use Rattle.std.specs.Prelude.{◌≡◌}
use Rattle.fm_gossip.specs.Served.{AreRounds}
use Rattle.fm_gossip.proofs.solver.run_rounds.Given as goal

abbrev pub invariant-loop-i : goal.invariant-loop-i
invariant-loop-i g l = AreRounds g.L.NodeName.base l._i l.fn.seat l.seat × (l.seat.number ≡ l.fn.seat.number)
