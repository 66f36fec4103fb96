use Rattle.std.specs.Prelude.{◌≡◌}
use Rattle.fm_gossip.proofs.intake.next_packet.Given as goal

abbrev pub invariant-loop : goal.invariant-loop
invariant-loop g l = l.own.port ≡ l.fn.own.port
