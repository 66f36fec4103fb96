use Rattle.std.specs.Io.KnownBytes.{Keeps}
use Rattle.fm_io.proofs.waiting.WaitingRead.read.Given as goal

abbrev pub invariant-loop : goal.invariant-loop
invariant-loop g l = Keeps (g.T.Read.remaining l.initial.self-inside.inner) (g.T.Read.remaining l.self-inside.inner)
