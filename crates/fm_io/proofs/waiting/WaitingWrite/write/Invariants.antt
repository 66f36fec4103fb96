use Rattle.std.specs.Io.KnownBytes.{Keeps}
use Rattle.fm_io.proofs.waiting.WaitingWrite.write.Given as goal

abbrev pub invariant-loop : goal.invariant-loop
invariant-loop g l = Keeps (g.T.Write.contents l.initial.self-inside.inner) (g.T.Write.contents l.self-inside.inner)
