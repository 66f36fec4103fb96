use Rattle.std.specs.Io.KnownBytes.{Keeps}
use Rattle.fm_io.proofs.interrupts.ResumingWrite.write.Given as goal

abbrev pub invariant-loop : goal.invariant-loop
invariant-loop g l = Keeps (g.W.Write.contents l.initial.self-inside.writer) (g.W.Write.contents l.self-inside.writer)
