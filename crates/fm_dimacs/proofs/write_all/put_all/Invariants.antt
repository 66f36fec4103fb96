use Rattle.std.proofs.Common.{◌≡◌, ◌++◌, ℕ, List, length}
use Rattle.std.specs.Io.KnownBytes.{Appends}
use Rattle.fm_dimacs.proofs.write_all.put_all.Given as goal

abbrev pub invariant-loop-rest : goal.invariant-loop-rest
invariant-loop-rest g l = record {
  sent : List ℕ;
  whole : l.piece ≡ sent ++ l.rest;
  appended : Appends (g.W.Out.written l.initial.out) (g.W.Out.written l.out) sent;
  fails_not : g.W.Out.has_failed l.out ≡ g.W.Out.has_failed l.initial.out;
}

abbrev pub decreases-loop-rest : goal.decreases-loop-rest
decreases-loop-rest g l = length l.rest
