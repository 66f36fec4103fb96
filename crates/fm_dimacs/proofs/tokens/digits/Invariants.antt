-- The rest goes on from the number so far as the whole does from the first digit.
use Rattle.std.proofs.Common.{◌≡◌, ◌<◌, ◌^◌, drop}
use Rattle.fm_dimacs.specs.inner.Scan.{digits_from}
use Rattle.fm_dimacs.proofs.tokens.digits.Given as goal

abbrev pub invariant-loop-i : goal.invariant-loop-i
invariant-loop-i l = record { so_far : digits_from l.number (drop l.i l.bytes) ≡ digits_from l.first l.bytes; fits : l.number < 2 ^ 64 }
