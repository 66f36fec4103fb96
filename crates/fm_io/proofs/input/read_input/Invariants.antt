use Rattle.std.proofs.Common.{◌≡◌, ◌≤◌, ◌-◌, vec_len}
use Rattle.std.specs.Io.KnownBytes.{Consumes}
use Rattle.fm_io.proofs.input.read_input.Given as goal

abbrev pub invariant-pieces : goal.invariant-pieces
invariant-pieces g l = record {
  few : vec_len l.bytes ≤ 16777216;
  consumed : Consumes (g.S.Source.remaining l.initial.source) (g.S.Source.remaining l.source) l.bytes.items;
  fails_not : g.S.Source.has_failed l.source ≡ g.S.Source.has_failed l.initial.source;
}

abbrev pub decreases-pieces : goal.decreases-pieces
decreases-pieces g l = 16777216 - vec_len l.bytes
