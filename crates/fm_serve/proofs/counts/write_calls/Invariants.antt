use Rattle.std.proofs.Common.{◌≡◌, ◌++◌, string_bytes, drop}
use Rattle.std.specs.List.{flat_map}
use Rattle.fm_serve.specs.Musters.{calls_line}
use Rattle.fm_serve.proofs.counts.write_calls.Given as goal

abbrev pub invariant-loop-call : goal.invariant-loop-call
invariant-loop-call l = string_bytes l.text ++ flat_map calls_line (drop l.call-index l.calls) ≡ string_bytes l.initial.text ++ flat_map calls_line l.calls
