use Rattle.std.proofs.Common.{◌≡◌, ◌++◌, string_bytes, drop}
use Rattle.std.specs.List.{flat_map}
use Rattle.fm_query.specs.Unpacked.{preferred_text}
use Rattle.fm_query.proofs.unpack.write_preferred.Given as goal

abbrev pub invariant-loop-entry : goal.invariant-loop-entry
invariant-loop-entry l = string_bytes l.initial.lines ++ flat_map preferred_text l.prefer ≡ string_bytes l.lines ++ flat_map preferred_text (drop l.entry-index l.prefer)
