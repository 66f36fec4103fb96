use Rattle.std.proofs.Common.{◌≡◌, take}
use Rattle.std.specs.List.{flat_map}
use Rattle.fm_query.specs.QueryTexts.{line_of}
use Rattle.fm_salvage.proofs.recovering.lines_of.Given as goal

abbrev pub invariant-loop-packet : goal.invariant-loop-packet
invariant-loop-packet l = l.text.items ≡ flat_map line_of (take l.packet-index l.packets)
