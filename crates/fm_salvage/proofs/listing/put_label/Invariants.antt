use Rattle.std.proofs.Common.{◌≡◌, ◌++◌, map, take}
use Rattle.fm_salvage.specs.ListingText.{shown}
use Rattle.fm_salvage.proofs.listing.put_label.Given as goal

abbrev pub invariant-loop-byte : goal.invariant-loop-byte
invariant-loop-byte l = l.text.items ≡ l.initial.text.items ++ map shown (take l.byte-index l.label)
