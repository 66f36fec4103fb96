use Rattle.std.proofs.Common.{◌≡◌, ◌++◌, codes, decimal, string_bytes, take}
use Rattle.std.specs.List.{flat_map}
use Rattle.fm_salvage.proofs.listing.head_text.Given as goal

abbrev pub invariant-loop-number : goal.invariant-loop-number
invariant-loop-number l = string_bytes l.line ≡ string_bytes l.initial.line ++ flat_map (λ n. codes " " ++ decimal n) (take l.number-index l.numbers)
