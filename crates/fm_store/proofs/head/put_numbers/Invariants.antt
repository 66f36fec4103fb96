use Rattle.std.proofs.Common.{◌≡◌, ◌++◌, take}
use Rattle.fm_store.proofs.head.put_numbers.Given as goal

abbrev pub invariant-loop-number : goal.invariant-loop-number
invariant-loop-number l = l.out.items ≡ l.initial.out.items ++ take l.number-index l.numbers
