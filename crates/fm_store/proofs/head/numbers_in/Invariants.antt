use Rattle.std.proofs.Common.{◌≡◌, IsTrue, take}
use Rattle.std.specs.List.{list_all}
use Rattle.fm_records.specs.Ids.{is_coordinator}
use Rattle.fm_store.proofs.head.numbers_in.Given as goal

abbrev pub invariant-loop-byte : goal.invariant-loop-byte
invariant-loop-byte l = record {
  so_far : l.numbers.items ≡ take l.byte-index l.bytes;
  are : IsTrue (list_all is_coordinator (take l.byte-index l.bytes));
}
