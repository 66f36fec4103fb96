use Rattle.std.proofs.Common.{◌≡◌, drop}
use Rattle.std.specs.VecDeque.{deque_capacity}
use Rattle.fm_delta.proofs.buffer.let_go.Given as goal

abbrev pub invariant-loop-i : goal.invariant-loop-i
invariant-loop-i l = record {
  items : l.deltas.items ≡ drop l.i l.fn.deltas.items;
  capacity : deque_capacity l.deltas ≡ deque_capacity l.fn.deltas;
}
