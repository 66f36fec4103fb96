use Rattle.std.proofs.Common.{◌≡◌, ◌+◌, ◌*◌, ◌<◌, ◌≤◌, ◌^◌, length}
use Rattle.std.specs.List.{sum_by}
use Rattle.fm_wire.specs.inner.RecordSizes.{machine_size}
use Rattle.fm_wire.proofs.packet_size.size_of_machines.Given as goal

abbrev pub invariant-loop-known : goal.invariant-loop-known
invariant-loop-known l = record {
  few : length l.value.machines < 2 ^ 64;
  so_far : l.size + sum_by machine_size l.known-iterator ≡ sum_by machine_size l.value.machines;
  fits : l.size + 2 ^ 32 * length l.known-iterator ≤ 2 ^ 32 * length l.value.machines;
}
