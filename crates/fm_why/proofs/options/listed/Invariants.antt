use Rattle.std.proofs.Common.{◌≡◌, ◌++◌, map}
use Rattle.std.specs.List.{All}
use Rattle.std.specs.Prelude.{filter}
use Rattle.std.specs.Map.{keys_of}
use Rattle.fm_why.specs.inner.MachineWays.{has_way, machine_ways}
use Rattle.fm_why.specs.inner.Schedule.{IsBounded}
use Rattle.fm_why.proofs.options.listed.Given as goal

abbrev pub invariant-loop-machine : goal.invariant-loop-machine
invariant-loop-machine l = record {
  each : All (IsBounded l.network l.schedule l.task l.request) l.found.items;
  all : map (λ e. e.machine) l.found.items ++ filter (has_way l.network l.task l.request) (keys_of l.machine-iterator) ≡ machine_ways l.knowledge l.network l.task l.request;
}
