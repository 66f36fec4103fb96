use Rattle.std.proofs.Common.{◌≡◌, ◌++◌, drop, map}
use Rattle.std.specs.Prelude.{flat_map}
use Rattle.fm_relief.specs.Relief.{as_preempt}
use Rattle.fm_relief.proofs.relief.plan_of.Given as goal

abbrev pub invariant-loop-machine : goal.invariant-loop-machine
invariant-loop-machine l = l.preempts.items ++ flat_map (λ r. map as_preempt r.preempts) (drop l.machine-index l.machines) ≡ flat_map (λ r. map as_preempt r.preempts) l.machines
