use Rattle.std.proofs.Common.{◌≡◌, ◌++◌, drop}
use Rattle.std.specs.List.{filter_map}
use Rattle.fm_round.specs.PlanOfFlow.{unscheduled_in, preempt_of}
use Rattle.fm_round.proofs.from_units.preempts_of.Given as goal

abbrev pub invariant-loop-arc : goal.invariant-loop-arc
invariant-loop-arc l = l.found.items ++ filter_map (preempt_of l.knowledge) (filter_map unscheduled_in (drop l.arc-index l.flow)) ≡ filter_map (preempt_of l.knowledge) (filter_map unscheduled_in l.flow)
