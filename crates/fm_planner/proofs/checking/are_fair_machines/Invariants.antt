use Rattle.std.proofs.Common.{drop}
use Rattle.fm_planner.specs.inner.Slackness.{AllOf, IsFairMachine}
use Rattle.fm_planner.proofs.checking.are_fair_machines.Given as goal

abbrev pub invariant-loop-machine : goal.invariant-loop-machine
invariant-loop-machine l = AllOf (IsFairMachine l.claim l.counts) (drop l.machine-index l.machine-items) → AllOf (IsFairMachine l.claim l.counts) l.tally.machines
