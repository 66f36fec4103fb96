use Rattle.std.proofs.Common.{drop}
use Rattle.fm_planner.specs.inner.Slackness.{AllOf, IsNoCheaper}
use Rattle.fm_planner.proofs.checking.are_no_cheaper.Given as goal

abbrev pub invariant-loop-machine : goal.invariant-loop-machine
invariant-loop-machine l =
    AllOf (IsNoCheaper l.tally l.claim l.request l.cost) (drop l.machine-index l.preferred)
    → AllOf (IsNoCheaper l.tally l.claim l.request l.cost) l.preferred
