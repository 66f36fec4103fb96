use Rattle.std.proofs.Common.{◌≡◌, ℕ}
use Rattle.fm_round.specs.inner.MachineHoldings.{is_counted}
use Rattle.fm_round.proofs.Counting.{IsCounting}
use Rattle.fm_tally.proofs.Walk.{IsWalk}
use Rattle.fm_round.proofs.machine_holdings.Holdings.count.Given as goal

abbrev pub invariant-loop-task : goal.invariant-loop-task
invariant-loop-task l = record {
  counting : IsCounting l.knowledge l.task-iterator l.self;
  walk : IsWalk l.knowledge l.task-iterator l.winners;
  counted : (m : ℕ) → is_counted l.self m ≡ is_counted l.fn.self m;
}
