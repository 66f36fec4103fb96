use Rattle.std.proofs.Common.{None, drop}
use Rattle.std.specs.Ordering.{nat_cmp}
use Rattle.std.specs.BTreeMap.{get}
use Rattle.fm_planner.specs.inner.Slackness.{GoInTurn}
use Rattle.fm_planner.proofs.checking.go_in_turn.Given as goal

abbrev pub invariant-loop-way : goal.invariant-loop-way
invariant-loop-way l = GoInTurn (get nat_cmp l.last) (drop l.way-index l.moves) → GoInTurn (λ r. None) l.moves
