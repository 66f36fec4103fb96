use Rattle.fm_relief.proofs.Fronts.{IsAlong}
use Rattle.fm_relief.proofs.preempted.front_len.Given as goal

abbrev pub invariant-loop-index : goal.invariant-loop-index
invariant-loop-index l = IsAlong l.nic l.tasks l.left l.index
