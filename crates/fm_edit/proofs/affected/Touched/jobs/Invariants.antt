use Rattle.std.proofs.Common.{◌≡◌, ◌⊎◌, ℕ, true, false, drop}
use Rattle.fm_net.specs.declared.node.Node.TheVariants.{Unscheduled}
use Rattle.fm_net.specs.declared.node.Node.{Node}
use Rattle.fm_edit.specs.Dirty.{has_id}
use Rattle.fm_edit.specs.inner.Affected.{AffectedGrows, has_touched, IsNodeOf}
use Rattle.fm_edit.proofs.affected.Touched.jobs.Given as goal

abbrev pub invariant-loop-job : goal.invariant-loop-job
invariant-loop-job l = record {
  grows : AffectedGrows l.fn.self l.self;
  touches : (x : ℕ) → has_id l.jobs x ≡ true → has_id (drop l.job-index l.jobs) x ≡ false → has_touched l.self (Unscheduled x) ≡ true;
  only : (n : Node) → has_touched l.self n ≡ true → (has_touched l.fn.self n ≡ true) ⊎ IsNodeOf Unscheduled l.jobs n;
  pairs : l.self.pairs ≡ l.fn.self.pairs;
}
