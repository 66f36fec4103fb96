use Rattle.std.proofs.Common.{◌∙◌, ◌≤◌, ℕ, ◌+◌, Bool, true, false, cond, take, subst, sym, ap, arith, rules}
use Rattle.std.specs.Prelude.{Option, ◌==◌, sum_by}
use Rattle.std.proofs.lemmas.List.{take_all}
use Rattle.std.proofs.lemmas.List.Sums.{sum_by_more}
use Rattle.fm_records.specs.Options.{passes}
use Rattle.fm_records.specs.Facts.{holds}
use Rattle.fm_tally.specs.declared.way.Way.{Way}
use Rattle.fm_paths.specs.TaskPaths.{goes_by, takes_slot}
use Rattle.fm_planner.specs.inner.Counts.{AreCounts, leaving_in}
use Rattle.fm_planner.proofs.move_counts.Counts.of.Goals as goal

at_most_one : (b : Bool) → cond {A = ℕ} b 1 0 ≤ 1
at_most_one true = omega arith
at_most_one false = omega arith

pub loop-task-preserved : goal.loop-task-preserved
loop-task-preserved c =
    let k = c.args.knowledge.now in
    let xs = c.args.moves.now in
    let i = c.loop-task.task-index in
    let item : ℕ × Way = c.loop-task-item.result in
    let so_far = c.loop-task.invariant in
    let added = c.in_ok-add.ensures in
    let left = λ (m : ℕ). added.leaving m ∙ ap (λ (h : Option ℕ). leaving_in c.loop-task.counts m + cond (passes (λ (n : ℕ). n == m) h) 1 0) c.holder_of-holder.ensures in
    let more = λ (p : ℕ × Way → Bool). sym (sum_by_more (λ x. cond (p x) 1 0) xs i item c.loop-task-test.true ∙ ap (λ x. sum_by (λ y. cond (p y) 1 0) (take i xs) + cond (p x) 1 0) (sym c.loop-task-item.is)) in
    record {
      counted = record {
        pairs = λ r m. added.pairs r m item.0 ∙ ap (λ n. n + cond (goes_by r m item) 1 0) (so_far.counted.pairs r m) ∙ more (goes_by r m);
        arriving = λ m. added.arriving m item.0 ∙ ap (λ n. n + cond (takes_slot m item) 1 0) (so_far.counted.arriving m) ∙ more (takes_slot m);
        leaving = λ m. left m ∙ ap (λ n. n + cond (holds k m item.0) 1 0) (so_far.counted.leaving m) ∙ more (λ (w : ℕ × Way). holds k m w.0);
      };
      pairs = λ r m. omega (arith, added.pairs r m item.0, so_far.pairs r m, at_most_one (goes_by r m item));
      arriving = λ m. omega (arith, added.arriving m item.0, so_far.arriving m, at_most_one (takes_slot m item));
      leaving = λ m. omega (arith, left m, so_far.leaving m, at_most_one (holds k m item.0));
    }

pub returns : goal.returns
returns c =
    let whole = take_all c.loop-task.task-index c.args.moves.now (search rules) in
    subst (λ es. AreCounts c.args.knowledge.now es c.loop-task.counts) whole c.loop-task.invariant.counted
