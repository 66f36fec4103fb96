use Rattle.std.proofs.Common.{◌≡◌, ◌<◌, ◌^◌, None, refl, sym, ◌∙◌, subst, arith, rules}
use Rattle.std.specs.Ordering.{nat_cmp}
use Rattle.fm_lattice.specs.Maps.{IsRising}
use Rattle.fm_records.specs.Options.{only_if}
use Rattle.fm_records.specs.Facts.{holder_of}
use Rattle.fm_round.specs.inner.MachineHoldings.{is_counted}
use Rattle.fm_tally.proofs.Walk.{IsWalk, first_row, first_entries, walk_on, walk_begins}
use Rattle.fm_round.proofs.Counting.{IsCounting, counting_begins, counting_skips, counting_adds}
use Rattle.fm_round.proofs.machine_holdings.Holdings.count.Goals as goal

pub loop-task-init : goal.loop-task-init
loop-task-init c =
    let k = c.args.knowledge.now in
    let whole : c.into_iter-task-iterator.result ≡ k.tasks = search rules in
    record {
      counting = subst (λ xs. IsCounting k xs c.args.self.now) (sym whole) (counting_begins k c.args.self.now c.requires);
      walk = subst (λ xs. IsWalk k xs c.of-winners.result) (sym whole) (subst (IsWalk k k.tasks) (sym c.of-winners.ensures) (walk_begins k (subst (IsRising nat_cmp) c.tasks.ensures c.iter-task-items.ensures.map.rising)));
      counted = λ m. refl;
    }

pub holder-requires-clause-found : goal.holder-requires-clause-found
holder-requires-clause-found c =
    let k = c.args.knowledge.now in
    first_row k c.in-Some.task.now c.in-Some.record.now c.next.new.self c.loop-task.winners (subst (λ xs. IsWalk k xs c.loop-task.winners) c.in-Some.ensures.steps c.loop-task.invariant.walk)

pub holder-requires-clause-entries : goal.holder-requires-clause-entries
holder-requires-clause-entries c =
    let k = c.args.knowledge.now in
    first_entries k c.in-Some.task.now c.in-Some.record.now c.next.new.self c.loop-task.winners (subst (λ xs. IsWalk k xs c.loop-task.winners) c.in-Some.ensures.steps c.loop-task.invariant.walk) c.in-Some.record.now.1.attempt

pub loop-task-preserved-in-Continue-1 : goal.loop-task-preserved-in-Continue-1
loop-task-preserved-in-Continue-1 c =
    let k = c.args.knowledge.now in
    let t = c.in-Some.task.now in
    let v = c.in-Some.record.now in
    let rest = c.next.new.self in
    let old = c.loop-task.self in
    let new = c.add.new.self in
    let r = c.request_in.result in
    let told = c.in_ok-add.ensures in
    let fits : r < 2 ^ 32 = omega arith in
    record {
      counting = counting_adds k t c.in-Some-holder.machine r v rest old new (sym c.holder.ensures.holder ∙ c.in-Some-holder.is) c.request_in.ensures fits told.requests told.tasks told.counted (subst (λ xs. IsCounting k xs old) c.in-Some.ensures.steps c.loop-task.invariant.counting);
      walk = walk_on k t v rest c.loop-task.winners (subst (λ xs. IsWalk k xs c.loop-task.winners) c.in-Some.ensures.steps c.loop-task.invariant.walk) v.1.attempt c.holder.new.winners c.holder.ensures.ahead;
      counted = λ m. told.counted m ∙ c.loop-task.invariant.counted m;
    }

pub loop-task-preserved : goal.loop-task-preserved
loop-task-preserved c =
    let k = c.args.knowledge.now in
    let t = c.in-Some.task.now in
    let v = c.in-Some.record.now in
    let rest = c.next.new.self in
    let old = c.loop-task.self in
    let none : only_if (is_counted old) (holder_of k t) ≡ None = sym c.holder.ensures.holder ∙ c.in_default.is in
    record {
      counting = counting_skips k t v rest old none (subst (λ xs. IsCounting k xs old) c.in-Some.ensures.steps c.loop-task.invariant.counting);
      walk = walk_on k t v rest c.loop-task.winners (subst (λ xs. IsWalk k xs c.loop-task.winners) c.in-Some.ensures.steps c.loop-task.invariant.walk) v.1.attempt c.holder.new.winners c.holder.ensures.ahead;
      counted = c.loop-task.invariant.counted;
    }
