use Rattle.std.proofs.Common.{◌++◌, refl, ap, ◌∙◌}
use Rattle.fm_wire.specs.Grammar.{flat_at}
use Rattle.fm_wire.proofs.Walks.{none_left}
use Rattle.fm_wire.proofs.Grouped.{group_step}
use Rattle.fm_wire.proofs.flat_proposals.add_entries.Goals as goal

pub loop-coordinator-init : goal.loop-coordinator-init
loop-coordinator-init c = ap (λ z. c.args.entries.now ++ flat_at c.args.attempt.now z) (c.into_iter-coordinator-iterator.ensures.into_iter_gives ∙ c.iter-coordinator-items.ensures.rest)

pub loop-coordinator-preserved : goal.loop-coordinator-preserved
loop-coordinator-preserved c =
    group_step c.args.attempt.now c.in-Some.coordinator.now c.in-Some.spot.now c.loop-coordinator.entries c.put.new.self (c.args.entries.now ++ flat_at c.args.attempt.now c.args.spots.now)
    c.loop-coordinator.coordinator-iterator c.next.new.self c.in-Some.ensures.steps c.requires c.loop-coordinator.invariant c.in_ok-put.ensures.ok

pub returns : goal.returns
returns c = none_left (flat_at c.args.attempt.now) c.loop-coordinator.entries _ c.loop-coordinator.coordinator-iterator c.in-None.ensures.steps.0 refl c.loop-coordinator.invariant
