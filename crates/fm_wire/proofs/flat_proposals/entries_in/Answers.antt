use Rattle.std.proofs.Common.{◌++◌, refl, ap, ◌∙◌}
use Rattle.fm_wire.specs.Grammar.{flat_of}
use Rattle.fm_wire.proofs.Walks.{none_left}
use Rattle.fm_wire.proofs.Grouped.{entries_rise, maps_rise, group_fits, groups_step}
use Rattle.fm_wire.proofs.flat_proposals.entries_in.Goals as goal

pub loop-attempt-init : goal.loop-attempt-init
loop-attempt-init c =
    ap (λ z. z ++ flat_of c.into_iter-attempt-iterator.result) c.new-entries.ensures
    ∙ ap flat_of (c.into_iter-attempt-iterator.ensures.into_iter_gives ∙ c.iter-attempt-items.ensures.rest)

pub add_entries-requires : goal.add_entries-requires
add_entries-requires c =
    let map = c.iter-attempt-items.ensures.map in
    let rising = entries_rise c.args.proposals.now map.rising (maps_rise c.args.proposals.now map.values) in
    group_fits c.in-Some.attempt.now c.in-Some.spots.now c.loop-attempt.entries (flat_of c.args.proposals.now) c.loop-attempt.attempt-iterator c.next.new.self c.in-Some.ensures.steps rising c.loop-attempt.invariant

pub loop-attempt-preserved : goal.loop-attempt-preserved
loop-attempt-preserved c =
    groups_step c.in-Some.attempt.now c.in-Some.spots.now c.loop-attempt.entries c.add_entries.new.entries (flat_of c.args.proposals.now) c.loop-attempt.attempt-iterator c.next.new.self
    c.in-Some.ensures.steps c.loop-attempt.invariant c.in_ok-add_entries.ensures

pub returns : goal.returns
returns c = none_left flat_of c.loop-attempt.entries _ c.loop-attempt.attempt-iterator c.in-None.ensures.steps.0 refl c.loop-attempt.invariant
