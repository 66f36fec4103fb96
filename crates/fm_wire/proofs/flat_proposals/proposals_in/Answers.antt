use Rattle.std.proofs.Common.{◌≡◌, ◌∷◌, [], ap, ◌∙◌}
use Rattle.fm_lattice.specs.Joins.{min_join}
use Rattle.fm_lattice.specs.Maps.{put}
use Rattle.std.specs.Ordering.{nat_cmp}
use Rattle.fm_records.specs.Orders.{spot_cmp, attempt_cmp}
use Rattle.fm_records.specs.Joined.{spots_join}
use Rattle.fm_wire.proofs.Grouped.{groups_begin, entry_step, groups_end}
use Rattle.fm_wire.proofs.flat_proposals.proposals_in.Goals as goal

pub loop-key-init : goal.loop-key-init
loop-key-init c = groups_begin c.new-proposals.result c.into_iter-key-iterator.result c.args.entries.now c.new-proposals.ensures (c.into_iter-key-iterator.ensures.into_iter_gives ∙ c.iter-key-items.ensures.rest)

pub loop-key-preserved : goal.loop-key-preserved
loop-key-preserved c =
    let key = c.in-Some.key.now in
    let spot = c.in-Some.spot.now in
    let spots : c.put.new.self ≡ (key.1, spot) ∷ [] = c.in_ok-put.ensures.ok ∙ ap (put nat_cmp (min_join spot_cmp) key.1 spot) c.new-spots.ensures in
    let joined = c.in_ok-put-2.ensures.ok ∙ ap (λ z. put attempt_cmp spots_join key.0 z c.loop-key.proposals) spots in
    entry_step key.0 key.1 spot c.loop-key.proposals c.put-in-loop-key.new.self c.loop-key.key-iterator c.next.new.self c.args.entries.now c.in-Some.ensures.steps c.iter-key-items.ensures.map.rising c.loop-key.invariant joined

pub returns-clause-entries : goal.returns-clause-entries
returns-clause-entries c = groups_end c.loop-key.proposals c.loop-key.key-iterator c.args.entries.now c.in-None.ensures.steps.0 c.loop-key.invariant

pub returns-clause-full : goal.returns-clause-full
returns-clause-full c = record { rising = c.loop-key.invariant.rising; values = c.loop-key.invariant.full }
