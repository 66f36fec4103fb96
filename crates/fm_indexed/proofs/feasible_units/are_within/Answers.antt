use Rattle.std.proofs.Common.{◌≡◌, ◌≤◌, Some, get_or, arith}
use Rattle.std.specs.Prelude.{slice_get, slice_index}
use Rattle.std.proofs.lemmas.Option.{slice_get-get_or}
use Rattle.fm_cycles.specs.declared.indexed_arcs.IndexedArc.{IndexedArc}
use Rattle.fm_indexed.proofs.Summed.{within_step}
use Rattle.fm_indexed.proofs.feasible_units.are_within.Goals as goal

pub loop-place-preserved : goal.loop-place-preserved
loop-place-preserved c =
    let none : IndexedArc = record { from = 0; to = 0; capacity = 0; cost = 0 } in
    let i = c.loop-place.place in
    let a = get_or c.args.arcs.now i none in
    let there : slice_get c.args.arcs.now i ≡ Some a = slice_get-get_or c.args.arcs.now i none (omega arith) in
    let step = within_step c.args.arcs.now c.args.units.now i a there in
    let sent = c.at.ensures in
    let fits = c.if-at-arc.false in
    let most : slice_index c.args.units.now i ≤ a.capacity = omega arith in
    let so_far = c.loop-place.invariant in
    (λ h. (step.0 (so_far.0 h)).1, λ h. so_far.1 (step.1 (most, h)))
