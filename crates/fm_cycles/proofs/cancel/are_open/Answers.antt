use Rattle.std.proofs.Common.{◌≡◌, ◌∙◌, ◌<◌, ◌+◌, suc, false, List, ◌∷◌, ap, sym, subst, drop, get_or, arith}
use Rattle.std.proofs.Math.Seq.{drop-cons}
use Rattle.std.proofs.Math.ListN.{drop_of_length-le}
use Rattle.std.specs.Prelude.{slice_get, slice_index}
use Rattle.fm_cycles.specs.Residual.{residual}
use Rattle.fm_cycles.specs.inner.OpenWalks.{AreOpen}
use Rattle.fm_cycles.specs.declared.indexed_arcs.ResidualArc.{ResidualArc}
use Rattle.fm_cycles.proofs.Cancelled.{opened_at, room_open, open_room}
use Rattle.fm_cycles.proofs.cancel.are_open.Goals as goal

abbrev none : ResidualArc
none = record { arc = 0; forward = false }

pub loop-step-init : goal.loop-step-init
loop-step-init c = λ all. all

pub loop-step-preserved : goal.loop-step-preserved
loop-step-preserved c =
    let g = residual c.args.arcs.now c.args.units.now in
    let steps = c.args.steps.now in
    let i = c.loop-step.step-index in
    let s = get_or steps i none in
    let more : suc i ≡ i + 1 = omega arith in
    let next : drop i steps ≡ s ∷ drop (i + 1) steps = drop-cons steps i none c.loop-step-test.true ∙ ap (λ n. s ∷ drop n steps) more in
    let some : 0 < c.room.result = let no = c.if-room-eq0.false in omega arith in
    let can : g.is_open s = room_open (slice_get c.args.arcs.now s.arc) s.forward (slice_index c.args.units.now s.arc) (let e = c.room.ensures in omega arith) in
    λ rest. c.loop-step.invariant (subst (λ (p : List ResidualArc). AreOpen g p) (sym next) (can, rest))

pub returns-then-room-eq0 : goal.returns-then-room-eq0
returns-then-room-eq0 c = (
  λ no. absurd (cc),
  λ all.
      let s = get_or c.args.steps.now c.loop-step.step-index none in
      let can = opened_at (residual c.args.arcs.now c.args.units.now) c.args.steps.now c.loop-step.step-index none c.loop-step-test.true all in
      let some = open_room (slice_get c.args.arcs.now s.arc) s.forward (slice_index c.args.units.now s.arc) can in
      let e = c.room.ensures in
      let z = c.if-room-eq0.true in
      absurd (omega arith),
)

pub returns : goal.returns
returns c = (
  λ _. c.loop-step.invariant (subst (λ (p : List ResidualArc). AreOpen (residual c.args.arcs.now c.args.units.now) p) (sym (drop_of_length-le c.args.steps.now c.loop-step-test.false)) tt),
  λ _. cc,
)
