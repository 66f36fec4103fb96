use Rattle.std.proofs.Common.{◌≡◌, ◌+◌, [], ◌∷◌, length, Some, slice_get, vec_len, arith, ap, ◌∙◌, sym}
use Rattle.std.proofs.lemmas.Option.{slice_get_within, get_or_from_slice_get}
use Rattle.std.proofs.lemmas.List.Sums.{sum_by-append}
use Rattle.fm_fleet.specs.declared.seat.SeatLog.{SeatLog}
use Rattle.fm_fleet.specs.Seats.{SeatModel, length_of}
use Rattle.fm_fleet.proofs.Seating.{moves, stays, numbered_more}
use Rattle.fm_fleet.proofs.closing.take_in.Goals as goal

pub unreachable-requires : goal.unreachable-requires
unreachable-requires g c = c.in-None.ensures (rw c.as_slice.ensures.value (c.loop-k.invariant.6 c.loop-k.k (omega arith) c.loop-k-test.true))

pub swap_remove-requires : goal.swap_remove-requires
swap_remove-requires g c =
    let e = c.in-Some.ensures in
    let lt = slice_get_within c.as_slice.result.now c.in-Some.at e.0 e.1 in
    omega (arith, lt, c.as_slice.ensures.len)

pub loop-k-preserved : goal.loop-k-preserved
loop-k-preserved g c =
    let inv = c.loop-k.invariant in
    let r = c.swap_remove.ensures in
    let p = c.push_reserved.ensures in
    let xs = c.loop-k.seats.items in
    let now = c.swap_remove.new.self.items in
    let y = c.swap_remove.result in
    let at = c.in-Some.at in
    let long : length xs ≡ vec_len c.loop-k.seats = ap length (sym c.as_slice.ensures.value) ∙ c.as_slice.ensures.len in
    let short : length now + 1 ≡ length xs = omega (arith, r.len, long, c.swap_remove.new.self.ok) in
    let found = c.in-Some.ensures in
    let here : slice_get xs at ≡ Some found.0 = ap (λ l. slice_get l at) (sym c.as_slice.ensures.value) ∙ found.1 in
    let there = slice_get_within xs at found.0 here in
    let number : y.number ≡ c.loop-k.k + 1 =
    ap (λ (z : SeatModel). z.number) (r.value ∙ get_or_from_slice_get xs at found.0 y here) ∙ found.2 in
    let log : SeatLog = record { seat = c.number.inside.number; entries = c.number.inside.log } in (
      moves c.args.seats.items xs now c.loop-k.logs.items c.push_reserved.new.self.items log y at inv.0 there r.value r.items p.items c.number.view_is,
      rw p.items (numbered_more c.loop-k.logs.items log inv.1 (ap (λ (z : SeatModel). z.number) c.number.view_is ∙ number ∙ omega (arith, inv.2, c.loop-k.logs.ok))),
      omega (arith, p.len, inv.2),
      omega (arith, p.capacity, inv.3),
      omega (arith, c.merge.ensures.parts, inv.4, c.number.invariant.0),
      rw p.items (omega (arith, sum_by-append length_of c.loop-k.logs.items (log ∷ []), c.merge.ensures.amount, inv.5, c.number.invariant.1)),
      λ j ge lt. stays xs now at (c.loop-k.k + 1) (j + 1) y there r.value number (λ e. absurd (omega (arith, e, ge))) short (rw long r.by_index) (inv.6 j (omega (arith, ge)) lt),
    )
