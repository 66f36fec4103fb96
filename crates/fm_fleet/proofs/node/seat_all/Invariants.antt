use Rattle.std.specs.Prelude.{◌≡◌, ◌+◌, ◌≤◌, vec_capacity}
use Rattle.fm_fleet.specs.Seats.{AreNew}
use Rattle.fm_fleet.proofs.node.seat_all.Given as goal

abbrev pub invariant-loop-i : goal.invariant-loop-i
invariant-loop-i g l = (l.all.parts + l.i ≡ l.count) × (l.all.amount ≡ 0) × AreNew l.i l.seats.items × (l.count ≤ vec_capacity l.seats)
