use Rattle.std.specs.Prelude.{◌≡◌, ℕ, ◌+◌, ◌<◌, ◌≤◌, ◌++◌, map, vec_len, vec_capacity, sum_by}
use Rattle.std.specs.List.Sorted.{IsPermutation}
use Rattle.fm_fleet.specs.Seats.{HasSeat, AreNumbered, seat_of, length_of}
use Rattle.fm_fleet.proofs.closing.take_in.Given as goal

abbrev pub invariant-loop-k : goal.invariant-loop-k
invariant-loop-k g l = IsPermutation l.fn.seats.items (map seat_of l.logs.items ++ l.seats.items) × AreNumbered l.logs.items × (vec_len l.logs ≡ l.k) × (l.count ≤ vec_capacity l.logs)
    × (l.joined.parts ≡ l.k) × (l.joined.amount ≡ sum_by length_of l.logs.items)
    × ((j : ℕ) → l.k ≤ j → j < l.count → HasSeat (j + 1) l.seats.items)
