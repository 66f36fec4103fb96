-- A member of a fleet at its end.
use Rattle.std.specs.Prelude.{◌≡◌, ◌⊎◌, ℕ, List, slice_get, Some}
use Rattle.fm_coord.specs.declared.entry.Entry.{Entry}
use Rattle.fm_coord.specs.Events.{opening}
use Rattle.fm_coord.specs.Replays.{IsLegal}
use Rattle.fm_coord.specs.States.{State}
use Rattle.fm_fleet.specs.Seats.{SeatModel}
use Rattle.fm_gossip.specs.Served.{seat_in}

-- the history of a coordinator is legal, and each entry is one of the first two of these seats; each of them has its own entries
pub record IsEnded (n most : ℕ) (seats : List SeatModel) (s : State) : Type 0 where
  pub number : s.number ≡ n
  pub limit : s.limit ≡ most
  pub legal : IsLegal (opening s.number s.limit) s.history
  pub seats_match : (i : ℕ) (seat : SeatModel) → slice_get seats i ≡ Some seat → seat ≡ seat_in s.history seat.number
  pub no_other : (i : ℕ) (e : Entry) → slice_get s.history i ≡ Some e → (e.by ≡ 1) ⊎ (e.by ≡ 2)
