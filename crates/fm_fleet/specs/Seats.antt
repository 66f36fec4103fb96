-- What contracts see of seats and of a closed node (this project's profile).
use Rattle.std.specs.Prelude.{◌≡◌, ◌⊎◌, ℕ, ◌+◌, ◌<◌, ◌≤◌, List, [], ◌∷◌, ◌++◌, length, slice_get, Some}
use Rattle.fm_records.specs.declared.refusal.Refusal.{Refusal}
use Rattle.fm_records.specs.declared.refusal.Refusal.TheVariants.{OutOfMemory}
use Rattle.fm_coord.specs.declared.entry.Call.{Call}
use Rattle.fm_coord.specs.declared.entry.Reply.{Reply}
use Rattle.fm_coord.specs.declared.entry.Entry.{Entry}
use Rattle.fm_coord.specs.Causes.{Bounds, refusal_for}
use Rattle.fm_coord.specs.States.{State, history_entry}
use Rattle.fm_coord.specs.Outputs.{answer_to}
use Rattle.fm_coord.specs.declared.output.CallOutput.{CallOutput}
use Rattle.fm_fleet.specs.declared.seat.SeatLog.{SeatLog}

-- a seat's number, and the entries of its accepted calls
pub record SeatModel : Type 0 where
  pub number : ℕ
  pub log : List Entry

abbrev pub seen_seat : ℕ → List Entry → SeatModel
seen_seat number log = record { number = number; log = log }

-- the seat after one more accepted call, with its answer
abbrev pub after_call : SeatModel → Call → Reply → SeatModel
after_call s call reply = seen_seat s.number (s.log ++ history_entry s.number call reply ∷ [])

-- a refusal that a coordinator may answer to a call: out of memory, or the call's cause at some bounds. That these bounds are the
-- coordinator's is not said, since other threads change them: so HistoryFull may come at any time, and Trimmed with any floor
abbrev pub MayRefuse : Call → Refusal → Type 0
MayRefuse call refusal = (refusal ≡ OutOfMemory) ⊎ ((b : Bounds) × (refusal ≡ refusal_for b call))

-- what a call may be answered: what some coordinator answers to it that has so many entries at least. That it is the coordinator of
-- the node is not said, since no clause sees what a lock has: an audit of the closed node finds it out
pub record IsPossibleAnswer (least : ℕ) (call : Call) (answer : CallOutput) : Type 0 where
  pub state : State
  pub is : answer ≡ answer_to state call
  pub later : least ≤ length state.history

-- so many seats, numbered from 1, that called nothing yet
abbrev pub AreNew : ℕ → List SeatModel → Type 0
AreNew n seats = (length seats ≡ n) × ((i : ℕ) → i < n → slice_get seats i ≡ Some (seen_seat (i + 1) []))

-- a seat of this number is among them
abbrev pub HasSeat : ℕ → List SeatModel → Type 0
HasSeat number seats = (i : ℕ) × (s : SeatModel) × (slice_get seats i ≡ Some s) × (s.number ≡ number)

-- it is the least number, of those from 1 to n, that no seat has
abbrev pub IsMissing : ℕ → List SeatModel → ℕ → Type 0
IsMissing n seats k = (0 < k) × (k < n + 1) × (¬ (HasSeat k seats)) × ((j : ℕ) → j + 1 < k → HasSeat (j + 1) seats)

-- the seat whose list it is
abbrev pub seat_of : SeatLog → SeatModel
seat_of l = seen_seat l.seat l.entries.items

abbrev pub length_of : SeatLog → ℕ
length_of l = length l.entries.items

-- the lists are in the order of the numbers of their seats, from 1
abbrev pub AreNumbered : List SeatLog → Type 0
AreNumbered logs = (i : ℕ) (l : SeatLog) → slice_get logs i ≡ Some l → l.seat ≡ i + 1
