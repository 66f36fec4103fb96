-- Whether the lists of seats are what a history has of them (this project's profile).
use Rattle.std.specs.Prelude.{◌≡◌, ◌<◌, ◌==◌, ◌⊎◌, ℕ, List, drop, filter, slice_get, Some}
use Rattle.fm_coord.specs.declared.entry.Entry.{Entry}
use Rattle.fm_coord.specs.Events.{opening}
use Rattle.fm_coord.specs.Replays.{IsLegal}
use Rattle.fm_coord.specs.States.{State}
use Rattle.fm_fleet.specs.declared.seat.SeatLog.{SeatLog}

-- the entries of a seat, in order
abbrev pub of_seat : ℕ → List Entry → List Entry
of_seat seat es = filter (λ e. e.by == seat) es

-- the seat's entries are its list
abbrev pub Matches : List Entry → SeatLog → Type 0
Matches es l = of_seat l.seat es ≡ l.entries.items

-- there is a list of this seat
abbrev pub IsListed : List SeatLog → ℕ → Type 0
IsListed logs seat = (i : ℕ) × (l : SeatLog) × (slice_get logs i ≡ Some l) × (l.seat ≡ seat)

-- each seat's entries in order are its list, and each entry is some seat's
pub record IsAudited (es : List Entry) (logs : List SeatLog) : Type 0 where
  pub logs_match : (i : ℕ) (l : SeatLog) → slice_get logs i ≡ Some l → Matches es l
  pub all_listed : (i : ℕ) (e : Entry) → slice_get es i ≡ Some e → IsListed logs e.by

-- the list of this seat differs, and none of a lesser seat does
pub record IsLeastDiffering (es : List Entry) (logs : List SeatLog) (seat : ℕ) : Type 0 where
  pub place : ℕ
  pub log : SeatLog
  pub there : slice_get logs place ≡ Some log
  pub named : log.seat ≡ seat
  pub differs : ¬ (Matches es log)
  pub least : (i : ℕ) (l : SeatLog) → slice_get logs i ≡ Some l → l.seat < seat → Matches es l

-- all lists match, and the first entry of no seat is by this one
pub record IsFirstStrange (es : List Entry) (logs : List SeatLog) (by : ℕ) : Type 0 where
  pub logs_match : (i : ℕ) (l : SeatLog) → slice_get logs i ≡ Some l → Matches es l
  pub place : ℕ
  pub entry : Entry
  pub there : slice_get es place ≡ Some entry
  pub named : entry.by ≡ by
  pub strange : ¬ (IsListed logs by)
  pub first : (i : ℕ) (e : Entry) → i < place → slice_get es i ≡ Some e → IsListed logs e.by

-- the seat that an audit names
abbrev pub IsNotAudited : List Entry → List SeatLog → ℕ → Type 0
IsNotAudited es logs k = IsLeastDiffering es logs k ⊎ IsFirstStrange es logs k

-- the calls of all seats, each with its answer, form one legal history, each once, in each seat's order
pub record StandInOne (s : State) (base : ℕ) (logs : List SeatLog) : Type 0 where
  pub legal : IsLegal (opening s.number s.limit) s.history
  pub audited : IsAudited (drop base s.history) logs
