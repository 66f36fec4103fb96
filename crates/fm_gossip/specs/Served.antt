-- What a coordinator that ran in a fleet did (this project's profile).
use Rattle.std.specs.Prelude.{◌≡◌, ◌⊎◌, ℕ, zero, suc, List, [], ◌∷◌, map, slice_get, Some, All}
use Rattle.std.specs.List.Sorted.{IsPermutation}
use Rattle.fm_records.specs.declared.ops.Op.{Op}
use Rattle.fm_delta.specs.declared.packet.Packet.{Packet}
use Rattle.fm_round.specs.declared.plan.Admitted.{Admitted}
use Rattle.fm_coord.specs.declared.entry.Entry.{Entry}
use Rattle.fm_coord.specs.declared.entry.Range.TheVariants.{Full}
use Rattle.fm_coord.specs.declared.entry.Call.TheVariants as call
use Rattle.fm_coord.specs.declared.entry.Reply.TheVariants as reply
use Rattle.fm_coord.specs.Events.{opening}
use Rattle.fm_coord.specs.Replays.{IsLegal}
use Rattle.fm_coord.specs.States.{State}
use Rattle.fm_fleet.specs.Seats.{SeatModel, seen_seat, after_call}
use Rattle.fm_fleet.specs.Rounds.{IsRound}
use Rattle.fm_fleet.specs.Audits.{of_seat}

-- what a coordinator is to do: its number, how many entries its history may have, the operations that it is told, the numbers
-- of the others, from each of which a packet comes, and how many rounds it runs
pub record Task : Type 0 where
  pub number : ℕ
  pub limit : ℕ
  pub tells : List Op
  pub others : List ℕ
  pub rounds : ℕ

abbrev pub member_task : ℕ → ℕ → List Op → List ℕ → ℕ → Task
member_task number limit tells others rounds = record { number = number; limit = limit; tells = tells; others = others; rounds = rounds }

-- the seat once it told these operations, in order
abbrev pub all_told : SeatModel → List Op → SeatModel
all_told s [] = s
all_told s (op ∷ ops) = all_told (after_call s (call.Tell op) reply.Nothing) ops

-- the seat merged these packets, in order
abbrev pub all_merged : SeatModel → List Packet → SeatModel
all_merged s [] = s
all_merged s (p ∷ ps) = all_merged (after_call s (call.Merge p) reply.Nothing) ps

abbrev pub sender_of : Packet → ℕ
sender_of p = p.sender

-- the first packet that its sender cut
abbrev pub IsFirst : Packet → Type 0
IsFirst p = p.number ≡ 1

-- the seat merged a packet of each of the others, in some order: the first that it cut
pub record AreMerged (others : List ℕ) (s t : SeatModel) : Type 0 where
  pub packets : List Packet
  pub senders : IsPermutation others (map sender_of packets)
  pub first : All IsFirst packets
  pub merges : t ≡ all_merged s packets

-- the seat told these operations, cut all that was known, and then merged a packet of each of the others
pub record IsIntake (tells : List Op) (others : List ℕ) (s t : SeatModel) : Type 0 where
  pub packet : Packet
  pub merges : AreMerged others (after_call (all_told s tells) (call.Cut Full) (reply.Packet packet)) t

-- the seat ran so many rounds, one after another
abbrev pub AreRounds : ℕ → ℕ → SeatModel → SeatModel → Type 0
AreRounds base zero s t = t ≡ s
AreRounds base (suc n) s t = (m : SeatModel) × (admitted : Admitted) × AreRounds base n s m × IsRound base m t admitted

-- a seat that called nothing yet, and one with these entries
abbrev pub new_seat : ℕ → SeatModel
new_seat number = seen_seat number []

-- what the seat with the number has in the history
abbrev pub seat_in : List Entry → ℕ → SeatModel
seat_in history number = seen_seat number (of_seat number history)

-- a coordinator did what it was to do: each entry of its legal history is of seat 1, its intake, or of seat 2, its rounds
pub record IsServed (t : Task) (s : State) : Type 0 where
  pub number : s.number ≡ t.number
  pub limit : s.limit ≡ t.limit
  pub legal : IsLegal (opening s.number s.limit) s.history
  pub intake : IsIntake t.tells t.others (new_seat 1) (seat_in s.history 1)
  pub rounds : AreRounds 0 t.rounds (new_seat 2) (seat_in s.history 2)
  pub no_other : (i : ℕ) (e : Entry) → slice_get s.history i ≡ Some e → (e.by ≡ 1) ⊎ (e.by ≡ 2)

-- each coordinator did what it was to do
abbrev pub AreServed : List Task → List State → Type 0
AreServed [] [] = Unit {0}
AreServed (t ∷ ts) (s ∷ ss) = IsServed t s × AreServed ts ss
AreServed [] (s ∷ ss) = ⊥
AreServed (t ∷ ts) [] = ⊥
