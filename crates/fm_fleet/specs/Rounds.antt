-- What a round in a thread adds to its seat's list (Firmament's rounds).
use Rattle.std.specs.Prelude.{◌≡◌, ◌⊎◌, ◌≤◌, ℕ, ◌+◌, length}
use Rattle.fm_records.specs.declared.refusal.Refusal.{Refusal}
use Rattle.fm_records.specs.declared.refusal.Refusal.TheVariants.{OutOfMemory}
use Rattle.fm_records.specs.Table.{Table}
use Rattle.fm_round.specs.declared.plan.Plan.{Plan}
use Rattle.fm_round.specs.declared.plan.Admitted.{Admitted}
use Rattle.fm_round.specs.Schedules.{IsPlanOf}
use Rattle.fm_share.specs.declared.share.Share.{Share}
use Rattle.fm_share.specs.Parts.{IsPartOf}
use Rattle.fm_coord.specs.declared.entry.Call.TheVariants as call
use Rattle.fm_coord.specs.declared.entry.Reply.TheVariants as reply
use Rattle.fm_fleet.specs.Seats.{SeatModel, after_call, MayRefuse}

-- the seat after a view of k with so many entries before it
abbrev pub after_view : SeatModel → ℕ → Table → SeatModel
after_view s at k = after_call s call.View (reply.Seen at k)

-- a view, not before the seat's own calls, and then the commit of a plan that the rule has by what was seen, with its answer
pub record IsRoundBy (rule : Table → Plan → Type 0) (base : ℕ) (s : SeatModel) (t : SeatModel) (admitted : Admitted) : Type 0 where
  pub at : ℕ
  pub known : Table
  pub plan : Plan
  pub later : base + length s.log ≤ at
  pub planned : rule known plan
  pub listed : t ≡ after_call (after_view s at known) (call.Commit plan) (reply.Admitted admitted)

-- the view alone, since memory ran out for a plan, or the commit of a plan that the rule has was refused
pub record IsHalfRoundBy (rule : Table → Plan → Type 0) (base : ℕ) (s : SeatModel) (t : SeatModel) (refusal : Refusal) : Type 0 where
  pub at : ℕ
  pub known : Table
  pub later : base + length s.log ≤ at
  pub listed : t ≡ after_view s at known
  pub cause : (refusal ≡ OutOfMemory) ⊎ ((plan : Plan) × rule known plan × MayRefuse (call.Commit plan) refusal)

-- a round that is refused: before its view was answered, or after it
abbrev pub IsRefusedRoundBy : (Table → Plan → Type 0) → ℕ → SeatModel → SeatModel → Refusal → Type 0
IsRefusedRoundBy rule base s t refusal = ((t ≡ s) × MayRefuse call.View refusal) ⊎ IsHalfRoundBy rule base s t refusal

-- a round commits the plan of some least flow of all that was seen
abbrev pub IsRound : ℕ → SeatModel → SeatModel → Admitted → Type 0
IsRound = IsRoundBy IsPlanOf

abbrev pub IsRefusedRound : ℕ → SeatModel → SeatModel → Refusal → Type 0
IsRefusedRound = IsRefusedRoundBy IsPlanOf

-- and one of a share commits the share of such a plan
abbrev pub IsShareRound : Share → ℕ → SeatModel → SeatModel → Admitted → Type 0
IsShareRound share = IsRoundBy (λ known plan. IsPartOf known share plan)

abbrev pub IsRefusedShareRound : Share → ℕ → SeatModel → SeatModel → Refusal → Type 0
IsRefusedShareRound share = IsRefusedRoundBy (λ known plan. IsPartOf known share plan)
