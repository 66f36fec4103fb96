-- Rounds of a whole share.
use Rattle.std.proofs.Common.{◌≡◌, ℕ, sym, ◌∙◌, subst, inl, inr}
use Rattle.std.specs.Prelude.{◌↔◌}
use Rattle.fm_records.specs.declared.refusal.Refusal.{Refusal}
use Rattle.fm_records.specs.Table.{Table}
use Rattle.fm_round.specs.declared.plan.Plan.{Plan}
use Rattle.fm_round.specs.declared.plan.Admitted.{Admitted}
use Rattle.fm_round.specs.Schedules.{IsPlanOf}
use Rattle.fm_share.specs.Shares.{share_of, whole}
use Rattle.fm_share.specs.Parts.{IsPartOf}
use Rattle.fm_fleet.specs.Seats.{SeatModel}
use Rattle.fm_fleet.specs.Rounds.{IsRoundBy, IsHalfRoundBy, IsRefusedRoundBy, IsRound, IsRefusedRound, IsShareRound, IsRefusedShareRound}

-- what has the plans of one rule has those of a wider one
module _ (rule wider : Table → Plan → Type 0) (has : (k : Table) (plan : Plan) → rule k plan → wider k plan) (base : ℕ) (s t : SeatModel) where
  pub done_by : (admitted : Admitted) → IsRoundBy rule base s t admitted → IsRoundBy wider base s t admitted
  done_by admitted r = record {
    at = r.at;
    known = r.known;
    plan = r.plan;
    later = r.later;
    planned = has r.known r.plan r.planned;
    listed = r.listed;
  }

  half_by : (refusal : Refusal) → IsHalfRoundBy rule base s t refusal → IsHalfRoundBy wider base s t refusal
  half_by refusal h = record {
    at = h.at;
    known = h.known;
    later = h.later;
    listed = h.listed;
    cause = elim h.cause [
      | inl none ↦ inl none
      | inr made ↦ inr (made.0, has h.known made.0 made.1, made.2)
    ];
  }

  pub refused_by : (refusal : Refusal) → IsRefusedRoundBy rule base s t refusal → IsRefusedRoundBy wider base s t refusal
  refused_by refusal (inl before) = inl before
  refused_by refusal (inr half) = inr (half_by refusal half)

-- a whole share is the plan
abbrev pub IsWhole : Type 0
IsWhole = (k : Table) (plan : Plan) → share_of k whole plan ≡ plan

pub plan_of_whole : IsWhole → (k : Table) (plan : Plan) → IsPartOf k whole plan → IsPlanOf k plan
plan_of_whole law k plan part = subst (IsPlanOf k) (sym (part.is ∙ law k part.plan)) part.plan_of

pub whole_of_plan : IsWhole → (k : Table) (plan : Plan) → IsPlanOf k plan → IsPartOf k whole plan
whole_of_plan law k plan of = record { plan = plan; plan_of = of; is = sym (law k plan) }

-- the rules of rounds, and of rounds of a whole share
abbrev pub of_plan : Table → Plan → Type 0
of_plan k plan = IsPlanOf k plan

abbrev pub of_whole : Table → Plan → Type 0
of_whole k plan = IsPartOf k whole plan

pub whole_done : IsWhole → (base : ℕ) (s t : SeatModel) (admitted : Admitted) → IsShareRound whole base s t admitted ↔ IsRound base s t admitted
whole_done law base s t admitted = (
  done_by of_whole of_plan (plan_of_whole law) base s t admitted,
  done_by of_plan of_whole (whole_of_plan law) base s t admitted,
)

pub whole_refused : IsWhole → (base : ℕ) (s t : SeatModel) (refusal : Refusal) → IsRefusedShareRound whole base s t refusal ↔ IsRefusedRound base s t refusal
whole_refused law base s t refusal = (
  refused_by of_whole of_plan (plan_of_whole law) base s t refusal,
  refused_by of_plan of_whole (whole_of_plan law) base s t refusal,
)
