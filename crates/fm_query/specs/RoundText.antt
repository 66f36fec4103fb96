-- The text of a round: what was planned, and what admission answered to it (this project's profile).
use Rattle.std.specs.Prelude.{ℕ, List, ◌++◌, codes, length, drop}
use Rattle.std.specs.List.{zip}
use Rattle.fm_round.specs.declared.plan.Plan.{Plan}
use Rattle.fm_round.specs.declared.plan.Admitted.{Admitted}
use Rattle.fm_round.specs.declared.plan.Answer.{Answer}
use Rattle.fm_round.specs.declared.plan.Answer.TheVariants.{Gone, Held, AttemptsSpent, Contested, NoSlot, NoRoom, Accepted}
use Rattle.fm_query.specs.TextLines.{text_of_lines}
use Rattle.fm_query.specs.PlanText.{place_text, preempt_text}

-- what admission answered to an entry of a plan
abbrev pub answer_text : Answer → List ℕ
answer_text Gone = codes "gone"
answer_text Held = codes "held"
answer_text AttemptsSpent = codes "attempts-spent"
answer_text Contested = codes "contested"
answer_text NoSlot = codes "no-slot"
answer_text NoRoom = codes "no-room"
answer_text Accepted = codes "accepted"

-- an entry, and what was answered to it
abbrev pub answered_text : {T : Type 0} → (T → List ℕ) → T × Answer → List ℕ
answered_text text e = text e.0 ++ (codes " " ++ answer_text e.1)

-- a line for each place, and then for each preempt, with the answer to it; the answers to places come first
abbrev pub round_text : Plan → Admitted → List ℕ
round_text plan admitted =
    text_of_lines (answered_text place_text) (zip plan.places admitted.answers)
    ++ text_of_lines (answered_text preempt_text) (zip plan.preempts (drop (length plan.places) admitted.answers))
