-- Admission of a plan: each entry is decided on what is known with the operations of the earlier accepted entries, by
-- the first rule that applies (this project's profile).
use Rattle.std.specs.Prelude.{ℕ, ◌+◌, Bool, true, false, cond, not, nat_le, ◌==◌, ◌&&◌, ◌||◌, List, [], ◌∷◌, ◌++◌, length, zip}
use Rattle.std.specs.List.{list_any}
use Rattle.fm_records.specs.declared.ops.Phase.TheVariants.{Pending}
use Rattle.fm_records.specs.declared.ops.Op.{Op}
use Rattle.fm_records.specs.declared.ops.Op.TheVariants as op
use Rattle.fm_records.specs.Table.{Table}
use Rattle.fm_records.specs.Know.{table_of}
use Rattle.fm_records.specs.Joined.{table_join}
use Rattle.fm_records.specs.Facts.{passes, spec_of, request_of, attempt_of, incarnation_of, open_state, winner_of, is_live, is_present, holds, held_tasks, load_of, has_room}
use Rattle.fm_net.specs.Network.{is_held}
use Rattle.fm_round.specs.declared.plan.Place.{Place}
use Rattle.fm_round.specs.declared.plan.Preempt.{Preempt}
use Rattle.fm_round.specs.declared.plan.Plan.{Plan}
use Rattle.fm_round.specs.declared.plan.Admitted.{Admitted}
use Rattle.fm_round.specs.declared.plan.Answer.{Answer}
use Rattle.fm_round.specs.declared.plan.Answer.TheVariants.{Gone, Held, AttemptsSpent, Contested, NoSlot, NoRoom, Accepted}

-- what is known with the operations told too
unfoldable pub told : Table → List Op → Table
told k ops = table_join k (table_of ops)

-- the answer of the first rule that applies, and Accepted if none does
abbrev pub first_rule : List (Bool × Answer) → Answer
first_rule [] = Accepted
first_rule (rule ∷ rules) = cond rule.0 rule.1 (first_rule rules)

-- the greatest attempt
abbrev pub last_attempt : ℕ
last_attempt = 4294967295

-- some coordinator proposed for the attempt
abbrev pub has_proposal : Table → ℕ → ℕ → Bool
has_proposal k t a = passes (λ w. true) (winner_of k t a)

-- the machine holds as many tasks as it has slots, or more
abbrev pub is_full : Table → ℕ → Bool
is_full k m = passes (λ state. nat_le state.slots (length (held_tasks k m))) (open_state k m)

-- the machine's incarnation is i
abbrev pub has_incarnation : Table → ℕ → ℕ → Bool
has_incarnation k m i = passes (λ n. n == i) (incarnation_of k m)

-- the machine is open, and its incarnation is i
abbrev pub is_open_at : Table → ℕ → ℕ → Bool
is_open_at k m i = is_present k (record { machine = m; incarnation = i })

-- the operations of a place by coordinator c: a proposal for the present attempt if that has none, else the next
-- attempt, pending, and a proposal for that
abbrev pub place_ops : ℕ → Table → Place → List Op
place_ops c k p =
    let a = attempt_of k p.task in
    cond (has_proposal k p.task a)
    (op.Progress p.task (a + 1) Pending ∷ op.Propose p.task (a + 1) c p.machine p.incarnation ∷ [])
    (op.Propose p.task a c p.machine p.incarnation ∷ [])

-- The rules for a place, in their order.
abbrev pub place_answer : ℕ → Table → Place → Answer
place_answer c k p =
    let a = attempt_of k p.task in
    first_rule
    -- the task is not live, or the machine is not open at the incarnation that is named
    ((not (is_live k p.task) || not (is_open_at k p.machine p.incarnation), Gone)
    -- some machine holds the task
    ∷ (is_held k p.task, Held)
    -- a next attempt is needed, and there is no greater number
    ∷ (has_proposal k p.task a && a == last_attempt, AttemptsSpent)
    -- after the operations the task would not be held by the machine
    ∷ (not (holds (told k (place_ops c k p)) p.machine p.task), Contested)
    -- the machine holds as many tasks as it has slots
    ∷ (is_full k p.machine, NoSlot)
    -- the machine has no spare bandwidth, or less than the request
    ∷ (not (has_room k p.machine (request_of (spec_of k p.task))), NoRoom)
    ∷ [])

-- the operation of a preempt: the next attempt, pending
abbrev pub preempt_ops : Table → Preempt → List Op
preempt_ops k p = op.Progress p.task (p.attempt + 1) Pending ∷ []

-- The rules for a preempt, in their order.
abbrev pub preempt_answer : Table → Preempt → Answer
preempt_answer k p =
    first_rule
    -- the task is not live, is not held, or its present attempt is not the one that is named
    ((not (is_live k p.task) || not (is_held k p.task) || not (attempt_of k p.task == p.attempt), Gone)
    -- there is no next attempt
    ∷ (p.attempt == last_attempt, AttemptsSpent)
    -- because of proposals for the next attempt the task would still be held
    ∷ (is_held (told k (preempt_ops k p)) p.task, Contested)
    ∷ [])

abbrev pub is_accepted : Answer → Bool
is_accepted Gone = false
is_accepted Held = false
is_accepted AttemptsSpent = false
is_accepted Contested = false
is_accepted NoSlot = false
is_accepted NoRoom = false
is_accepted Accepted = true

-- an entry with its answer: its operations are added if it is accepted
abbrev pub one_entry : Answer → List Op → Admitted
one_entry answer ops = record { ops = cond (is_accepted answer) ops []; answers = answer ∷ [] }

-- the one and then the other
abbrev pub in_order : Admitted → Admitted → Admitted
in_order a b = record { ops = a.ops ++ b.ops; answers = a.answers ++ b.answers }

-- entries in turn, each decided on what is known with what the earlier ones added
abbrev pub in_turn : {E : Type 0} → (Table → E → Answer) → (Table → E → List Op) → Table → List E → Admitted
in_turn answer_to ops_of k [] = record { ops = []; answers = [] }
in_turn answer_to ops_of k (e ∷ es) =
    let one = one_entry (answer_to k e) (ops_of k e) in
    in_order one (in_turn answer_to ops_of (told k one.ops) es)

abbrev pub admission_of_places : ℕ → Table → List Place → Admitted
admission_of_places c = in_turn (place_answer c) (place_ops c)

abbrev pub admission_of_preempts : Table → List Preempt → Admitted
admission_of_preempts = in_turn preempt_answer preempt_ops

-- what is admitted of a plan of coordinator c: the places in turn, and then the preempts
abbrev pub admission : Table → ℕ → Plan → Admitted
admission k c plan =
    let first = admission_of_places c k plan.places in
    in_order first (admission_of_preempts (told k first.ops) plan.preempts)

-- some place on the machine was accepted, if the answers begin with those to the places
abbrev pub got_place : List Place → List Answer → ℕ → Bool
got_place places answers m = list_any (λ e. e.0.machine == m && is_accepted e.1) (zip places answers)

-- the machine is open, and its load is at most its nic
abbrev pub is_within_nic : Table → ℕ → Bool
is_within_nic k m = passes (λ state. nat_le (load_of k m) state.nic) (open_state k m)
