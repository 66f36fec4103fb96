-- Worked histories, computed from the definitions.
use Rattle.std.proofs.Common.{◌≡◌, ◌++◌, ℕ, true, false, List, [], ◌∷◌, Option, Some, None, refl}
use Rattle.fm_records.specs.declared.ops.Op.{Op}
use Rattle.fm_records.specs.declared.ops.Op.TheVariants as op
use Rattle.fm_records.specs.declared.ops.Field.TheVariants.{Writer}
use Rattle.fm_records.specs.declared.refusal.Refusal.{Refusal}
use Rattle.fm_records.specs.declared.refusal.Refusal.TheVariants.{BadOp, HistoryFull, BadInterval, Trimmed}
use Rattle.fm_records.specs.Know.{table_of}
use Rattle.fm_round.specs.declared.plan.Plan.{Plan}
use Rattle.fm_round.specs.declared.plan.Answer.TheVariants.{Accepted}
use Rattle.fm_round.specs.Admission.{told}
use Rattle.fm_coord.specs.declared.entry.Call.{Call}
use Rattle.fm_coord.specs.declared.entry.Call.TheVariants as call
use Rattle.fm_coord.specs.declared.entry.Reply.TheVariants as reply
use Rattle.fm_coord.specs.declared.entry.Entry.{Entry}
use Rattle.fm_coord.specs.declared.entry.Range.TheVariants.{Interval, Full}
use Rattle.fm_coord.specs.Events.{Replica, opening, packet_of, admitted_by}
use Rattle.fm_coord.specs.Causes.{cause, bounds_of}
use Rattle.fm_coord.specs.Replays.{seen_packet, replay, IsLegal}
use Rattle.fm_coord.specs.States.{history_entry}

abbrev job : Op
job = op.Job 1 1 1 false 500 800

abbrev machine : Op
machine = op.Machine 10 1 1 1 true 2 1000

abbrev task : Op
task = op.Spec 17 1 1 false 1 100 []

abbrev tells : Op → Entry
tells o = history_entry 0 (call.Tell o) reply.Nothing

-- three tells, at a limit
abbrev three : List Entry
three = tells job ∷ tells machine ∷ tells task ∷ []

abbrev after_three : ℕ → Replica
after_three limit = replay (opening 1 limit) three

abbrev cause_at : Replica → Call → Option Refusal
cause_at r c = cause (bounds_of r) c

-- each is taken in, as a set of its own
taken : (after_three 10).taken ≡ job ∷ machine ∷ task ∷ []
taken = refl

kept : (after_three 10).buffer ≡ (job ∷ []) ∷ (machine ∷ []) ∷ (task ∷ []) ∷ []
kept = refl

-- an interval comes to its sets together; the first packet has number 1, and the next 2
cut_of_two : packet_of (after_three 10) (Interval 1 3) ≡ record { sender = 1; number = 1; set = machine ∷ task ∷ [] }
cut_of_two = refl

next_cut : packet_of (replay (after_three 10) (history_entry 0 (call.Cut Full) (reply.Packet (seen_packet (packet_of (after_three 10) Full))) ∷ [])) (Interval 0 1) ≡ record { sender = 1; number = 2; set = job ∷ [] }
next_cut = refl

-- an empty interval at the end is cut; one that runs backwards or beyond the end is not
empty_cut : cause_at (after_three 10) (call.Cut (Interval 3 3)) ≡ None
empty_cut = refl

backwards : cause_at (after_three 10) (call.Cut (Interval 4 3)) ≡ Some BadInterval
backwards = refl

beyond : cause_at (after_three 10) (call.Cut (Interval 0 4)) ≡ Some BadInterval
beyond = refl

-- with the floor at 2: the interval is looked at before the floor, and the floor does not fall
abbrev trimmed : Replica
trimmed = replay (after_three 10) (history_entry 0 (call.Trim 2) reply.Nothing ∷ [])

below : cause_at trimmed (call.Cut (Interval 1 3)) ≡ Some (Trimmed 2)
below = refl

beyond_and_below : cause_at trimmed (call.Cut (Interval 0 4)) ≡ Some BadInterval
beyond_and_below = refl

falling : cause_at trimmed (call.Trim 1) ≡ Some BadInterval
falling = refl

-- with as many entries as the limit: what is wrong with a call is told before the full history
full : cause_at (after_three 3) (call.Tell job) ≡ Some HistoryFull
full = refl

full_view : cause_at (after_three 3) call.View ≡ Some HistoryFull
full_view = refl

full_and_wrong : cause_at (after_three 3) (call.Tell (op.Job 1 1 65 false 500 800)) ≡ Some (BadOp Writer)
full_and_wrong = refl

full_and_backwards : cause_at (after_three 3) (call.Cut (Interval 4 3)) ≡ Some BadInterval
full_and_backwards = refl

-- a view after three tells shows their count and what they come to

viewed : IsLegal (opening 1 10) (three ++ history_entry 0 call.View (reply.Seen 3 (table_of (job ∷ machine ∷ task ∷ []))) ∷ [])
viewed = (record { accepted = refl; reply = refl }, (record { accepted = refl; reply = refl }, (record { accepted = refl; reply = refl }, (record { accepted = refl; reply = refl }, tt))))

-- a packet that is merged adds what its value spells out, as one set
merged : (replay (opening 2 10) (history_entry 0 (call.Merge (record { sender = 1; number = 3; value = table_of (machine ∷ job ∷ []) })) reply.Nothing ∷ [])).buffer ≡ (job ∷ machine ∷ []) ∷ []
merged = refl

-- a plan that places the task on the machine is admitted, and its proposal taken in
abbrev plan : Plan
plan = record { places = record { task = 17; machine = 10; incarnation = 1 } ∷ []; preempts = [] }

placed : admitted_by (after_three 10) plan ≡ record { ops = op.Propose 17 0 1 10 1 ∷ []; answers = Accepted ∷ [] }
unfolding told
placed = refl

committed : (replay (after_three 10) (history_entry 0 (call.Commit plan) (reply.Admitted (record { ops = op.Propose 17 0 1 10 1 ∷ []; answers = Accepted ∷ [] })) ∷ [])).taken ≡ job ∷ machine ∷ task ∷ op.Propose 17 0 1 10 1 ∷ []
unfolding told
committed = refl
