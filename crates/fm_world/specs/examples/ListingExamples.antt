-- Small listings, computed.
use Rattle.std.specs.Prelude.{◌≡◌, ℕ, false, List, [], ◌∷◌}
use Rattle.std.proofs.Common.{refl, inl}
use Rattle.fm_records.specs.declared.ops.Op.TheVariants as op
use Rattle.fm_records.specs.Know.{table_of}
use Rattle.fm_delta.specs.declared.packet.Packet.{Packet}
use Rattle.fm_coord.specs.declared.entry.Range.TheVariants.{Full}
use Rattle.fm_coord.specs.declared.entry.Call.TheVariants as call
use Rattle.fm_coord.specs.declared.entry.Reply.TheVariants as reply
use Rattle.fm_coord.specs.declared.entry.Entry.{Entry}
use Rattle.fm_coord.specs.States.{State}
use Rattle.fm_world.specs.declared.step.Act.{Act}
use Rattle.fm_world.specs.declared.step.Act.TheVariants as act
use Rattle.fm_world.specs.declared.step.Step.{Step}
use Rattle.fm_world.specs.Listings.{Made, entries_at, history_at, Follows, steps_for, left_of}

-- a coordinator with this history
abbrev with_history : ℕ → List Entry → State
with_history n es = record { number = n; limit = 100; knowledge = table_of []; deltas = record { floor = 0; kept = [] }; cuts = 0; history = es }

abbrev empty_cut_by : ℕ → Packet
empty_cut_by n = record { sender = n; number = 1; value = table_of [] }

abbrev told : Entry
told = record { by = 0; call = call.Tell (op.Job 1 1 1 false 500 800); reply = reply.Nothing }

abbrev cut : ℕ → Entry
cut n = record { by = 0; call = call.Cut Full; reply = reply.Packet (empty_cut_by n) }

abbrev merged : ℕ → Entry
merged n = record { by = 0; call = call.Merge (empty_cut_by n); reply = reply.Nothing }

abbrev made : ℕ → Entry → Made
made n e = record { at = n; entry = e }

abbrev step : ℕ → Act → Step
step n a = record { at = n; by = 0; act = a }

-- 1 is told and cuts, 2 merges the packet
abbrev two : List State
two = with_history 2 (merged 1 ∷ []) ∷ with_history 1 (told ∷ cut 1 ∷ []) ∷ []

abbrev whole : List Made
whole = made 1 told ∷ made 1 (cut 1) ∷ made 2 (merged 1) ∷ []

pub of_first : entries_at 1 whole ≡ history_at two 1
of_first = refl

pub of_second : entries_at 2 whole ≡ history_at two 2
of_second = refl

pub example_follows : Follows [] whole
example_follows = (tt, (tt, (inl refl, tt)))

pub whole_steps : steps_for [] whole ≡ step 1 (act.Tell (op.Job 1 1 1 false 500 800)) ∷ step 1 (act.Cut Full) ∷ step 2 (act.Deliver 0) ∷ []
whole_steps = refl

pub nobody_left : left_of two whole ≡ []
nobody_left = refl

-- alone, 2 cannot begin
pub second_left : left_of (with_history 2 (merged 1 ∷ []) ∷ []) [] ≡ 2 ∷ []
second_left = refl

-- each waits for the other's packet
pub both_left : left_of (with_history 1 (merged 2 ∷ cut 1 ∷ []) ∷ with_history 2 (merged 1 ∷ cut 2 ∷ []) ∷ []) [] ≡ 1 ∷ 2 ∷ []
both_left = refl

-- of equal packets the earliest is named
pub earliest_named : steps_for [] (made 1 (cut 2) ∷ made 2 (cut 2) ∷ made 1 (merged 2) ∷ []) ≡ step 1 (act.Cut Full) ∷ step 2 (act.Cut Full) ∷ step 1 (act.Deliver 0) ∷ []
earliest_named = refl
