-- The ranges of an operation's fields (this project's profile).
use Rattle.std.specs.Prelude.{ℕ, Bool, cond, nat_le, ◌&&◌, List, [], ◌∷◌, Option, Some, None}
use Rattle.std.specs.List.{list_all}
use Rattle.fm_records.specs.declared.ops.TheConstants.{MOST_BANDWIDTH, MOST_PRICE, MOST_SLOTS, MOST_USE}
use Rattle.fm_records.specs.declared.ops.Field.{Field}
use Rattle.fm_records.specs.declared.ops.Field.TheVariants as field
use Rattle.fm_records.specs.declared.ops.Op.{Op}
use Rattle.fm_records.specs.declared.ops.Op.TheVariants as op
use Rattle.fm_records.specs.Ids.{is_coordinator}
use Rattle.fm_records.specs.Preferences.{machines_rise}

-- a cost: of waiting or of a preemption, up to 1,000,000,000
abbrev pub is_price : ℕ → Bool
is_price n = nat_le n MOST_PRICE

-- a bandwidth that a task requests or a machine has, up to 1,000,000
abbrev pub is_bandwidth : ℕ → Bool
is_bandwidth n = nat_le n MOST_BANDWIDTH

-- a bandwidth that a machine reports as used, up to 1,000,000,000
abbrev pub is_use : ℕ → Bool
is_use n = nat_le n MOST_USE

-- how many tasks a machine takes, from 1 to 1,000
abbrev pub is_slots : ℕ → Bool
is_slots n = nat_le 1 n && nat_le n MOST_SLOTS

-- machines that are preferred, each once and rising, with credits up to 1,000,000,000
abbrev pub is_preference : List (ℕ × ℕ) → Bool
is_preference es = machines_rise es && list_all (λ e. is_price e.1) es

-- the fields of an operation that have a range of their own, in order, and whether each is in it
abbrev pub ranges_of : Op → List (Field × Bool)
ranges_of (op.Job id version writer withdrawn wait preempt) = (field.Writer, is_coordinator writer) ∷ (field.Wait, is_price wait) ∷ (field.Preempt, is_price preempt) ∷ []
ranges_of (op.Spec id version writer withdrawn job request prefer) = (field.Writer, is_coordinator writer) ∷ (field.Request, is_bandwidth request) ∷ (field.Prefer, is_preference prefer) ∷ []
ranges_of (op.Progress id attempt phase) = []
ranges_of (op.Machine id incarnation version writer up slots nic) = (field.Writer, is_coordinator writer) ∷ (field.Slots, is_slots slots) ∷ (field.Nic, is_bandwidth nic) ∷ []
ranges_of (op.Report id incarnation number used) = (field.Used, is_use used) ∷ []
ranges_of (op.Propose id attempt coordinator machine incarnation) = (field.Coordinator, is_coordinator coordinator) ∷ []

-- the first field whose test fails
abbrev pub first_failing : List (Field × Bool) → Option Field
first_failing [] = None
first_failing (f ∷ fs) = cond f.1 (first_failing fs) (Some f.0)

-- the first field of an operation that is out of its range
abbrev pub op_fault : Op → Option Field
op_fault o = first_failing (ranges_of o)
