-- Operations in range, and the possible tables.
use Rattle.std.specs.Prelude.{ℕ, Bool, nat_lt, nat_le, is_none, ◌&&◌, ◌^◌, List, length, IsTrue}
use Rattle.std.specs.List.{list_all}
use Rattle.fm_records.specs.declared.ops.Op.{Op}
use Rattle.fm_records.specs.declared.ops.Op.TheVariants as op
use Rattle.fm_records.specs.Ops.{op_fault}
use Rattle.fm_records.specs.Table.{Table}
use Rattle.fm_records.specs.OpsOfTable.{ops, IsTable}

-- ids have 128 bits; versions, incarnations and numbers of reports 64; attempts 32
abbrev pub is_id : ℕ → Bool
is_id n = nat_lt n (2 ^ 128)

abbrev pub is_count : ℕ → Bool
is_count n = nat_lt n (2 ^ 64)

abbrev pub is_attempt : ℕ → Bool
is_attempt n = nat_lt n (2 ^ 32)

-- up to four machines
abbrev pub fits_row : List (ℕ × ℕ) → Bool
fits_row es = nat_le (length es) 4 && list_all (λ e. is_id e.0) es

-- the fields that have no range of their own fit their types
abbrev pub fields_fit : Op → Bool
fields_fit (op.Job id version writer withdrawn wait preempt) = is_id id && is_count version
fields_fit (op.Spec id version writer withdrawn job request prefer) = is_id id && is_count version && is_id job && fits_row prefer
fields_fit (op.Progress id attempt phase) = is_id id && is_attempt attempt
fields_fit (op.Machine id incarnation version writer up slots nic) = is_id id && is_count incarnation && is_count version
fields_fit (op.Report id incarnation number used) = is_id id && is_count incarnation && is_count number
fields_fit (op.Propose id attempt coordinator machine incarnation) = is_id id && is_attempt attempt && is_id machine && is_count incarnation

-- all fields of the operation are in range
abbrev pub in_range : Op → Bool
in_range o = fields_fit o && is_none (op_fault o)

-- all operations of the set are in range
abbrev pub all_in_range : List Op → Bool
all_in_range = list_all in_range

-- a possible table: of the form of tables of operations, with all fields in range
pub record CanBe (k : Table) : Type 0 where
  pub table : IsTable k
  pub in_range : IsTrue (all_in_range (ops k))
