-- What pins the definitions down: the greatest and the least, and the table of a set of operations.
use Rattle.std.specs.Prelude.{◌≡◌, ℕ, false, List, [], Option, Some, None}
use Rattle.std.specs.Ordering.{nat_cmp, is_gt, is_lt}
use Rattle.std.specs.declared.cmp.Ordering.{Ordering}
use Rattle.fm_lattice.specs.Maps.{lookup, IsRising}
use Rattle.fm_records.specs.declared.ops.Op.{Op}
use Rattle.fm_records.specs.Sets.{IsMember}
use Rattle.fm_records.specs.Orders.{attempt_cmp}
use Rattle.fm_records.specs.Table.{Table}
use Rattle.fm_records.specs.Know.{job, task, machine, entries}

-- m is a member of the list, and none is greater
pub record IsGreatest {R : Type 0} (cmp : R → R → Ordering) (xs : List R) (m : R) : Type 0 where
  pub is_member : IsMember m xs
  pub none_above : (x : R) → IsMember x xs → is_gt (cmp x m) ≡ false

-- the greatest of a list, and none of an empty one
abbrev pub IsGreatestOf : {R : Type 0} → (R → R → Ordering) → List R → Option R → Type 0
IsGreatestOf cmp xs None = xs ≡ []
IsGreatestOf cmp xs (Some m) = IsGreatest cmp xs m

-- m is a member of the list, and none is less
pub record IsLeastMember {R : Type 0} (cmp : R → R → Ordering) (xs : List R) (m : R) : Type 0 where
  pub is_member : IsMember m xs
  pub none_below : (x : R) → IsMember x xs → is_lt (cmp x m) ≡ false

-- the least of a list, and none of an empty one
abbrev pub IsLeastOf : {R : Type 0} → (R → R → Ordering) → List R → Option R → Type 0
IsLeastOf cmp xs None = xs ≡ []
IsLeastOf cmp xs (Some m) = IsLeastMember cmp xs m

-- the table has rising keys, and each look-up gives what the operations tell of the key
pub record IsKnow (S : List Op) (k : Table) : Type 0 where
  pub jobs_rise : IsRising nat_cmp k.jobs
  pub tasks_rise : IsRising nat_cmp k.tasks
  pub machines_rise : IsRising nat_cmp k.machines
  pub proposals_rise : IsRising attempt_cmp k.proposals
  pub each_job : (j : ℕ) → lookup nat_cmp j k.jobs ≡ job S j
  pub each_task : (t : ℕ) → lookup nat_cmp t k.tasks ≡ task S t
  pub each_machine : (m : ℕ) → lookup nat_cmp m k.machines ≡ machine S m
  pub each_attempt : (at : ℕ × ℕ) → lookup attempt_cmp at k.proposals ≡ entries S at
