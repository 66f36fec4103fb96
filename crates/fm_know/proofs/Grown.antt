-- A table into which another was joined in place.
use Rattle.std.proofs.Common.{◌≡◌, ℕ, List, ◌++◌, Result, Ok, Err, sym, ◌∙◌, subst}
use Rattle.std.specs.Result.{OnOk, OnErr}
use Rattle.std.specs.Ordering.{nat_cmp}
use Rattle.fm_lattice.specs.Joins.{max_join}
use Rattle.fm_lattice.specs.Maps.{map_join}
use Rattle.fm_records.specs.declared.ops.Op.{Op}
use Rattle.fm_records.specs.declared.records.JobReg.{JobReg}
use Rattle.fm_records.specs.declared.records.Spot.{Spot}
use Rattle.fm_records.specs.Table.{Table, TaskValue, MachineValue}
use Rattle.fm_records.specs.Orders.{job_cmp, attempt_cmp}
use Rattle.fm_records.specs.Know.{table_of}
use Rattle.fm_records.specs.Joined.{table_join, task_join, machine_join, spots_join}
use Rattle.fm_records.specs.Ranges.{CanBe}
use Rattle.fm_records.proofs.UnionLaws.{know_append}
use Rattle.fm_records.proofs.JoinedLaws.{join_can_be}

module _ {A E : Type 0} (k l : Table) (x : CanBe k) (y : CanBe l) where
  pub all_grown : (r : Result A E) (j : List (ℕ × JobReg)) (t : List (ℕ × TaskValue)) (m : List (ℕ × MachineValue))
      (p : List ((ℕ × ℕ) × List (ℕ × Spot))) → OnOk r (j ≡ map_join nat_cmp (max_join job_cmp) k.jobs l.jobs) → OnOk r
      (t ≡ map_join nat_cmp task_join k.tasks l.tasks) → OnOk r (m ≡ map_join nat_cmp machine_join k.machines l.machines) → OnOk
      r (p ≡ map_join attempt_cmp spots_join k.proposals l.proposals) → OnErr r
      ((j ≡ k.jobs) × (t ≡ k.tasks) × (m ≡ k.machines) × (p ≡ k.proposals)) → CanBe
      (record { jobs = j; tasks = t; machines = m; proposals = p })
  all_grown (Ok a) j t m p oj ot om op err = subst CanBe (λ i. record { jobs = sym oj i; tasks = sym ot i; machines = sym om i; proposals = sym op i }) (join_can_be k l x y)
  all_grown (Err e) j t m p oj ot om op err = subst CanBe (λ i. record { jobs = sym err.0 i; tasks = sym err.1 i; machines = sym err.2 i; proposals = sym err.3 i }) x

-- what two sets come to, joined, is what their union comes to
pub united : {A E : Type 0} (r : Result A E) (n k l : Table) (S T : List Op) → OnOk r (n ≡ table_join k l) → k ≡ table_of S → l ≡ table_of T → OnOk r (n ≡ table_of (S ++ T))
united (Ok a) n k l S T joined left right = joined ∙ (λ i. table_join (left i) (right i)) ∙ sym (know_append S T)
united (Err e) n k l S T joined left right = tt
