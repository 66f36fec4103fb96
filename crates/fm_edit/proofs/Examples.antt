-- What is dirty, and what is looked up, computed for small deltas.
use Rattle.std.proofs.Common.{◌≡◌, true, false, List, [], ◌∷◌, refl}
use Rattle.fm_records.specs.declared.ops.Op.{Op}
use Rattle.fm_records.specs.declared.ops.Op.TheVariants as op
use Rattle.fm_records.specs.Know.{table_of}
use Rattle.fm_records.specs.Joined.{table_join}
use Rattle.fm_records.specs.Table.{Table}
use Rattle.fm_policy.specs.Changes.{changed_keys}
use Rattle.fm_edit.specs.declared.look.Key.TheVariants as key
use Rattle.fm_edit.specs.Dirty.{dirty_task}
use Rattle.fm_edit.specs.Lookups.{looks_of}

abbrev base : List Op
base = op.Job 1 1 1 false 500 800 ∷ op.Machine 10 1 1 1 true 2 1000 ∷ op.Spec 17 1 1 false 1 100 [] ∷ []

abbrev changed_by : List Op → Op → Table
changed_by S o = table_join (table_of S) (table_of (o ∷ []))

-- a job dirties the task whose spec came first
late_job : dirty_task (table_of (op.Spec 17 1 1 false 1 100 [] ∷ [])) (changed_by (op.Spec 17 1 1 false 1 100 [] ∷ []) (op.Job 1 1 1 false 500 800)) (changed_keys (table_of (op.Job 1 1 1 false 500 800 ∷ []))) [] 17 ≡ true
late_job = refl

-- a report of a machine that no task won dirties no task
reported : dirty_task (table_of base) (changed_by base (op.Report 10 1 1 950)) (changed_keys (table_of (op.Report 10 1 1 950 ∷ []))) (10 ∷ []) 17 ≡ false
reported = refl

-- a machine at a new incarnation dirties the task that it held
lost : dirty_task (table_of (op.Propose 17 0 1 10 1 ∷ base)) (changed_by (op.Propose 17 0 1 10 1 ∷ base) (op.Machine 10 2 1 1 true 2 1000)) (changed_keys (table_of (op.Machine 10 2 1 1 true 2 1000 ∷ []))) (10 ∷ []) 17 ≡ true
lost = refl

-- one report looks one record up, and a proposal the task and the winner of its present attempt
looks_of_report : looks_of (changed_by base (op.Report 10 1 1 950)) (changed_keys (table_of (op.Report 10 1 1 950 ∷ []))) ≡ key.Machine 10 ∷ []
looks_of_report = refl

looks_of_proposal : looks_of (changed_by base (op.Propose 17 0 1 10 1)) (changed_keys (table_of (op.Propose 17 0 1 10 1 ∷ []))) ≡ key.Task 17 ∷ key.Winner 17 0 ∷ []
looks_of_proposal = refl
