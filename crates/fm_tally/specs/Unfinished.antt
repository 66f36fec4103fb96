-- Tasks that are neither withdrawn nor done, with what is known of them whatever is known of jobs and machines (this project's own).
use Rattle.std.specs.Prelude.{◌≡◌, ℕ, List, Option, option_map}
use Rattle.std.specs.Ordering.{nat_cmp}
use Rattle.fm_lattice.specs.Maps.{lookup}
use Rattle.fm_records.specs.declared.records.SpecReg.{SpecReg}
use Rattle.fm_records.specs.declared.records.Spot.{Spot}
use Rattle.fm_records.specs.Options.{and_then}
use Rattle.fm_records.specs.Orders.{attempt_cmp}
use Rattle.fm_records.specs.Sets.{IsMember}
use Rattle.fm_records.specs.Table.{Table}
use Rattle.fm_records.specs.Rising.{Rises}
use Rattle.fm_records.specs.Facts.{won_spot}
use Rattle.fm_tally.specs.declared.unfinished.UnfinishedTask.{UnfinishedTask}
use Rattle.fm_tally.specs.Tallies.{has_any, unfinished_spec}

-- a task with the spec, where the winner of its attempt names the spot
abbrev pub task_with : SpecReg → Option Spot → UnfinishedTask
task_with s spot = record { job = s.job; request = s.request; prefers = has_any s.prefer; spot = spot }

-- a task of the table, if it is neither withdrawn nor done
abbrev pub unfinished_at : Table → ℕ → Option UnfinishedTask
unfinished_at k t = option_map (λ s. task_with s (won_spot k t)) (and_then unfinished_spec (lookup nat_cmp t k.tasks))

-- the tasks are just those of the table
abbrev pub AreUnfinished : Table → List (ℕ × UnfinishedTask) → Type 0
AreUnfinished k tasks = (t : ℕ) → lookup nat_cmp t tasks ≡ unfinished_at k t

-- the tasks are those of an earlier table, which tells the same of each task that has not changed
pub record AreBehind (now : Table) (changed : List ℕ) (tasks : List (ℕ × UnfinishedTask)) : Type 0 where
  pub before : Table
  pub are : AreUnfinished before tasks
  pub rises : Rises nat_cmp changed
  pub same_tasks : (t : ℕ) → (IsMember t changed → ⊥) → lookup nat_cmp t now.tasks ≡ lookup nat_cmp t before.tasks
  pub same_proposals : (t a : ℕ) → (IsMember t changed → ⊥)
      → lookup attempt_cmp (t, a) now.proposals ≡ lookup attempt_cmp (t, a) before.proposals
