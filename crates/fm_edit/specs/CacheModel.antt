-- What an Editor has in sight of a table: its records, and of each task the spot that the winner of its present attempt
-- names. The facts on these are those of the table. Own.
use Rattle.std.specs.Prelude.{ℕ, Bool, true, cond, not, ◌==◌, ◌&&◌, is_some, Option, None, option_map}
use Rattle.std.specs.Ordering.{nat_cmp}
use Rattle.std.specs.BTreeMap.{get}
use Rattle.fm_lattice.specs.Maps.{lookup}
use Rattle.fm_records.specs.declared.records.JobReg.{JobReg}
use Rattle.fm_records.specs.declared.records.SpecReg.{SpecReg}
use Rattle.fm_records.specs.declared.records.Progress.{Progress}
use Rattle.fm_records.specs.declared.records.MachineReg.{MachineReg}
use Rattle.fm_records.specs.declared.records.Spot.{Spot}
use Rattle.fm_records.specs.Options.{and_then, only_if, passes, or_else}
use Rattle.fm_records.specs.Know.{initial_progress}
use Rattle.fm_records.specs.Table.{Table, TaskValue, MachineValue}
use Rattle.fm_records.specs.Facts.{job_of, won_spot, is_done}
use Rattle.fm_edit.specs.declared.record_cache.RecordCache.{RecordCache}

pub record Sight : Type 0 where
  pub job : ℕ → Option JobReg
  pub task : ℕ → Option TaskValue
  pub machine : ℕ → Option MachineValue
  pub spot : ℕ → Option Spot

-- what there is to see of a table
abbrev pub sight_of : Table → Sight
sight_of k = record { job = job_of k; task = λ t. lookup nat_cmp t k.tasks; machine = λ m. lookup nat_cmp m k.machines; spot = won_spot k }

-- what was seen
abbrev pub seen_in : RecordCache → Sight
seen_in s = record { job = get nat_cmp s.jobs; task = get nat_cmp s.tasks; machine = get nat_cmp s.machines; spot = get nat_cmp s.spots }

abbrev pub cached_spec : Sight → ℕ → Option SpecReg
cached_spec s t = and_then (λ v. v.0) (s.task t)

abbrev pub cached_progress : Sight → ℕ → Progress
cached_progress s t = or_else initial_progress (option_map (λ v. v.1) (s.task t))

-- the spec of a live task
abbrev pub cached_live : Sight → ℕ → Option SpecReg
cached_live s t = only_if (λ r. not r.withdrawn && passes (λ j. not j.withdrawn) (s.job r.job) && not (is_done (cached_progress s t).phase)) (cached_spec s t)

-- the state of an open machine
abbrev pub open_in : Sight → ℕ → Option MachineReg
open_in s m = only_if (λ r. r.up) (and_then (λ v. v.1.0) (s.machine m))

-- the machine at the spot is open and at its present incarnation
abbrev pub present_in : Sight → Spot → Bool
present_in s p = passes (λ r. true) (open_in s p.machine) && passes (λ i. i == p.incarnation) (option_map (λ v. v.0) (s.machine p.machine))

-- the machine that holds a live task
abbrev pub cached_holder : Sight → ℕ → Option ℕ
cached_holder s t = cond (passes (λ r. true) (cached_live s t)) (option_map (λ p. p.machine) (only_if (present_in s) (s.spot t))) None

-- a live task that no machine holds prefers the machine
abbrev pub prefers_in : Sight → ℕ → ℕ → Bool
prefers_in s m t = passes (λ r. is_some (lookup nat_cmp m r.prefer)) (cached_live s t) && not (passes (λ h. true) (cached_holder s t))
