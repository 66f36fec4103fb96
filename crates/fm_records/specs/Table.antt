-- What is known: the records of jobs, tasks, machines and proposals, each list with its keys rising.
-- This project's profile; the records are registers in the sense of delta-state CRDTs.
use Rattle.std.specs.Prelude.{ℕ, List, Option}
use Rattle.fm_records.specs.declared.records.JobReg.{JobReg}
use Rattle.fm_records.specs.declared.records.SpecReg.{SpecReg}
use Rattle.fm_records.specs.declared.records.Progress.{Progress}
use Rattle.fm_records.specs.declared.records.MachineReg.{MachineReg}
use Rattle.fm_records.specs.declared.records.Report.{Report}
use Rattle.fm_records.specs.declared.records.Spot.{Spot}

-- a task's spec, if known, and its progress
abbrev pub TaskValue : Type 0
TaskValue = Option SpecReg × Progress

-- a machine's incarnation, and its state and report at it, if known
abbrev pub MachineValue : Type 0
MachineValue = ℕ × (Option MachineReg × Option Report)

pub record Table : Type 0 where
  pub jobs : List (ℕ × JobReg)
  pub tasks : List (ℕ × TaskValue)
  pub machines : List (ℕ × MachineValue)
  -- at a task and an attempt: by coordinator, where it would run the attempt
  pub proposals : List ((ℕ × ℕ) × List (ℕ × Spot))
