-- The join of tables: that of the types whose values they are.
use Rattle.std.specs.Prelude.{ℕ, Option, List}
use Rattle.std.specs.Ordering.{nat_cmp}
use Rattle.fm_lattice.specs.Joins.{max_join, min_join, option_join, pair_join, lex_join}
use Rattle.fm_lattice.specs.Maps.{map_join}
use Rattle.fm_records.specs.declared.records.JobReg.{JobReg}
use Rattle.fm_records.specs.declared.records.MachineReg.{MachineReg}
use Rattle.fm_records.specs.declared.records.Report.{Report}
use Rattle.fm_records.specs.declared.records.Spot.{Spot}
use Rattle.fm_records.specs.Orders.{job_cmp, spec_cmp, progress_cmp, machine_cmp, report_cmp, spot_cmp, attempt_cmp}
use Rattle.fm_records.specs.Table.{Table, TaskValue, MachineValue}

-- the greater spec, if any, and the greater progress
abbrev pub task_join : TaskValue → TaskValue → TaskValue
task_join = pair_join (option_join (max_join spec_cmp)) (max_join progress_cmp)

-- the greater state and the greater report, if any
abbrev pub parts_join : Option MachineReg × Option Report → Option MachineReg × Option Report → Option MachineReg × Option Report
parts_join = pair_join (option_join (max_join machine_cmp)) (option_join (max_join report_cmp))

-- the value of the greater incarnation, and the parts joined if the incarnations are equal
abbrev pub machine_join : MachineValue → MachineValue → MachineValue
machine_join = lex_join nat_cmp parts_join

-- by coordinator, the lesser spot
abbrev pub spots_join : List (ℕ × Spot) → List (ℕ × Spot) → List (ℕ × Spot)
spots_join = map_join nat_cmp (min_join spot_cmp)

-- key by key
abbrev pub jobs_join : List (ℕ × JobReg) → List (ℕ × JobReg) → List (ℕ × JobReg)
jobs_join = map_join nat_cmp (max_join job_cmp)

abbrev pub tasks_join : List (ℕ × TaskValue) → List (ℕ × TaskValue) → List (ℕ × TaskValue)
tasks_join = map_join nat_cmp task_join

abbrev pub machines_join : List (ℕ × MachineValue) → List (ℕ × MachineValue) → List (ℕ × MachineValue)
machines_join = map_join nat_cmp machine_join

abbrev pub proposals_join : List ((ℕ × ℕ) × List (ℕ × Spot)) → List ((ℕ × ℕ) × List (ℕ × Spot)) → List ((ℕ × ℕ) × List (ℕ × Spot))
proposals_join = map_join attempt_cmp spots_join

-- map by map
abbrev pub table_join : Table → Table → Table
table_join k l = record {
  jobs = jobs_join k.jobs l.jobs;
  tasks = tasks_join k.tasks l.tasks;
  machines = machines_join k.machines l.machines;
  proposals = proposals_join k.proposals l.proposals;
}
