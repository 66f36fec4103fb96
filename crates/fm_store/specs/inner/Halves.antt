-- A table in two halves.
use Rattle.std.specs.Prelude.{ℕ, ◌++◌, length, max}
use Rattle.fm_records.specs.Table.{Table}

-- how many records the longest of its lists has
abbrev pub longest : Table → ℕ
longest k = max (max (length k.jobs) (length k.tasks)) (max (length k.machines) (length k.proposals))

-- each list of the first, with that of the second behind it
abbrev pub behind_each_other : Table → Table → Table
behind_each_other k l = record {
  jobs = k.jobs ++ l.jobs;
  tasks = k.tasks ++ l.tasks;
  machines = k.machines ++ l.machines;
  proposals = k.proposals ++ l.proposals;
}
