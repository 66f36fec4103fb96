-- What is looked into, the keys that are looked up, and which keys a delta calls for. Own.
use Rattle.std.specs.Prelude.{ℕ, List, ◌++◌, map, IsTrue}
use Rattle.fm_records.specs.Table.{Table}
use Rattle.fm_records.specs.Facts.{attempt_of}
use Rattle.fm_policy.specs.Changes.{Keys}
use Rattle.fm_edit.specs.declared.look.Key.{Key}
use Rattle.fm_edit.specs.declared.look.Key.TheVariants.{Job, Task, Machine, Winner}
use Rattle.fm_edit.specs.Dirty.{dirty_task, IsDirtyJob, IsDirtyMachine}

-- a look: the table that it looks into, and the keys that were looked up, in turn
pub record Looked : Type 0 where
  pub table : Table
  pub keys : List Key

-- the records that a delta with these keys tells of, and the winners of the present attempts of its tasks, looked up in the
-- table after it
abbrev pub looks_of : Table → Keys → List Key
looks_of after keys =
    map Machine keys.machines
    ++ (map Job keys.jobs
    ++ (map Task keys.tasks
    ++ map (λ t. Winner t (attempt_of after t)) keys.tasks))

-- the key is of a job, task, machine or winner of a task that the delta can have changed
abbrev pub IsDirtyKey : Table → Table → Keys → List ℕ → Key → Type 0
IsDirtyKey k after keys turned (Job j) = IsDirtyJob k after keys turned j
IsDirtyKey k after keys turned (Task t) = IsTrue (dirty_task k after keys turned t)
IsDirtyKey k after keys turned (Machine m) = IsDirtyMachine k after keys turned m
IsDirtyKey k after keys turned (Winner t a) = IsTrue (dirty_task k after keys turned t)
