-- What a delta can change: the jobs, tasks and machines whose facts may differ once it is taken in, and the nodes and pairs of
-- nodes that may come, go or differ. This project's own.
use Rattle.std.specs.Prelude.{◌≡◌, ◌⊎◌, ℕ, ◌+◌, ◌-◌, ◌^◌, Bool, false, not, ◌&&◌, ◌||◌, is_some, List, length, filter, min, Option, Some, option_map, IsTrue}
use Rattle.std.specs.List.{list_any}
use Rattle.std.specs.Ordering.{nat_cmp, is_eq}
use Rattle.fm_lattice.specs.Maps.{lookup, IsRising}
use Rattle.fm_records.specs.declared.records.Spot.{Spot}
use Rattle.fm_records.specs.Options.{passes}
use Rattle.fm_records.specs.Orders.{attempt_cmp}
use Rattle.fm_records.specs.Table.{Table}
use Rattle.fm_records.specs.Rising.{Rises}
use Rattle.fm_records.specs.Facts.{spec_of, live_spec, won_spot, holder_of, is_present}
use Rattle.fm_net.specs.declared.node.Node.{Node}
use Rattle.fm_net.specs.declared.node.Node.TheVariants.{Sink, Unscheduled, Request, Machine, Task}
use Rattle.fm_net.specs.declared.edit.Edit.{Edit}
use Rattle.fm_net.specs.declared.edit.Edit.TheVariants.{DropArc, DropNode, PutNode, PutArc}
use Rattle.fm_net.specs.Network.{is_held}
use Rattle.fm_policy.specs.Changes.{Keys}
use Rattle.fm_edit.specs.CacheUpdate.{turns}

-- the id is one of the list
abbrev pub has_id : List ℕ → ℕ → Bool
has_id xs x = list_any (λ y. is_eq (nat_cmp x y)) xs

-- the job and the request that a task's spec names, and the machine that the winner of its present attempt names
abbrev pub job_of_task : Table → ℕ → Option ℕ
job_of_task k t = option_map (λ s. s.job) (spec_of k t)

abbrev pub request_of_task : Table → ℕ → Option ℕ
request_of_task k t = option_map (λ s. s.request) (spec_of k t)

abbrev pub won_machine : Table → ℕ → Option ℕ
won_machine k t = option_map (λ s. s.machine) (won_spot k t)

-- a live task that no machine holds prefers the machine
abbrev pub prefers : Table → ℕ → ℕ → Bool
prefers k m t = passes (λ s. is_some (lookup nat_cmp m s.prefer)) (live_spec k t) && not (is_held k t)

-- two tables, before and after a delta, tell the same of all that these keys do not name; `turned` are the machines of which it
-- may have changed whether they are open, or their incarnation
pub record SameBeyond (k after : Table) (keys : Keys) (turned : List ℕ) : Type 0 where
  pub jobs : (j : ℕ) → has_id keys.jobs j ≡ false → lookup nat_cmp j after.jobs ≡ lookup nat_cmp j k.jobs
  pub tasks : (t : ℕ) → has_id keys.tasks t ≡ false → lookup nat_cmp t after.tasks ≡ lookup nat_cmp t k.tasks
  pub machines : (m : ℕ) → has_id keys.machines m ≡ false → lookup nat_cmp m after.machines ≡ lookup nat_cmp m k.machines
  pub proposals : (t a : ℕ) → has_id keys.tasks t ≡ false → lookup attempt_cmp (t, a) after.proposals ≡ lookup attempt_cmp (t, a) k.proposals
  pub present : (s : Spot) → has_id turned s.machine ≡ false → is_present after s ≡ is_present k s
  pub tasks_rise : IsRising nat_cmp k.tasks
  pub after_rise : IsRising nat_cmp after.tasks

-- before and after a delta with these keys
module _ (k after : Table) (keys : Keys) (turned : List ℕ) where
  -- a task that the delta tells of, or whose job it tells of, or whose winner names a machine that turned
  abbrev pub dirty_task : ℕ → Bool
  dirty_task t =
      has_id keys.tasks t
      || passes (has_id keys.jobs) (job_of_task k t) || passes (has_id keys.jobs) (job_of_task after t)
      || passes (has_id turned) (won_machine k t) || passes (has_id turned) (won_machine after t)

  abbrev pub EitherSays : (Table → ℕ → Option ℕ) → ℕ → ℕ → Type 0
  EitherSays f t x = (f k t ≡ Some x) ⊎ (f after t ≡ Some x)

  -- a job that the delta tells of, or that has a dirty task
  abbrev pub IsDirtyJob : ℕ → Type 0
  IsDirtyJob j = IsTrue (has_id keys.jobs j) ⊎ ((t : ℕ) × IsTrue (dirty_task t) × EitherSays job_of_task t j)

  -- a machine that the delta tells of, or that holds a dirty task
  abbrev pub IsDirtyMachine : ℕ → Type 0
  IsDirtyMachine m = IsTrue (has_id keys.machines m) ⊎ ((t : ℕ) × IsTrue (dirty_task t) × EitherSays holder_of t m)

  -- a request of a dirty task
  abbrev pub IsDirtyRequest : ℕ → Type 0
  IsDirtyRequest r = (t : ℕ) × IsTrue (dirty_task t) × EitherSays request_of_task t r

  -- the nodes that may come or go, and the pairs whose arc may
  abbrev pub MayTurn : Node → Type 0
  MayTurn Sink = ⊥
  MayTurn (Unscheduled j) = IsDirtyJob j
  MayTurn (Request r) = IsDirtyRequest r
  MayTurn (Machine m) = IsDirtyMachine m
  MayTurn (Task t) = IsTrue (dirty_task t)

  abbrev pub MayDiffer : Node → Node → Type 0
  MayDiffer (Task t) (Machine m) = IsTrue (dirty_task t) ⊎ (IsDirtyMachine m × IsTrue (prefers k m t))
  MayDiffer (Task t) b = IsTrue (dirty_task t)
  MayDiffer (Request r) (Machine m) = IsDirtyRequest r ⊎ IsDirtyMachine m
  MayDiffer (Machine m) Sink = IsDirtyMachine m
  MayDiffer (Unscheduled j) Sink = IsDirtyJob j
  MayDiffer _ _ = ⊥

  -- the edits that may be made: of a node that may come or go, or of a pair whose arc may
  abbrev pub MayMake : Edit → Type 0
  MayMake (DropArc a b) = MayDiffer a b
  MayMake (DropNode n) = MayTurn n
  MayMake (PutNode n) = MayTurn n
  MayMake (PutArc a b capacity cost) = MayDiffer a b

-- the machines of these keys that turned from one table to the other
abbrev pub turned_in : Table → Table → Keys → List ℕ
turned_in k after keys = filter (λ m. turns (lookup nat_cmp m k.machines) (lookup nat_cmp m after.machines)) keys.machines

-- the dirty tasks and no others, each once
pub record AreDirtyTasks (k after : Table) (keys : Keys) (ts : List ℕ) : Type 0 where
  pub rise : Rises nat_cmp ts
  pub each : (t : ℕ) → has_id ts t ≡ dirty_task k after keys (turned_in k after keys) t

-- a count of at most 2^64 - 1, with one more for each dirty task
abbrev pub CountsDirtyTasks : Table → Table → Keys → ℕ → ℕ → Type 0
CountsDirtyTasks k after keys old new = (ts : List ℕ) × AreDirtyTasks k after keys ts × (new ≡ min (old + length ts) (2 ^ 64 - 1))
