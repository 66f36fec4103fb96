-- Which records a delta touches.
use Rattle.std.specs.Prelude.{ℕ, Bool, ◌&&◌, List, [], ◌∷◌, ◌++◌, true, false, map}
use Rattle.std.specs.Ordering.{nat_cmp}
use Rattle.fm_records.specs.Sets.{rising}
use Rattle.fm_records.specs.Table.{Table}

-- ids of jobs, tasks and machines
pub record Keys : Type 0 where
  pub jobs : List ℕ
  pub tasks : List ℕ
  pub machines : List ℕ

-- the tasks that a delta tells of, by a record or by a proposal
abbrev pub changed_tasks : Table → List ℕ
changed_tasks d = rising nat_cmp (map (λ e. e.0) d.tasks ++ map (λ e. e.0.0) d.proposals)

-- the jobs, tasks and machines that a delta tells of
abbrev pub changed_keys : Table → Keys
changed_keys d = record { jobs = map (λ e. e.0) d.jobs; tasks = changed_tasks d; machines = map (λ e. e.0) d.machines }

-- the keys of two deltas together
abbrev pub joined_keys : Keys → Keys → Keys
joined_keys a b = record { jobs = rising nat_cmp (a.jobs ++ b.jobs); tasks = rising nat_cmp (a.tasks ++ b.tasks); machines = rising nat_cmp (a.machines ++ b.machines) }

-- no delta at all
abbrev pub no_keys : Keys
no_keys = record { jobs = []; tasks = []; machines = [] }

abbrev pub is_nil : List ℕ → Bool
is_nil [] = true
is_nil (x ∷ xs) = false

abbrev pub has_no_keys : Keys → Bool
has_no_keys c = is_nil c.jobs && is_nil c.tasks && is_nil c.machines
