-- The plan of ways: the tasks by id, each at the machine of its way, or preempted.
use Rattle.std.specs.Prelude.{◌≡◌, ℕ, ◌<◌, ◌≤◌, ◌&&◌, Bool, true, false, cond, List, Option, None, option_map}
use Rattle.std.specs.List.{filter_map}
use Rattle.fm_records.specs.Options.{when, or_else}
use Rattle.fm_records.specs.Table.{Table, TaskValue}
use Rattle.fm_records.specs.Facts.{live_spec, is_live}
use Rattle.fm_net.specs.declared.node.Node.{Node}
use Rattle.fm_net.specs.declared.node.Node.TheVariants.{Unscheduled, Request, Machine}
use Rattle.fm_net.specs.Network.{is_held}
use Rattle.fm_round.specs.declared.plan.Place.{Place}
use Rattle.fm_round.specs.declared.plan.Preempt.{Preempt}
use Rattle.fm_round.specs.declared.plan.Plan.{Plan}
use Rattle.fm_round.specs.PlanOfFlow.{place_at, preempt_of}
use Rattle.fm_paths.specs.TaskPaths.{Way, ToJob, ByRequest, Straight}
use Rattle.fm_paths.specs.Prices.{first_node}

abbrev pub is_job : Node → Bool
is_job (Unscheduled j) = true
is_job _ = false

abbrev pub is_run : Node → Bool
is_run (Request r) = true
is_run (Machine m) = true
is_run _ = false

-- the task, if it is live and the first node on its way passes the test
abbrev pub goer : Table → (ℕ → Way) → (Node → Bool) → ℕ × TaskValue → Option ℕ
goer k way p e = when (is_live k e.0 && p (first_node (way e.0))) e.0

abbrev pub goers : Table → (ℕ → Way) → (Node → Bool) → List ℕ
goers k way p = filter_map (goer k way p) k.tasks

-- the preempts: the held tasks whose way is over their job
abbrev pub preempts_of_ways : Table → (ℕ → Way) → List Preempt
preempts_of_ways k way = filter_map (preempt_of k) (goers k way is_job)

-- the place of a task: the machine of its way, unless that holds it
abbrev pub place_way : Table → ℕ → Way → Option Place
place_way k t (ToJob j) = None
place_way k t (ByRequest r m) = place_at k t m
place_way k t (Straight m) = cond (is_held k t) None (place_at k t m)

abbrev pub places_of_ways : Table → (ℕ → Way) → List Place
places_of_ways k way = filter_map (λ t. place_way k t (way t)) (goers k way is_run)

-- tasks of one request that go over it: the greater of two ids goes to no lesser machine
abbrev pub InTurn : Table → (ℕ → Way) → Type 0
InTurn k way = (t u r m n : ℕ) → is_live k t ≡ true → is_live k u ≡ true → way t ≡ ByRequest r m → way u ≡ ByRequest r n → t < u → m ≤ n

-- the plan
abbrev pub plan_of_ways : Table → (ℕ → Way) → Plan
plan_of_ways k way = record { places = places_of_ways k way; preempts = preempts_of_ways k way }

-- each task goes over its job
abbrev pub all_at_jobs : Table → ℕ → Way
all_at_jobs k t = ToJob (or_else 0 (option_map (λ s. s.job) (live_spec k t)))
