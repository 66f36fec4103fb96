-- The nodes and amounts that cached records name.
use Rattle.std.specs.Prelude.{◌≡◌, ℕ, Bool, cond, not, ◌&&◌, Option, None, option_map}
use Rattle.fm_records.specs.declared.records.SpecReg.{SpecReg}
use Rattle.fm_records.specs.declared.records.Spot.{Spot}
use Rattle.fm_records.specs.Options.{and_then, only_if, passes, or_else}
use Rattle.fm_records.specs.Table.{TaskValue}
use Rattle.fm_records.specs.Facts.{is_done}
use Rattle.fm_net.specs.declared.node.Node.{Node}
use Rattle.fm_net.specs.declared.node.Node.TheVariants.{Unscheduled, Request, Machine}
use Rattle.fm_edit.specs.declared.record_cache.CachedTask.{CachedTask}
use Rattle.fm_edit.specs.CacheModel.{Sight, cached_spec, cached_live, present_in, cached_holder}

-- the nodes of the job that a task's spec names, and of the machine that the winner of its present attempt names
abbrev pub job_node_in : Sight → ℕ → Option Node
job_node_in s t = option_map (λ r. Unscheduled r.job) (cached_spec s t)

abbrev pub spot_node_in : Sight → ℕ → Option Node
spot_node_in s t = option_map (λ p. Machine p.machine) (s.spot t)

-- the same of a task's record
abbrev pub cached_live_record : Sight → TaskValue → Option SpecReg
cached_live_record s v = only_if (λ r. not r.withdrawn && passes (λ j. not j.withdrawn) (s.job r.job) && not (is_done v.1.phase)) v.0

-- the machine of the spot that a task's winner names, if the task is live and the machine there to hold it
abbrev pub held_at : Sight → Bool → Option Spot → Option ℕ
held_at s live spot = cond live (option_map (λ p. p.machine) (only_if (present_in s) spot)) None

-- the reported use
abbrev pub used_in : Sight → ℕ → ℕ
used_in s m = or_else 0 (option_map (λ r. r.used) (and_then (λ v. v.1.1) (s.machine m)))

-- the nodes of the request of a task's spec, and of the machine that holds it
abbrev pub request_node_in : Sight → ℕ → Option Node
request_node_in s t = option_map (λ r. Request r.request) (cached_spec s t)

abbrev pub holder_node_in : Sight → ℕ → Option Node
holder_node_in s t = option_map Machine (cached_holder s t)

-- what was found of a task is what is in sight of it
pub record IsSeenTask (s : Sight) (t : ℕ) (x : CachedTask) : Type 0 where
  pub job : x.job ≡ job_node_in s t
  pub request : x.request ≡ request_node_in s t
  pub spot : x.spot ≡ spot_node_in s t
  pub live : x.live ≡ cached_live s t
  pub holder : x.holder ≡ cached_holder s t
