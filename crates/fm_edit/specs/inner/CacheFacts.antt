-- What is in sight, with the sums at nodes, tells of nodes what the table that is seen does, and so its network. Own.
use Rattle.std.specs.Prelude.{ℕ, ◌-◌, ◌^◌, Bool, not, ◌==◌, Option, min, max}
use Rattle.fm_net.specs.declared.node.Node.{Node}
use Rattle.fm_net.specs.declared.node.Node.TheVariants.{Sink, Unscheduled, Request, Machine, Task}
use Rattle.fm_policy.specs.declared.node_facts.NodeFacts.{NodeFacts}
use Rattle.fm_policy.specs.declared.node_facts.NodeFacts.TheVariants.{OfSink, OfJob, OfRequest, OfMachine, OfTask}
use Rattle.fm_policy.specs.NodeFacts.{is_there, arc_between}
use Rattle.fm_edit.specs.CacheModel.{Sight, cached_live, open_in, cached_holder}
use Rattle.fm_edit.specs.inner.CachedNodes.{used_in}

module _ (s : Sight) (sum : Node → ℕ) where
  -- what is known of a node
  abbrev pub facts_shown : Node → NodeFacts
  facts_shown Sink = OfSink
  facts_shown (Unscheduled j) = OfJob (record { job = j; register = s.job j; live = min (sum (Unscheduled j)) (2 ^ 64 - 1) })
  facts_shown (Request r) = OfRequest (record { request = r; waits = not (sum (Request r) == 0) })
  facts_shown (Machine m) = OfMachine (record { machine = m; state = open_in s m; load = max (used_in s m) (sum (Machine m)) })
  facts_shown (Task t) = OfTask (record { task = t; spec = cached_live s t; holder = cached_holder s t })

  abbrev pub node_shown : Node → Bool
  node_shown n = is_there (facts_shown n)

  abbrev pub arc_shown : Node → Node → Option (ℕ × ℕ)
  arc_shown a b = arc_between (facts_shown a) (facts_shown b)
