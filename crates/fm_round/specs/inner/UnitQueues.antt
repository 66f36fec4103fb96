-- The seats that are left of each request.
use Rattle.std.specs.Prelude.{ℕ, nat_lt, cond, not, ◌&&◌, List, [], ◌∷◌, Option, None, option_map, unwrap_or}
use Rattle.std.specs.List.{slice_get}
use Rattle.std.specs.Ordering.{nat_cmp}
use Rattle.std.specs.BTreeMap.{get}
use Rattle.fm_records.specs.Sets.{IsMember}
use Rattle.fm_records.specs.Options.{and_then}
use Rattle.fm_records.specs.Table.{Table}
use Rattle.fm_net.specs.declared.node.Node.{Node}
use Rattle.fm_net.specs.declared.node.Node.TheVariants.{Request, Machine, Task}
use Rattle.fm_net.specs.Network.{is_held}
use Rattle.fm_round.specs.declared.plan.Place.{Place}
use Rattle.fm_round.specs.PlanOfFlow.{Wait, wait_in, place_at}
use Rattle.fm_round.specs.declared.from_units.Queues.{Queues}

-- the machines, one for each seat
abbrev pub queue_of : Queues → ℕ → List ℕ
queue_of queues r = unwrap_or (option_map (λ q. q.items) (get nat_cmp queues.by_request r)) []

-- where the task of an arc with units goes, while these are the seats that are left of each request
abbrev pub placed_next : (ℕ → List ℕ) → Table → (Node × Node) × ℕ → Option Place
placed_next left k ((Task t, Request r), u) = and_then (λ w. and_then (place_at k w.task) (slice_get (left w.request) 0)) (wait_in ((Task t, Request r), u))
placed_next left k ((Task t, Machine m), u) = cond (nat_lt 0 u && not (is_held k t)) (place_at k t m) None
placed_next left k _ = None

-- none occurs twice
abbrev pub HasNoRepeat : List Wait → Type 0
HasNoRepeat [] = Unit {0}
HasNoRepeat (w ∷ ws) = (¬ IsMember w ws) × HasNoRepeat ws
