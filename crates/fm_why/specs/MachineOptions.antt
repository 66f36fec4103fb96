-- The ways of a task's unit to machines, and what an arc that a flow leaves empty makes dearer.
use Rattle.std.specs.Prelude.{ℕ, List, Option, Some, None, option_map, min, filter}
use Rattle.std.specs.Map.{keys_of}
use Rattle.fm_records.specs.Table.{Table}
use Rattle.fm_records.specs.Facts.{has_room}
use Rattle.fm_net.specs.declared.node.Node.{Node}
use Rattle.fm_net.specs.declared.node.Node.TheVariants.{Request, Machine, Task}
use Rattle.fm_net.specs.Net.{Net, arc_at}

-- the lesser of two costs, of which either may be missing
abbrev pub lesser : Option ℕ → Option ℕ → Option ℕ
lesser None b = b
lesser (Some a) None = Some a
lesser (Some a) (Some b) = Some (min a b)

-- what an arc costs, if there is one
abbrev pub cost_at : Net → Node → Node → Option ℕ
cost_at net from to = option_map (λ a. a.1) (arc_at net from to)

-- what the cheaper way of the task to the machine costs, if there is one: over its request, or over an arc of its own. An arc to
-- a request costs nothing.
abbrev pub way_cost : Net → ℕ → ℕ → ℕ → Option ℕ
way_cost net t r m = lesser (cost_at net (Request r) (Machine m)) (cost_at net (Task t) (Machine m))

-- the machines with room for a request, by id
abbrev pub roomy : Table → ℕ → List ℕ
roomy k r = filter (λ m. has_room k m r) (keys_of k.machines)
