-- The arcs of a flow that a plan rests on: those with units, without those from held tasks to their machines.
use Rattle.std.specs.Prelude.{ℕ, Bool, false, nat_lt, ◌==◌, ◌&&◌, Option, Some}
use Rattle.std.specs.List.{list_any}
use Rattle.fm_records.specs.Options.{passes}
use Rattle.fm_net.specs.declared.node.Node.{Node}
use Rattle.fm_net.specs.declared.node.Node.TheVariants.{Request, Machine, Task}
use Rattle.fm_net.specs.Net.{Net}

-- an arc from the task to a request
abbrev pub waits_by : ℕ → Node × Node → Bool
waits_by t (Task s, Request r) = s == t
waits_by t _ = false

-- the task has an arc to its request, as each live task that no machine holds
abbrev pub has_request : Net → ℕ → Bool
has_request net t = list_any (λ a. waits_by t a.0) net.arcs

-- the arc has units, and is none from a held task to its machine
abbrev pub is_asked : Net → (Node × Node) × ℕ → Bool
is_asked net ((Task t, Machine m), u) = nat_lt 0 u && has_request net t
is_asked net (ends, u) = nat_lt 0 u

-- in a walk over arcs in order: the task of the last arc from a task to a request, and whether the next arc is asked for
abbrev pub waiting_after : Option ℕ → Node × Node → Option ℕ
waiting_after waiting (Task t, Request r) = Some t
waiting_after waiting _ = waiting

abbrev pub is_asked_after : Option ℕ → (Node × Node) × ℕ → Bool
is_asked_after waiting ((Task t, Machine m), u) = nat_lt 0 u && passes (λ w. w == t) waiting
is_asked_after waiting (ends, u) = nat_lt 0 u
