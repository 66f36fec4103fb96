-- A schedule that runs a task on a machine, as an example of what that costs; this project's profile.
use Rattle.std.specs.Prelude.{◌≡◌, ℕ, ◌==◌, ◌&&◌, nat_lt, if◌then◌else◌, List, Option, Some, None, IfSome}
use Rattle.std.specs.List.{filter_map}
use Rattle.fm_net.specs.declared.node.Node.{Node}
use Rattle.fm_net.specs.declared.node.Node.TheVariants.{Task}
use Rattle.fm_net.specs.Net.{Net}
use Rattle.fm_certificate.specs.Flows.{Units, cost_of, IsFeasible}
use Rattle.fm_why.specs.declared.reasons.Choice.{Choice}
use Rattle.fm_why.specs.declared.reasons.Alternative.{Alternative}
use Rattle.fm_why.specs.declared.reasons.Move.{Move}
use Rattle.fm_why.specs.Running.{RunsOn}

-- a task that sends its unit over the arc in another flow, and not now
abbrev pub move_over : Units → Units → Node × Node → Option Move
move_over now units (Task t, to) =
    if nat_lt 0 (units (Task t) to) && now (Task t) to == 0 then Some (record { task = t; to = to }) else None
move_over now units _ = None

-- the tasks whose units go over other arcs of their own in another flow, and where they go
abbrev pub moves_between : Net → Units → Units → List Move
moves_between net now units = filter_map (λ a. move_over now units a.0) net.arcs

-- a feasible flow that runs the task on the machine: what it costs, and which tasks go over other arcs of their own than now
pub record IsExample (net : Net) (now : Units) (t m : ℕ) (example : Alternative) : Type 0 where
  pub units : Units
  pub feasible : IsFeasible net units
  pub runs : RunsOn net units t m
  pub cost_is : example.cost ≡ cost_of net units
  pub moves_are : example.moves.items ≡ moves_between net now units

-- of a machine to which the task has a way, possibly such a flow
abbrev pub IsExampleFor : Net → Units → ℕ → Choice × Option Alternative → Type 0
IsExampleFor net now t e = IfSome e.1 (IsExample net now t e.0.machine)
