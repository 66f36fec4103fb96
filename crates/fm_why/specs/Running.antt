-- What it means that a schedule runs a task on a machine, and how much dearer each such schedule is. Sensitivity analysis of
-- linear programs; this project's profile.
use Rattle.std.specs.Prelude.{ℕ, ◌+◌, ◌≤◌, ◌<◌, ◌⊎◌, IsSome}
use Rattle.fm_net.specs.declared.node.Node.{Node}
use Rattle.fm_net.specs.declared.node.Node.TheVariants.{Request, Machine, Task}
use Rattle.fm_net.specs.Net.{Net, arc_at}
use Rattle.fm_certificate.specs.Flows.{Units, cost_of, IsFeasible}

-- the network has the arc, and the flow sends units over it
pub record Sends (net : Net) (units : Units) (from to : Node) : Type 0 where
  pub arc : IsSome (arc_at net from to)
  pub some : 0 < units from to

-- the flow sends the task's unit over the request, and a unit from there to the machine
abbrev pub GoesOver : Net → ℕ → ℕ → ℕ → Units → Type 0
GoesOver net t r m units = Sends net units (Task t) (Request r) × Sends net units (Request r) (Machine m)

-- The flow runs the task on the machine: a unit goes over the task's own arc to the machine, or one goes over a request to which
-- the task sends its unit. Tasks of one request may change places there for nothing. So the units can be dealt out in such a way
-- that the task runs on the machine; the plan of the flow pairs tasks and machines by id, and may have another one there.
abbrev pub RunsOn : Net → Units → ℕ → ℕ → Type 0
RunsOn net units t m = Sends net units (Task t) (Machine m) ⊎ ((r : ℕ) × GoesOver net t r m units)

-- each flow that does so costs so much more than a cost, at least
abbrev pub IsDearerIf : Net → ℕ → (Units → Type 0) → ℕ → Type 0
IsDearerIf net cost DoesSo more = (others : Units) → IsFeasible net others → DoesSo others → cost + more ≤ cost_of net others

-- each flow that runs the task on the machine
abbrev pub IsDearer : Net → ℕ → ℕ → ℕ → ℕ → Type 0
IsDearer net cost t m more = IsDearerIf net cost (λ units. RunsOn net units t m) more

-- each flow that sends units over an arc
abbrev pub IsDearerOver : Net → ℕ → Node → Node → ℕ → Type 0
IsDearerOver net cost from to more = IsDearerIf net cost (λ units. Sends net units from to) more
