-- The bounds that potentials give: how much dearer flows are that send units where a flow sends none. Sensitivity analysis of linear
-- programs; this project's profile.
use Rattle.std.specs.Prelude.{◌≡◌, ℕ, ℤ, pos, ◌+◌, ◌==◌, if◌then◌else◌, Option, Some, option_map}
use Rattle.fm_records.specs.Options.{or_else}
use Rattle.fm_net.specs.declared.node.Node.{Node}
use Rattle.fm_net.specs.declared.node.Node.TheVariants.{Request, Machine, Task}
use Rattle.fm_net.specs.Net.{Net}
use Rattle.fm_certificate.specs.Flows.{Units}
use Rattle.fm_certificate.specs.Certificates.{reduced_cost}
use Rattle.fm_why.specs.MachineOptions.{cost_at, lesser}
use Rattle.fm_why.specs.declared.reasons.Choice.{Choice}

-- the number; 0 if it is negative
abbrev pub above_zero : ℤ → ℕ
above_zero (pos n) = n
above_zero _ = 0

-- how much dearer units over an arc of this cost make flows, at least: by its reduced cost, if the flow leaves it empty
abbrev pub gap_of : Units → (Node → ℤ) → Node → Node → ℕ → ℕ
gap_of units at from to cost = if units from to == 0 then above_zero (reduced_cost cost (at from) (at to)) else 0

-- the same of an arc of the network, if there is one
abbrev pub gap_at : Net → Units → (Node → ℤ) → Node → Node → Option ℕ
gap_at net units at from to = option_map (gap_of units at from to) (cost_at net from to)

-- the lesser one of both ways of the task to the machine: over its request, of both arcs together, or over an arc of its own
abbrev pub way_gap : Net → Units → (Node → ℤ) → ℕ → ℕ → ℕ → Option ℕ
way_gap net units at t r m =
    lesser (option_map (λ gap. or_else 0 (gap_at net units at (Task t) (Request r)) + gap) (gap_at net units at (Request r) (Machine m)))
    (gap_at net units at (Task t) (Machine m))

-- what is said of the machine is the bound that the potentials give
pub record IsBound (net : Net) (units : Units) (at : Node → ℤ) (t r : ℕ) (choice : Choice) : Type 0 where
  pub dearer : Some choice.dearer ≡ way_gap net units at t r choice.machine
