-- What flows cost if each unit over one arc costs more, and until when a flow stays least. Sensitivity analysis of linear programs;
-- this project's profile.
use Rattle.std.specs.Prelude.{ℕ, ◌+◌, ◌*◌, ◌≤◌}
use Rattle.fm_net.specs.declared.node.Node.{Node}
use Rattle.fm_net.specs.Net.{Net}
use Rattle.fm_certificate.specs.Flows.{Units, cost_of, IsFeasible}

-- what a flow costs if each unit over the arc costs so much more than the network says
abbrev pub cost_with : Net → Node → Node → ℕ → Units → ℕ
cost_with net from to more units = cost_of net units + units from to * more

-- no feasible flow is cheaper then
abbrev pub StaysLeast : Net → Node → Node → ℕ → Units → Type 0
StaysLeast net from to more units =
    (others : Units) → IsFeasible net others → cost_with net from to more units ≤ cost_with net from to more others
