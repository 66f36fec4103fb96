-- The plan of a least flow, of a network that is that of what is known.
use Rattle.std.proofs.Common.{◌≡◌, subst, ap, ◌∙◌}
use Rattle.fm_records.specs.Table.{Table}
use Rattle.fm_net.specs.Net.{Net}
use Rattle.fm_net.specs.Network.{net_of}
use Rattle.fm_certificate.specs.Flows.{Units, IsLeast}
use Rattle.fm_round.specs.declared.plan.Plan.{Plan}
use Rattle.fm_round.specs.PlanOfFlow.{units_over, plan_of_flow}
use Rattle.fm_round.specs.Schedules.{IsPlanOf}

pub plan_is : (k : Table) (net : Net) (units : Units) (plan : Plan) → net ≡ net_of k → IsLeast net units → plan ≡ plan_of_flow (units_over net units) k → IsPlanOf k plan
plan_is k net units plan is least made =
    record { units = units; least = subst (λ n. IsLeast n units) is least; planned = made ∙ ap (λ n. plan_of_flow (units_over n units) k) is }
