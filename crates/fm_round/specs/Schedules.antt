-- What a round may commit: the plan of a schedule, which is a least flow (Firmament's rounds).
use Rattle.std.specs.Prelude.{◌≡◌}
use Rattle.fm_records.specs.Table.{Table}
use Rattle.fm_net.specs.Network.{net_of}
use Rattle.fm_certificate.specs.Flows.{Units, IsLeast}
use Rattle.fm_round.specs.declared.plan.Plan.{Plan}
use Rattle.fm_round.specs.PlanOfFlow.{units_over, plan_of_flow}

-- the plan of a least flow of the network of what is known
pub record IsPlanOf (k : Table) (plan : Plan) : Type 0 where
  pub units : Units
  pub least : IsLeast (net_of k) units
  pub planned : plan ≡ plan_of_flow (units_over (net_of k) units) k
