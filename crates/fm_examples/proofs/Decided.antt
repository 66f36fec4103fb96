-- What was admitted is that of the plan of a least flow.
use Rattle.std.proofs.Common.{◌≡◌, ℕ, subst, ◌∙◌}
use Rattle.fm_records.specs.Table.{Table}
use Rattle.fm_net.specs.Net.{Net}
use Rattle.fm_net.specs.Network.{net_of}
use Rattle.fm_certificate.specs.Flows.{Units, IsLeast}
use Rattle.fm_round.specs.declared.plan.Plan.{Plan}
use Rattle.fm_round.specs.declared.plan.Admitted.{Admitted}
use Rattle.fm_round.specs.Admission.{admission}
use Rattle.fm_round.specs.PlanOfFlow.{units_over, plan_of_flow}
use Rattle.fm_round.specs.Schedules.{IsPlanOf}

pub decided : (k : Table) (net : Net) (units : Units) (plan : Plan) (n : ℕ) (a : Admitted) → net ≡ net_of k → IsLeast net units → plan ≡ plan_of_flow (units_over net units) k → a ≡ admission k n plan → (x : Plan) × IsPlanOf k x × a ≡ admission k n x
decided k net units plan n a is least made comes =
    (plan, record { units = units; least = subst (λ m. IsLeast m units) is least; planned = made ∙ (λ i. plan_of_flow (units_over (is i) units) k) }, comes)
