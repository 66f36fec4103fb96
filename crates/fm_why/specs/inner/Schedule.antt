-- A least flow with potentials that certify it, and what is said by these.
use Rattle.std.specs.Prelude.{◌≡◌, ℕ}
use Rattle.fm_net.specs.Net.{Net}
use Rattle.fm_certificate.specs.Flows.{units_in, cost_of, IsLeast}
use Rattle.fm_certificate.specs.Certificates.{potential_in, IsCertified}
use Rattle.fm_why.specs.Bounds.{IsBound}
use Rattle.fm_why.specs.Reasons.{IsChoice}
use Rattle.fm_why.specs.declared.reasons.Choice.{Choice}
use Rattle.fm_why.specs.declared.bounds.CertifiedFlow.{CertifiedFlow}

-- the potentials certify the flow, so that it is least, and it costs as much as is said
pub record IsSchedule (net : Net) (schedule : CertifiedFlow) : Type 0 where
  pub certified : IsCertified net schedule.flow schedule.potentials
  pub least : IsLeast net (units_in schedule.flow)
  pub cost : schedule.least ≡ cost_of net (units_in schedule.flow)

-- what is said of a machine holds, and its bound is that of these potentials
pub record IsBounded (net : Net) (schedule : CertifiedFlow) (t r : ℕ) (choice : Choice) : Type 0 where
  pub holds : IsChoice net schedule.least t r choice
  pub bound : IsBound net (units_in schedule.flow) (potential_in schedule.potentials) t r choice
