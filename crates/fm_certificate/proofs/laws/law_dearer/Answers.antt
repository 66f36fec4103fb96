use Rattle.fm_certificate.specs.Flows.{units_in}
use Rattle.fm_certificate.specs.Certificates.{potential_in}
use Rattle.fm_certificate.proofs.Dearer.{dearer_used, dearer_unused}
use Rattle.fm_certificate.proofs.laws.law_dearer.Goals as goal

pub returns-clause-used : goal.returns-clause-used
returns-clause-used c = λ net flow potentials others from to arc can cert feasible there none some.
    dearer_used net (units_in flow) others (potential_in potentials) can cert.feasible feasible cert.no_gain cert.no_waste from to arc there none some

pub returns-clause-unused : goal.returns-clause-unused
returns-clause-unused c = λ net flow potentials others from to arc can cert feasible there some none.
    dearer_unused net (units_in flow) others (potential_in potentials) can cert.feasible feasible cert.no_gain cert.no_waste from to arc there some none
