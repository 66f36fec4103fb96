use Rattle.fm_coord.proofs.Said.{ranged}
use Rattle.fm_coord.proofs.coordinator.Coordinator.admission.Goals as goal

pub returns-in-Some-clause-in_range : goal.returns-in-Some-clause-in_range
returns-in-Some-clause-in_range g c = ranged c.admit_by.result c.admit_by.ensures.in_range

pub returns-in-None-clause-in_range : goal.returns-in-None-clause-in_range
returns-in-None-clause-in_range g c = ranged c.admit.result c.admit.ensures.in_range
