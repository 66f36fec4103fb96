use Rattle.fm_dimacs.proofs.Verdict.{one_broken, not_broken}
use Rattle.fm_dimacs.proofs.laws.law_broken.Goals as goal

pub returns-clause-one : goal.returns-clause-one
returns-clause-one c = one_broken

pub returns-clause-no_network : goal.returns-clause-no_network
returns-clause-no_network c = λ text line net fits broken can e. not_broken net text line fits can e broken
