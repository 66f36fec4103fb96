use Rattle.fm_serve.proofs.Checking.{refused-there, other-there}
use Rattle.fm_serve.proofs.laws.law_check.Goals as goal

pub returns-clause-named : goal.returns-clause-named
returns-clause-named c = refused-there

pub returns-clause-accepted : goal.returns-clause-accepted
returns-clause-accepted c = other-there
