use Rattle.fm_certificate.proofs.Least.{certified_is_least}
use Rattle.fm_certificate.proofs.laws.law_least.Goals as goal

pub returns : goal.returns
returns c = certified_is_least
