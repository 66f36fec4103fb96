use Rattle.fm_why.proofs.Growing.{no_less}
use Rattle.fm_why.proofs.laws.law_no_less.Goals as goal

pub returns : goal.returns
returns c = λ k m r by less o p can told also below tight. no_less k can.table m r by less o p told also below tight
