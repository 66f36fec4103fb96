use Rattle.fm_store.proofs.HeadLaws.{head_same}
use Rattle.fm_store.proofs.laws.law_head.Goals as goal

pub returns : goal.returns
returns c = λ h g e. head_same h g e
