use Rattle.fm_store.proofs.Knowing.{compacted}
use Rattle.fm_store.proofs.laws.law_compacted.Goals as goal

pub returns : goal.returns
returns c = λ number ps p Ss are sender value. compacted number ps p Ss are sender value
