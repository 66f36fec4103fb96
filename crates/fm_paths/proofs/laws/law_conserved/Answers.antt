use Rattle.fm_paths.proofs.Kept.{kept}
use Rattle.fm_paths.proofs.laws.law_conserved.Goals as goal

pub returns : goal.returns
returns c = kept
