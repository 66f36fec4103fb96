use Rattle.fm_paths.proofs.Rounds.{left_fit}
use Rattle.fm_paths.proofs.laws.law_at_jobs.Goals as goal

pub returns : goal.returns
returns c = left_fit
