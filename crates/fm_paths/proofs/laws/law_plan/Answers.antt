use Rattle.fm_paths.proofs.Rounds.{is_plan}
use Rattle.fm_paths.proofs.laws.law_plan.Goals as goal

pub returns : goal.returns
returns c = is_plan
