use Rattle.fm_dimacs.proofs.Verdict.{one_text}
use Rattle.fm_dimacs.proofs.laws.law_one_text.Goals as goal

pub returns : goal.returns
returns c = one_text
