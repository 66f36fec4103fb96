use Rattle.fm_args.proofs.Digits.{written}
use Rattle.fm_args.proofs.laws.law_number.Goals as goal

pub returns : goal.returns
returns c = written
