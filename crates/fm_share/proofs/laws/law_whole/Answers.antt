use Rattle.fm_share.proofs.Firsts.{whole_is}
use Rattle.fm_share.proofs.laws.law_whole.Goals as goal

pub returns : goal.returns
returns c = whole_is
