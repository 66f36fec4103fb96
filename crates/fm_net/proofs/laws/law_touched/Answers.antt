use Rattle.fm_net.proofs.TouchedLaws.{touched_is_change}
use Rattle.fm_net.proofs.laws.law_touched.Goals as goal

pub returns : goal.returns
returns c = touched_is_change
