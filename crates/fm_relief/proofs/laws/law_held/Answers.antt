use Rattle.fm_relief.proofs.Held.{on_from, on_in}
use Rattle.fm_relief.proofs.laws.law_held.Goals as goal

pub returns : goal.returns
returns c k m e = (on_from k m e, on_in k m e)
