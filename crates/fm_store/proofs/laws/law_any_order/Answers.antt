use Rattle.fm_store.proofs.Knowing.{same_recovered}
use Rattle.fm_store.proofs.laws.law_any_order.Goals as goal

pub returns : goal.returns
returns c = λ number ps qs Ss Ts are these same. same_recovered number ps qs Ss Ts are these same
