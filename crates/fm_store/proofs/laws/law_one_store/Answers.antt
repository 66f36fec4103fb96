use Rattle.fm_store.proofs.OneStore.{one_store}
use Rattle.fm_store.proofs.laws.law_one_store.Goals as goal

pub returns : goal.returns
returns c = λ h g ps qs m n bytes s t. one_store h g ps qs m n bytes s t
