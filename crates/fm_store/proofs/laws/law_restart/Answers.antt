use Rattle.fm_store.proofs.OneStore.{restart}
use Rattle.fm_store.proofs.laws.law_restart.Goals as goal

pub returns : goal.returns
returns c = λ h ps all qs m kept old held left a durable b begins_as may s. restart h ps all qs m kept old held left a durable b begins_as may s
