use Rattle.fm_store.proofs.Finding.{finished, no_fault}
use Rattle.fm_store.proofs.laws.law_found.Goals as goal

pub returns-clause-finished : goal.returns-clause-finished
returns-clause-finished c = λ h ps n bytes s unfinished. finished h ps n bytes s unfinished

pub returns-clause-no_fault : goal.returns-clause-no_fault
returns-clause-no_fault c = λ h ps n bytes e s cause. no_fault h ps n bytes e s cause
