use Rattle.fm_service.proofs.StoredSets.{marked, commit_stored, full_stored, known_stored, restored_stored}
use Rattle.fm_service.proofs.StoredLines.{answered, stay_listed, opened}
use Rattle.fm_service.proofs.laws.law_stored.Goals as goal

pub returns-clause-opened : goal.returns-clause-opened
returns-clause-opened c = λ most behind line answer k a. opened most behind line answer k a

pub returns-clause-line : goal.returns-clause-line
returns-clause-line c = λ S most behind line answer k j a h. answered S most behind k j h line answer a

pub returns-clause-stored : goal.returns-clause-stored
returns-clause-stored c = λ S k h n r lt there. commit_stored S k h n r lt there

pub returns-clause-full : goal.returns-clause-full
returns-clause-full c = λ k n r lt there. full_stored k n r lt there

pub returns-clause-marked : goal.returns-clause-marked
returns-clause-marked c = λ k n r lt there. marked k.world.replicas n r lt there

pub returns-clause-restored : goal.returns-clause-restored
returns-clause-restored c = λ behind k packets h. restored_stored behind k packets h

pub returns-clause-listed : goal.returns-clause-listed
returns-clause-listed c = λ most behind line answer k j a. stay_listed most behind k j line answer a

pub returns-clause-known : goal.returns-clause-known
returns-clause-known c = λ S k n r lt h there is. known_stored S k h n r lt there is
