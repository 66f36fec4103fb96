use Rattle.fm_wire.specs.declared.version.Version.TheVariants.{Fdg2}
use Rattle.fm_wire.proofs.PacketLaws.{begins}
use Rattle.fm_wire.proofs.laws.law_no_prefix.Goals as goal

pub returns-clause-written : goal.returns-clause-written
returns-clause-written c = λ p q rest is_p is_q same. (begins Fdg2 Fdg2 p q rest is_p is_q tt tt same).2

pub returns-clause-versions : goal.returns-clause-versions
returns-clause-versions c = λ v w p q rest is_p is_q can_p can_q same. (begins v w p q rest is_p is_q can_p can_q same).2
