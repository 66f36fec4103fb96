use Rattle.std.proofs.Common.{[], ◌∙◌}
use Rattle.std.proofs.lemmas.List.{append-nil}
use Rattle.fm_wire.specs.declared.version.Version.TheVariants.{Fdg2}
use Rattle.fm_wire.specs.Grammar.{spelling_in}
use Rattle.fm_wire.proofs.PacketLaws.{begins}
use Rattle.fm_wire.proofs.laws.law_one_spelling.Goals as goal

pub returns-clause-written : goal.returns-clause-written
returns-clause-written c = λ p q is_p is_q same. (begins Fdg2 Fdg2 p q [] is_p is_q tt tt (append-nil (spelling_in Fdg2 p) ∙ same)).1

pub returns-clause-versions : goal.returns-clause-versions
returns-clause-versions c = λ v w p q is_p is_q can_p can_q same. let b = begins v w p q [] is_p is_q can_p can_q (append-nil (spelling_in v p) ∙ same) in (b.0, b.1)
