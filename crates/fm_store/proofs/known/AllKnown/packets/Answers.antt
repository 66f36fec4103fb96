use Rattle.std.proofs.Common.{◌∙◌}
use Rattle.fm_store.proofs.KnownStep.{packets_known}
use Rattle.fm_store.proofs.known.AllKnown.packets.Goals as goal

pub returns-clause-all : goal.returns-clause-all
returns-clause-all c = λ numbers taken has. c.in_ok-packets.ensures ∙ packets_known numbers taken c.args.self.known.items has
