use Rattle.std.proofs.Common.{sym, subst}
use Rattle.fm_gossip.specs.AfterExchange.{KnowSame}
use Rattle.fm_examples.proofs.exchange.agree.Goals as goal

pub returns-clause-same : goal.returns-clause-same
returns-clause-same g c = subst KnowSame (sym c.in_ok-exchange.ensures.ok) c.law_exchanged.ensures
