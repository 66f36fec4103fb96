use Rattle.fm_examples.proofs.Decided.{decided}
use Rattle.fm_examples.proofs.round.decide.Goals as goal

pub returns : goal.returns
returns c = record { admitted = decided _ _ _ _ _ _ c.in_ok-network.ensures c.in_ok-flow.ensures.least c.in_ok-plan.ensures c.in_ok-admit.ensures.admitted }
