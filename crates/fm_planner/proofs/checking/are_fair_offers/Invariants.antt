use Rattle.std.proofs.Common.{drop}
use Rattle.fm_planner.specs.inner.Slackness.{AllOf, IsFairOffer}
use Rattle.fm_planner.proofs.checking.are_fair_offers.Given as goal

abbrev pub invariant-loop-request : goal.invariant-loop-request
invariant-loop-request l = AllOf (IsFairOffer l.claim l.counts l.machine l.state) (drop l.request-index l.request-items) → AllOf (IsFairOffer l.claim l.counts l.machine l.state) l.claim.offers
