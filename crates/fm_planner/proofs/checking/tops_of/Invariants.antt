use Rattle.std.proofs.Common.{◌≡◌, ◌≤◌, ◌++◌, ℕ, List, drop}
use Rattle.fm_planner.specs.inner.Slackness.{AllOf, IsTop}
use Rattle.fm_planner.proofs.checking.tops_of.Given as goal

abbrev pub invariant-loop-request : goal.invariant-loop-request
invariant-loop-request l = record {
  tops : AllOf (IsTop l.claim.offers) l.tops.items;
  walked : List (ℕ × ℕ);
  whole : l.claim.offers ≡ walked ++ drop l.request-index l.request-items;
  below : AllOf (λ o. o.1 ≤ l.most) walked;
}
