use Rattle.std.proofs.Common.{◌≡◌, ◌++◌, ℕ}
use Rattle.std.specs.Prelude.{filter, map}
use Rattle.fm_net.specs.declared.node.Node.{Node}
use Rattle.fm_certificate.specs.Flows.{units_in}
use Rattle.fm_round.specs.PlanOfFlow.{units_over}
use Rattle.fm_round.specs.inner.PlanArcs.{is_asked}
use Rattle.fm_round.proofs.Asked.{IsWalk}
use Rattle.fm_round.proofs.from_network.asked.Given as goal

abbrev pub invariant-loop-arc : goal.invariant-loop-arc
invariant-loop-arc l = record {
  can_next : (goal.iterator-loop-arc).can_next l.arc-iterator;
  is_finite : (goal.iterator-loop-arc).is_finite l.arc-iterator;
  walk : IsWalk l.network.arcs l.arc-iterator l.waiting.last;
  found : l.units.items ++ filter (is_asked l.network) (map (λ (a : (Node × Node) × (ℕ × ℕ)). (a.0, units_in l.flow a.0.0 a.0.1)) l.arc-iterator) ≡ filter (is_asked l.network) (units_over l.network (units_in l.flow));
}
