use Rattle.std.proofs.Common.{◌≡◌, ◌++◌, ℕ, List}
use Rattle.std.specs.List.{flat_map}
use Rattle.std.specs.Io.KnownBytes.{Appends}
use Rattle.fm_certificate.specs.Flows.{units_in}
use Rattle.fm_dimacs.specs.Solution.{flow_line}
use Rattle.fm_dimacs.proofs.solution.put_flow.Given as goal

abbrev pub invariant-loop-arc : goal.invariant-loop-arc
invariant-loop-arc g l =
    (goal.iterator-loop-arc g).can_next l.arc-iterator × (goal.iterator-loop-arc g).is_finite l.arc-iterator
    × record {
      sent : List ℕ;
      whole : flat_map (flow_line l.nodes (units_in l.flow)) l.network.arcs ≡ sent ++ flat_map (flow_line l.nodes (units_in l.flow)) l.arc-iterator;
      appended : Appends (g.W.Out.written l.initial.out) (g.W.Out.written l.out) sent;
      fails_not : g.W.Out.has_failed l.out ≡ g.W.Out.has_failed l.initial.out;
    }
