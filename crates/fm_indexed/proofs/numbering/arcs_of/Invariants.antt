-- The arcs so far are those of the network's arcs so far.
use Rattle.std.proofs.Common.{◌≡◌, ◌++◌, List}
use Rattle.fm_indexed.specs.Numbered.{NetArc, AreArcsOf}
use Rattle.fm_indexed.proofs.numbering.arcs_of.Given as goal

abbrev pub invariant-loop-arc : goal.invariant-loop-arc
invariant-loop-arc l =
    (goal.iterator-loop-arc).can_next l.arc-iterator
    × (goal.iterator-loop-arc).is_finite l.arc-iterator
    × ((done : List NetArc) × (l.network.arcs ≡ done ++ l.arc-iterator) × AreArcsOf l.nodes done l.arcs.items)
