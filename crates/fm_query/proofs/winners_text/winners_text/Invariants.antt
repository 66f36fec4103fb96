use Rattle.std.proofs.Common.{◌≡◌, ◌++◌, string_bytes}
use Rattle.std.specs.List.{flat_map}
use Rattle.fm_query.specs.WinnersText.{attempt_line}
use Rattle.fm_query.proofs.winners_text.winners_text.Given as goal

abbrev pub invariant-loop-at : goal.invariant-loop-at
invariant-loop-at l =
    (goal.iterator-loop-at).can_next l.at-iterator × (goal.iterator-loop-at).is_finite l.at-iterator
    × (flat_map (λ e. attempt_line l.knowledge e.0) l.knowledge.proposals ≡ string_bytes l.lines ++ flat_map (λ e. attempt_line l.knowledge e.0) l.at-iterator)
