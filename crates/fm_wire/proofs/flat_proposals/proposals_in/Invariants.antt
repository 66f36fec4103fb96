use Rattle.fm_wire.proofs.Grouped.{AreGroups}
use Rattle.fm_wire.proofs.flat_proposals.proposals_in.Given as goal

abbrev pub invariant-loop-key : goal.invariant-loop-key
invariant-loop-key l = AreGroups l.proposals l.key-iterator l.entries
