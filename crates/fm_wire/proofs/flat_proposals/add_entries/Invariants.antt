use Rattle.std.proofs.Common.{◌≡◌, ◌++◌}
use Rattle.fm_wire.specs.Grammar.{flat_at}
use Rattle.fm_wire.proofs.flat_proposals.add_entries.Given as goal

-- what stands there and what is left are what stood there and all
abbrev pub invariant-loop-coordinator : goal.invariant-loop-coordinator
invariant-loop-coordinator l = l.entries ++ flat_at l.attempt l.coordinator-iterator ≡ l.fn.entries ++ flat_at l.attempt l.spots
