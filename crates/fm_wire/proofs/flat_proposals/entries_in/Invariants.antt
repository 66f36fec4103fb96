use Rattle.std.proofs.Common.{◌≡◌, ◌++◌}
use Rattle.fm_wire.specs.Grammar.{flat_of}
use Rattle.fm_wire.proofs.flat_proposals.entries_in.Given as goal

-- what stands there and what is left are all
abbrev pub invariant-loop-attempt : goal.invariant-loop-attempt
invariant-loop-attempt l = l.entries ++ flat_of l.attempt-iterator ≡ flat_of l.proposals
