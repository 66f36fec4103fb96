use Rattle.std.proofs.Common.{◌≡◌, length}
use Rattle.fm_lattice.specs.Blocks.{pairs_of}
use Rattle.fm_lattice.proofs.merging.are_same.Given as goal

-- what is left of both is the same exactly if both are
abbrev pub invariant-both : goal.invariant-both
invariant-both g l = record {
  rest_same : (pairs_of l.left ≡ pairs_of l.right) → l.lefts ≡ l.rights;
  both_same : l.lefts ≡ l.rights → pairs_of l.left ≡ pairs_of l.right;
}

abbrev pub decreases-both : goal.decreases-both
decreases-both g l = length l.lefts
