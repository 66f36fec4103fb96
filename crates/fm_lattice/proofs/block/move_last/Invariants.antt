use Rattle.std.proofs.Common.{◌≡◌, ◌+◌, ◌≤◌, ◌++◌, reverse, vec_len, vec_capacity}
use Rattle.fm_lattice.proofs.block.move_last.Given as goal

-- what was taken lies the other way round
abbrev pub invariant-loop-from : goal.invariant-loop-from
invariant-loop-from g l = record {
  parts : l.from.items ++ reverse l.to.items ≡ l.fn.from.items;
  moved : vec_len l.from + vec_len l.to ≡ vec_len l.fn.from;
  kept : l.keep ≤ vec_len l.from;
  from_capacity : vec_capacity l.from ≡ vec_capacity l.fn.from;
  to_capacity : vec_capacity l.fn.to ≤ vec_capacity l.to;
}

abbrev pub decreases-loop-from : goal.decreases-loop-from
decreases-loop-from g l = vec_len l.from
