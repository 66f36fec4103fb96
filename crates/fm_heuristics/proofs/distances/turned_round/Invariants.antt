-- A number for each node, none of them too large.
use Rattle.std.proofs.Common.{◌≡◌, ◌^◌, vec_len}
use Rattle.fm_cycles.specs.Walks.{AreBounded}
use Rattle.fm_cycles.specs.Found.{costs_in}
use Rattle.fm_heuristics.proofs.distances.turned_round.Given as goal

abbrev pub invariant-loop-node : goal.invariant-loop-node
invariant-loop-node l = record {
  sized : vec_len l.potentials ≡ l.nodes;
  small : AreBounded (2 ^ 64) (costs_in l.potentials.items);
}
