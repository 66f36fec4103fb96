-- The nodes so far stand after those that stood before.
use Rattle.std.proofs.Common.{◌≡◌, ◌++◌, take}
use Rattle.fm_dimacs.proofs.read.put_nodes.Given as goal

abbrev pub invariant-loop-node : goal.invariant-loop-node
invariant-loop-node l = l.network ≡ record { nodes = l.initial.network.nodes ++ take l.node-index l.nodes; arcs = l.initial.network.arcs }
