use Rattle.fm_store.proofs.Halving.{AreSplit}
use Rattle.fm_store.proofs.pieces.split_map.Given as goal

abbrev pub invariant-loop-key : goal.invariant-loop-key
invariant-loop-key g l = AreSplit l.count l.map l.front l.behind l.key-iterator
