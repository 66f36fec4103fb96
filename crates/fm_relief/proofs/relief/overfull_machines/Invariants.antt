use Rattle.std.proofs.Common.{◌≡◌, ◌++◌, drop, map}
use Rattle.fm_relief.proofs.Listing.{overfull_by}
use Rattle.fm_relief.proofs.relief.overfull_machines.Given as goal

abbrev pub invariant-loop-machine : goal.invariant-loop-machine
invariant-loop-machine l = l.found.items ++ map (overfull_by l.knowledge) (drop l.machine-index l.pairs) ≡ map (overfull_by l.knowledge) l.pairs
