use Rattle.std.proofs.Common.{◌≡◌, ◌+◌, ◌++◌, map, length}
use Rattle.std.specs.Prelude.{vec_len, vec_capacity}
use Rattle.std.specs.Vec.Iter.{into_iter_items}
use Rattle.fm_gossip.proofs.member_threads.coordinators_of.Given as goal

abbrev pub invariant-loop-done : goal.invariant-loop-done
invariant-loop-done g l =
    (map (λ c. c.state) l.coordinators.items ++ map (λ d. d.state) (into_iter_items l.done-iterator) ≡ map (λ d. d.state) l.fn.dones.items)
    × (vec_len l.coordinators + length (into_iter_items l.done-iterator) ≡ length l.fn.dones.items)
    × (vec_capacity l.coordinators ≡ vec_capacity l.fn.coordinators)
