use Rattle.std.proofs.Common.{◌≡◌, ◌+◌, ◌≤◌, ◌++◌, map, length, vec_len, vec_capacity}
use Rattle.std.specs.Vec.Iter.{into_iter_items}
use Rattle.fm_inbox.proofs.owned_port.ports_of.Given as goal

abbrev pub invariant-loop-one : goal.invariant-loop-one
invariant-loop-one l = (l.ports.items ++ map (λ d. d.port) (into_iter_items l.one-iterator) ≡ map (λ d. d.port) l.fn.owned.items)
    × (vec_len l.ports + length (into_iter_items l.one-iterator) ≡ vec_len l.fn.owned)
    × (vec_len l.fn.owned ≤ vec_capacity l.ports)
