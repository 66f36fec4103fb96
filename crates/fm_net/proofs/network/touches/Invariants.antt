use Rattle.std.proofs.Common.{◌≡◌, length}
use Rattle.std.specs.List.{list_any}
use Rattle.fm_net.specs.inner.Ends.{is_end}
use Rattle.fm_net.proofs.network.touches.Given as goal

abbrev pub invariant-loop-ends : goal.invariant-loop-ends
invariant-loop-ends l = list_any (λ a. is_end l.node a.0) l.rest ≡ list_any (λ a. is_end l.node a.0) l.arcs

abbrev pub decreases-loop-ends : goal.decreases-loop-ends
decreases-loop-ends l = length l.rest
