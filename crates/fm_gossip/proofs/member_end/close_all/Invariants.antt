use Rattle.std.proofs.Common.{◌≡◌, map, length}
use Rattle.fm_gossip.specs.Passing.{passed_at}
use Rattle.fm_gossip.specs.inner.Works.{HaveOut}
use Rattle.fm_gossip.proofs.Columns.{AreClosed}
use Rattle.fm_gossip.proofs.member_end.close_all.Given as goal

abbrev pub invariant-loop-inbox : goal.invariant-loop-inbox
invariant-loop-inbox g l =
    (map (λ d. d.state) l.dones ≡ map (λ d. d.state) l.fn.dones)
    × AreClosed (map (λ b. b.inbox) l.inboxes.items) (map passed_at (map (λ d. d.state) l.fn.dones)) (map (λ d. d.ports) l.dones)
    × HaveOut (length l.fn.dones) (length l.fn.dones) l.inboxes.items

abbrev pub decreases-loop-inbox : goal.decreases-loop-inbox
decreases-loop-inbox g l = length l.inboxes.items
