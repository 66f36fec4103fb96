use Rattle.std.specs.Prelude.{◌≡◌, ◌++◌, drop, map, length, vec_len}
use Rattle.fm_gossip.specs.Members.{member_number}
use Rattle.fm_gossip.specs.inner.Works.{links_of, HaveOut}
use Rattle.fm_gossip.proofs.work.link.Given as goal

abbrev pub invariant-loop-member : goal.invariant-loop-member
invariant-loop-member g l =
    let numbers = map member_number l.members in
    let boxes = map (λ b. b.inbox) l.inboxes.items in
    (l.links.items ++ links_of numbers boxes (vec_len l.links) (drop l.member-index l.members) ≡ links_of numbers boxes 0 l.members)
    × (vec_len l.inboxes ≡ length l.members)
    × (vec_len l.links ≡ l.member-index)
    × HaveOut (length l.members) l.member-index l.inboxes.items
