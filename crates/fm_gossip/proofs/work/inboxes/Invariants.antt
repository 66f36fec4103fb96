use Rattle.std.specs.Prelude.{◌≡◌, vec_len}
use Rattle.fm_gossip.specs.inner.Works.{HaveOut}
use Rattle.fm_gossip.proofs.work.inboxes.Given as goal

abbrev pub invariant-loop-i : goal.invariant-loop-i
invariant-loop-i l = (vec_len l.inboxes ≡ l._i) × HaveOut l.members 0 l.inboxes.items
