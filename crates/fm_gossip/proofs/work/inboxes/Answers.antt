use Rattle.std.proofs.Common.{sym, subst, arith}
use Rattle.fm_gossip.specs.inner.Works.{HaveOut}
use Rattle.fm_gossip.proofs.Working.{have_out_last}
use Rattle.fm_gossip.proofs.work.inboxes.Goals as goal

pub loop-i-preserved : goal.loop-i-preserved
loop-i-preserved c = (
  omega (arith, c.in_ok-push.ensures.len, c.loop-i.invariant.0),
  subst (HaveOut c.args.members 0) (sym c.in_ok-push.ensures.items)
      (have_out_last c.args.members 0 c.loop-i.inboxes.items c.in_ok-new.field-0 c.loop-i.invariant.1 c.in_ok-new.ensures.inbox.0 c.in_ok-new.ensures.none_out),
)
