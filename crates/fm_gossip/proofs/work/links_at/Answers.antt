use Rattle.std.proofs.Common.{length}
use Rattle.fm_gossip.proofs.Working.{have_ports}
use Rattle.fm_gossip.proofs.work.links_at.Goals as goal

pub open_all-requires : goal.open_all-requires
open_all-requires c = have_ports (length c.args.numbers.now) c.args.place c.args.inboxes.now c.requires.inside.1 c.requires.out

pub returns-clause-out : goal.returns-clause-out
returns-clause-out c = c.in_ok-open_all.ensures.out (length c.args.numbers.now) c.args.place c.requires.out
