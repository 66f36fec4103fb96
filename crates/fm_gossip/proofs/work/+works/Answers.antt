use Rattle.std.proofs.Common.{arith}
use Rattle.std.proofs.lemmas.List.{nil_from_length}
use Rattle.fm_gossip.proofs.Working.{linked_last, linked_none}
use Rattle.fm_gossip.proofs.work.+works.Goals as goal

pub returns-in_default-clause-works : goal.returns-in_default-clause-works
returns-in_default-clause-works g t c =
    linked_none c.args.rounds c.args.members.items c.args.links.items c.args.works.items (omega (arith, c.in_default.ensures.cases.0, c.args.members.ok.0))
    (nil_from_length c.args.works.items (omega (arith, c.requires.room.0, c.args.works.ok.0)))

pub returns-clause-works : goal.returns-clause-works
returns-clause-works g t c =
    linked_last c.args.rounds c.args.members.items c.pop.new.self.items c.args.links.items c.pop-2.new.self.items c.in-Some.member c.in-Some-pop.its c.works-works.result.items c.push_reserved.new.self.items c.work_of.result c.in-Some.ensures.items c.in-Some-pop.ensures.items
    (omega (arith, c.requires.count, c.in-Some.ensures.len, c.in-Some-pop.ensures.len, c.pop.new.self.ok, c.pop-2.new.self.ok)) c.works-works.ensures.works c.work_of.ensures c.push_reserved.ensures.items
