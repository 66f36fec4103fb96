use Rattle.std.proofs.Common.{arith}
use Rattle.fm_gossip.proofs.Working.{none_done, one_more, left_done}
use Rattle.fm_gossip.proofs.member_threads.+serve_all.Goals as goal

pub returns-in_default-clause-done : goal.returns-in_default-clause-done
returns-in_default-clause-done g t c = none_done c.args.room.items c.args.works.items (omega (arith, c.in_default.ensures.cases.0, c.args.works.ok.0)) (omega (arith, c.requires.room.0, c.args.room.ok))

pub returns-clause-done : goal.returns-clause-done
returns-clause-done g t c =
    one_more c.args.works.items c.pop.new.self.items c.push_reserved.new.self.items c.serve_all-dones.result.items c.in-Some.work c.left_by.result c.in-Some.ensures.items c.push_reserved.ensures.items c.serve_all-dones.ensures.done
    (left_done (λ h. h.promise.0.value) c.started-started.result c.in-Some.work c.left_by.result c.started-started.ensures.ok c.started-started.ensures.err c.left_by.ensures.joined c.left_by.ensures.here)
