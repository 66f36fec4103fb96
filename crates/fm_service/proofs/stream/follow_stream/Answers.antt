use Rattle.std.proofs.Common.{None}
use Rattle.fm_service.proofs.Streams.{followed}
use Rattle.fm_service.proofs.stream.follow_stream.Goals as goal

pub returns : goal.returns
returns g c = λ behind stand.
    followed c.args.renew_after behind stand c.follow.result c.new-follower.result c.follow.new.responder None _ c.new-follower.ensures.most c.new-follower.ensures.start c.follow.ensures
