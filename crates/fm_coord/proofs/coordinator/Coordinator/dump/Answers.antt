use Rattle.fm_net.specs.Network.{net_of}
use Rattle.fm_dimacs.specs.Text.{dump_text}
use Rattle.std.proofs.Common.{ap}
use Rattle.fm_coord.specs.States.{State}
use Rattle.fm_coord.proofs.Said.{sent_whole, sent_part}
use Rattle.fm_coord.proofs.coordinator.Coordinator.dump.Goals as goal

pub returns-clause-ok : goal.returns-clause-ok
returns-clause-ok g c =
    sent_whole _ _ _ _ _ (dump_text (net_of c.args.self.now.state.knowledge)) (ap (λ (t : State). dump_text (net_of t.knowledge)) c.in_ok-refresh.ensures.state) c.write.result c.write.ensures

pub returns-clause-err : goal.returns-clause-err
returns-clause-err g c =
    sent_part _ _ _ _ _ (dump_text (net_of c.args.self.now.state.knowledge)) (ap (λ (t : State). dump_text (net_of t.knowledge)) c.in_ok-refresh.ensures.state) c.write.result c.write.ensures
