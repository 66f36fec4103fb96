use Rattle.std.proofs.Common.{map}
use Rattle.std.proofs.lemmas.List.{nil_from_length}
use Rattle.std.proofs.lemmas.Result.{on_err_weaker}
use Rattle.fm_gossip.specs.Exchanges.{whole_packet}
use Rattle.fm_gossip.proofs.Drained.{none_added}
use Rattle.fm_gossip.proofs.Leaving.{on_err, gave_whole, one_cut, one_cut_more}
use Rattle.fm_gossip.proofs.exchange.+cut_all.Goals as goal

pub returns-in_default-clause-packets : goal.returns-in_default-clause-packets
returns-in_default-clause-packets g t c = none_added c.args.coordinators.now (λ z. z.state) whole_packet c.args.packets.now.items (nil_from_length c.args.coordinators.now c.in_default.ensures.cases)

pub returns-in_err-push-clause-left : goal.returns-in_err-push-clause-left
returns-in_err-push-clause-left g t c =
    on_err c.from_residual-in_err-push.result
    (one_cut (λ z. z.state) c.args.coordinators.now c.in-Some.rest.now c.in-Some.first.now c.cut.new.self.state c.in-Some.ensures.cases.0
    (gave_whole c.in-Some.first.now.state c.cut.new.self.state c.in_ok-cut.field-0 c.in_ok-cut.ensures.ok c.in_ok-cut.ensures.packet))

pub returns-clause-left : goal.returns-clause-left
returns-clause-left g t c =
    on_err_weaker c.cut_all.result
    (one_cut_more (λ z. z.state) c.args.coordinators.now c.in-Some.rest.now c.in-Some.first.now c.cut.new.self.state c.in-Some.ensures.cases.0
    (gave_whole c.in-Some.first.now.state c.cut.new.self.state c.in_ok-cut.field-0 c.in_ok-cut.ensures.ok c.in_ok-cut.ensures.packet)
    (map (λ z. z.state) c.cut_all.new.coordinators))
    c.cut_all.ensures.left
