use Rattle.std.proofs.Common.{map}
use Rattle.std.proofs.lemmas.Result.{on_err_weaker}
use Rattle.fm_gossip.proofs.Leaving.{on_err, first_refused, one_told_more}
use Rattle.fm_gossip.proofs.exchange.+tell_all.Goals as goal

pub returns-in_err-merge_others-clause-left : goal.returns-in_err-merge_others-clause-left
returns-in_err-merge_others-clause-left g t c =
    on_err c.from_residual.result
    (first_refused (λ z. z.state) c.args.packets.now c.args.coordinators.now c.in-Some.rest.now c.in-Some.first.now c.merge_others.new.coordinator.state c.in-Some.ensures.cases.0 c.in_err-merge_others.ensures.left)

pub returns-clause-left : goal.returns-clause-left
returns-clause-left g t c =
    on_err_weaker c.tell_all.result
    (one_told_more (λ z. z.state) c.args.packets.now c.args.coordinators.now c.in-Some.rest.now c.in-Some.first.now c.merge_others.new.coordinator.state c.in-Some.ensures.cases.0
    (map (λ z. z.state) c.tell_all.new.coordinators) c.in_ok-merge_others.ensures.merged)
    c.tell_all.ensures.left
