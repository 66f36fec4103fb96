use Rattle.std.proofs.Common.{ap, ◌∙◌, subst}
use Rattle.std.specs.Bool.{beq}
use Rattle.std.specs.List.{prefix_len}
use Rattle.fm_service.specs.inner.OwnRuns.{AreLatest}
use Rattle.fm_service.proofs.OwnDeltas.{latest_from}
use Rattle.fm_service.proofs.own_news.count_from.Goals as goal

pub returns : goal.returns
returns c =
    let history = c.args.history.now in
    let latest = subst (λ n. AreLatest history n c.latest.result.now) c.saturating_sub.ensures c.latest.ensures in
    c.count_first.ensures ∙ ap (prefix_len (λ is_own. beq is_own c.args.own)) (latest_from history c.latest.result.now c.args.end c.args.from c.requires latest)
