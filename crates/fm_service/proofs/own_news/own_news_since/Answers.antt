use Rattle.std.proofs.Common.{length, sym, ap, ◌∙◌}
use Rattle.fm_service.specs.inner.OwnRuns.{added_by}
use Rattle.fm_service.proofs.OwnDeltas.{deltas_counted}
use Rattle.fm_service.proofs.own_news.own_news_since.Goals as goal

pub first_run-from-requires : goal.first_run-from-requires
first_run-from-requires c =
    ap (λ entries. length (added_by entries)) c.history.ensures ∙ deltas_counted c.args.coordinator.now.state c.known.ensures.coordinator ∙ sym c.end-end.ensures
