use Rattle.std.proofs.Common.{◌∙◌, ◌<◌, ◌^◌, subst}
use Rattle.fm_edit.proofs.Values.{as_many}
use Rattle.fm_edit.proofs.record_cache.RecordCache.known.Goals as goal

pub returns : goal.returns
returns c = λ k rise sees.
    subst (λ n. n < 2 ^ 63)
    (c.len-count.ensures.len ∙ as_many c.args.self.now.tasks.entries k.tasks c.len-count.ensures.ordered rise (λ q i. (sees i).task q))
    c.len-count.ensures.small
