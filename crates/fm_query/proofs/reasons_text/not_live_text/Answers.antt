use Rattle.std.proofs.Common.{◌++◌, ◌∙◌, ap, ap₂, codes}
use Rattle.fm_query.specs.ReasonsText.{not_live_cause}
use Rattle.fm_query.proofs.reasons_text.not_live_text.Goals as goal

pub returns-clause-ok : goal.returns-clause-ok
returns-clause-ok c =
    let cause = c.not_live_cause-cause.ensures ∙ ap (not_live_cause c.args.knowledge.now c.args.task) c.spec.ensures.record in
    c.in_ok-format.ensures.ok
    ∙ ap₂ (λ name cause. codes "task " ++ (name ++ (codes " is not live: " ++ (cause ++ codes "\n")))) c.in_ok-name.ensures.ok cause
