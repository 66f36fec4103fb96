use Rattle.std.proofs.Common.{◌++◌, ◌∙◌, ap₂, codes}
use Rattle.fm_query.proofs.reasons_text.held_text.Goals as goal

pub returns-clause-ok : goal.returns-clause-ok
returns-clause-ok c =
    c.in_ok-format.ensures.ok
    ∙ ap₂ (λ t m. codes "task " ++ (t ++ (codes " is held by machine " ++ (m ++ codes "\n")))) c.in_ok-name.ensures.ok c.in_ok-holder.ensures.ok
