use Rattle.std.proofs.Common.{sym, ap, ◌∙◌, true≢false}
use Rattle.fm_know.proofs.knowledge.KnowledgeJoin.leq.Goals as goal
use Rattle.fm_know.proofs.knowledge.KnowledgeJoin.leq.Goals.{then-leq, else-leq, then-leq-2, else-leq-2}

-- one of the first three parts is not below
pub returns-else-leq-3 : goal.returns-else-leq-3
returns-else-leq-3 c = (
  λ yes. absurd (true≢false (sym yes ∙ c.if-leq-3.false)),
  λ below.
      let parts = rw (← c.self.view_is, ← c.other.view_is) at below in
      elim c.if-leq-2.branch [
        | then-leq-2 w ↦ w.value-is ∙ w.leq-then-leq-2.ensures.1 (ap (λ t. t.machines) parts)
        | else-leq-2 w ↦ absurd (elim c.if-leq.branch [
          | then-leq v ↦ true≢false (sym (v.value-is ∙ v.leq-then-leq.ensures.1 (ap (λ t. t.tasks) parts)) ∙ w.if-leq-2.false)
          | else-leq v ↦ true≢false (sym (c.leq.ensures.1 (ap (λ t. t.jobs) parts)) ∙ v.if-leq.false)
        ])
      ],
)
