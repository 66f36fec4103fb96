use Rattle.std.proofs.Common.{◌∙◌, ap, sym, true, cond}
use Rattle.std.specs.Ordering.{is_eq}
use Rattle.fm_records.specs.Options.{passes}
use Rattle.fm_edit.specs.TaskIndex.{listed_cmp, lists}
use Rattle.fm_edit.proofs.task_index.TaskIndex.list_at.Goals as goal

pub returns-in_ok-insert-clause-lists : goal.returns-in_ok-insert-clause-lists
returns-in_ok-insert-clause-lists c = λ n t.
    c.in_ok-insert.ensures.updates.0 (n, t)
    ∙ ap (λ o. cond (passes (λ x. is_eq (listed_cmp (x, c.args.task) (n, t))) o) true (lists c.args.self.now n t)) (sym c.in-Some.is)
