use Rattle.std.proofs.Common.{◌∙◌, ap, sym, false, cond}
use Rattle.std.specs.Ordering.{is_eq}
use Rattle.fm_records.specs.Options.{passes}
use Rattle.fm_edit.specs.TaskIndex.{listed_cmp, lists}
use Rattle.fm_edit.proofs.task_index.TaskIndex.unlist_at.Goals as goal

pub returns-in-Some-clause-lists : goal.returns-in-Some-clause-lists
returns-in-Some-clause-lists c = λ n t.
    c.remove.ensures.updates.0 (n, t)
    ∙ ap (λ o. cond (passes (λ x. is_eq (listed_cmp (x, c.args.task) (n, t))) o) false (lists c.args.self.now n t)) (sym c.in-Some.is)
