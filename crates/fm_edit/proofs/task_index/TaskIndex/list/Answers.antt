use Rattle.std.proofs.Common.{◌∙◌, ap, true, cond}
use Rattle.std.specs.Ordering.{is_eq}
use Rattle.fm_records.specs.Options.{passes}
use Rattle.fm_edit.specs.TaskIndex.{listed_cmp, lists}
use Rattle.fm_edit.proofs.Listings.{listed_both}
use Rattle.fm_edit.proofs.task_index.TaskIndex.list.Goals as goal

pub returns-clause-lists : goal.returns-clause-lists
returns-clause-lists c = λ s is n t.
    listed_both s c.args.task t true n (lists c.args.self.now n t) (lists c.list_at.new.self n t) (lists c.list_at-2.new.self n t)
    (c.in_ok-list_at.ensures.lists n t ∙ ap (λ o. cond (passes (λ x. is_eq (listed_cmp (x, c.args.task) (n, t))) o) true (lists c.args.self.now n t)) is.job)
    (c.in_ok-list_at-2.ensures.lists n t ∙ ap (λ o. cond (passes (λ x. is_eq (listed_cmp (x, c.args.task) (n, t))) o) true (lists c.list_at.new.self n t)) is.spot)
