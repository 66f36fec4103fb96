use Rattle.std.proofs.Common.{◌∙◌, ◌∷◌, ◌++◌, [], ap}
use Rattle.std.specs.BTreeMap.{get}
use Rattle.std.specs.Ordering.{nat_cmp}
use Rattle.fm_relief.proofs.Adding.{list_of, items_or, put_back}
use Rattle.fm_relief.proofs.held_tasks.HeldTasks.add.Goals as goal

pub returns : goal.returns
returns c =
    put_back (λ v. v.items) c.args.machine c.args.task c.push.new.self (get nat_cmp c.args.self.now.by_machine) (get nat_cmp c.remove-held.new.self) (get nat_cmp c.insert.new.self)
    c.remove-held.ensures.updates.0
    c.in_ok-insert.ensures.updates.0
    (c.in_ok-push.ensures.items ∙ ap (λ xs. xs ++ c.args.task ∷ []) (ap (λ v. v.items) c.unwrap_or-tasks.ensures ∙ items_or (λ v. v.items) c.remove-held.result c.new.result c.new.ensures.items
    ∙ ap (λ o. list_of (λ v. v.items) o) c.remove-held.ensures.value))
