use Rattle.std.proofs.Common.{◌≡◌, rules, sym, subst}
use Rattle.std.specs.Ordering.{nat_cmp}
use Rattle.fm_records.specs.Rising.{Rises}
use Rattle.fm_edit.proofs.Values.{rises_said}
use Rattle.fm_edit.proofs.dirty.in_order.Goals as goal

pub returns-clause-rises : goal.returns-clause-rises
returns-clause-rises c =
    let items : c.in_ok-collect.field-0.items ≡ c.args.tasks.now.keys = search rules in
    subst (Rises nat_cmp) (sym items) (rises_said nat_cmp c.args.tasks.now.keys c.iter.ensures.ordered)
