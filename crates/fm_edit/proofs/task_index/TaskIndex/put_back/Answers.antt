use Rattle.std.proofs.Common.{◌≡◌, ℕ, true, cond, rules}
use Rattle.std.specs.Ordering.{nat_cmp, is_eq}
use Rattle.std.specs.Prelude.{◌&&◌, is_some}
use Rattle.fm_lattice.specs.Maps.{lookup}
use Rattle.fm_edit.specs.CacheModel.{seen_in, prefers_in}
use Rattle.fm_edit.specs.TaskIndex.{lists_preferred}
use Rattle.fm_edit.proofs.Preferring.{listed_as_seen}
use Rattle.fm_edit.proofs.task_index.TaskIndex.put_back.Goals as goal

pub returns-clause-preferred : goal.returns-clause-preferred
returns-clause-preferred c =
    let s = seen_in c.args.seen.now in
    let seen : (m t : ℕ) → lists_preferred c.list_preferred.new.self m t ≡ cond (is_eq (nat_cmp c.args.task t) && prefers_in s m t) true (lists_preferred c.list.new.self m t) = λ m t.
    listed_as_seen true s c.args.task c.task-found.result c.task-found.ensures m t (is_some (lookup nat_cmp m c.preferred.result)) (lists_preferred c.list.new.self m t)
    (lists_preferred c.list_preferred.new.self m t) (c.preferred.ensures m) (c.in_ok-list_preferred.ensures.preferred m t)
    in
    search rules
