use Rattle.std.proofs.Common.{◌≡◌, ◌+◌, false, cond, subst, sym, take, rules}
use Rattle.std.specs.Prelude.{◌&&◌, is_some}
use Rattle.std.specs.List.{list_any}
use Rattle.std.specs.Ordering.{nat_cmp, is_eq}
use Rattle.std.proofs.lemmas.List.{take_all}
use Rattle.fm_lattice.specs.Maps.{lookup}
use Rattle.fm_edit.specs.TaskIndex.{preferred_cmp, lists_preferred}
use Rattle.fm_edit.proofs.Preferring.{one_more}
use Rattle.fm_edit.proofs.task_index.TaskIndex.unlist_preferred.Goals as goal

pub loop-entry-preserved : goal.loop-entry-preserved
loop-entry-preserved c =
    let inv = c.loop-entry.invariant in
    let es = c.entries-entry-items.result.now in
    let is : es ≡ c.args.prefer.now = c.entries-entry-items.ensures.entries in
    let i = c.loop-entry.entry-index in
    let first = lists_preferred c.args.self.now in
    let old = lists_preferred c.loop-entry.self in
    record {
      preferred = λ m t.
          subst (λ xs. list_any (λ p. is_eq (preferred_cmp (m, t) p)) c.remove.new.self.keys ≡ cond (is_eq (nat_cmp c.args.task t) && is_some (lookup nat_cmp m (take (i + 1) xs))) false (first m t)) is
          (one_more false es i c.entry-item.result c.loop-entry-test.true c.entry-item.is m t c.args.task (first m t) (old m t) (list_any (λ p. is_eq (preferred_cmp (m, t) p)) c.remove.new.self.keys)
          (subst (λ xs. old m t ≡ cond (is_eq (nat_cmp c.args.task t) && is_some (lookup nat_cmp m (take i xs))) false (first m t)) (sym is) (inv.preferred m t))
          (c.remove.ensures.updates.0 (m, t)));
      lists = inv.lists;
      sums = inv.sums;
      taken = inv.taken;
    }

pub returns-clause-preferred : goal.returns-clause-preferred
returns-clause-preferred c = λ m t.
    subst (λ xs. lists_preferred c.loop-entry.self m t ≡ cond (is_eq (nat_cmp c.args.task t) && is_some (lookup nat_cmp m xs)) false (lists_preferred c.args.self.now m t))
    (take_all c.loop-entry.entry-index c.args.prefer.now (search rules)) (c.loop-entry.invariant.preferred m t)
