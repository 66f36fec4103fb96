use Rattle.std.proofs.Common.{◌≡◌, ◌∙◌, inl, inr, true, suc, add-one, sym, subst, take, rules}
use Rattle.std.specs.Prelude.{is_some}
use Rattle.std.specs.Ordering.{nat_cmp}
use Rattle.std.proofs.lemmas.List.{take_all}
use Rattle.fm_lattice.specs.Maps.{lookup}
use Rattle.fm_net.specs.declared.node.Node.TheVariants.{Machine, Task}
use Rattle.fm_edit.specs.inner.Affected.{has_pair}
use Rattle.fm_edit.proofs.Completed.{grows_then}
use Rattle.fm_edit.proofs.Preferring.{among_more}
use Rattle.fm_edit.proofs.affected.Touched.preferred.Goals as goal

pub loop-entry-preserved : goal.loop-entry-preserved
loop-entry-preserved c =
    let inv = c.loop-entry.invariant in
    let step = c.in_ok-pair.ensures in
    let old = c.loop-entry.self in
    let new = c.pair.new.self in
    let es = c.entries-entry-items.result.now in
    let is : es ≡ c.args.prefer.now = c.entries-entry-items.ensures.entries in
    let i = c.loop-entry.entry-index in
    record {
      grows = grows_then c.args.self.now old new inv.grows step.grows;
      has = λ m h.
          among_more es i c.entry-item.result c.loop-entry-test.true c.entry-item.is m (λ n. has_pair new (Task c.args.task) (Machine n) ≡ true)
          (λ before. step.grows.pairs (Task c.args.task) (Machine m) (inv.has m (subst (λ xs. is_some (lookup nat_cmp m (take i xs)) ≡ true) is before)))
          step.has (subst (λ xs. is_some (lookup nat_cmp m (take (suc i) xs)) ≡ true) (sym is) (rw add-one at h));
      nodes = c.pair.ensures.nodes ∙ inv.nodes;
      starts = λ a b h. elim (step.only a b h) [ inl before ↦ inv.starts a b before | inr these ↦ inr these.0 ];
    }

pub returns-clause-has : goal.returns-clause-has
returns-clause-has c = λ m h. c.loop-entry.invariant.has m (subst (λ xs. is_some (lookup nat_cmp m xs) ≡ true) (sym (take_all c.loop-entry.entry-index c.args.prefer.now (search rules))) h)
