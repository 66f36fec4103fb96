use Rattle.std.proofs.Common.{◌≡◌, ◌∙◌, true, ap, subst, sym}
use Rattle.std.specs.Prelude.{◌||◌}
use Rattle.std.specs.Ordering.{nat_cmp, is_eq}
use Rattle.std.specs.Cmp.{nat_cmp_total, Equal-is}
use Rattle.fm_lattice.specs.laws.ChainLaws.{nat_same}
use Rattle.fm_net.specs.declared.node.Node.TheVariants.{Machine, Task}
use Rattle.fm_edit.specs.inner.Listed.{named_in}
use Rattle.fm_edit.specs.inner.Affected.{has_pair}
use Rattle.fm_edit.proofs.Completed.{grows_then, walked_on, none_to_come}
use Rattle.fm_edit.proofs.Ranges.{listed_named}
use Rattle.fm_edit.proofs.affected_pairs.touch_preferring.Goals as goal

pub loop-pair-preserved : goal.loop-pair-preserved
loop-pair-preserved c =
    let m = c.args.machine in
    let x = c.in-Some.pair.now.1 in
    let old = c.loop-pair.touched in
    let new = c.pair.new.self in
    let step = c.in_ok-pair.ensures in
    let inv = c.loop-pair.invariant in
    record {
      grows = grows_then c.args.touched.now old new inv.grows step.grows;
      same = step.nodes ∙ inv.same;
      has = λ t h.
          walked_on (is_eq (nat_cmp t x)) (has_pair old (Task t) (Machine m)) (has_pair new (Task t) (Machine m)) (named_in c.next.new.self t)
          (step.grows.pairs (Task t) (Machine m))
          (λ e. subst (λ z. has_pair new (Task z) (Machine m) ≡ true) (sym (nat_same t x ((Equal-is (nat_cmp t x)).0 e))) step.has)
          (sym (ap (λ ps. has_pair old (Task t) (Machine m) || named_in ps t) c.in-Some.ensures.steps) ∙ inv.has t h);
    }

pub returns-clause-has : goal.returns-clause-has
returns-clause-has c = λ t small h.
    none_to_come (has_pair c.loop-pair.touched (Task t) (Machine c.args.machine)) (named_in c.loop-pair.pair-iterator t)
    (c.loop-pair.invariant.has t (listed_named nat_cmp nat_cmp_total nat_same c.args.machine t small c.args.index.now.preferred.keys h))
    (ap (λ ps. named_in ps t) c.in-None.ensures.steps.0)
