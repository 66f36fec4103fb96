use Rattle.std.proofs.Common.{◌≡◌, ◌∙◌, true, ap, sym, subst, rules}
use Rattle.std.specs.Prelude.{is_some}
use Rattle.std.specs.Ordering.{nat_cmp}
use Rattle.fm_lattice.specs.Maps.{lookup}
use Rattle.fm_net.specs.declared.node.Node.TheVariants.{Machine}
use Rattle.fm_edit.specs.inner.Affected.{has_pair}
use Rattle.fm_edit.proofs.Completed.{both_ways, ended_on}
use Rattle.fm_edit.proofs.affected_pairs.touch_machines.Goals as goal

pub loop-machine-init : goal.loop-machine-init
loop-machine-init c =
    let given : c.into_iter-machine-iterator.result.iter ≡ c.args.seen.now.machines.entries = search rules in
    record {
      grows = record { nodes = λ n h. h; pairs = λ a b h. h };
      same = λ i. c.args.touched.now.nodes;
      has = λ m some none. both_ways (is_some (lookup nat_cmp m c.args.seen.now.machines.entries)) some (ap (λ es. is_some (lookup nat_cmp m es)) (sym given) ∙ none);
    }

pub loop-machine-preserved : goal.loop-machine-preserved
loop-machine-preserved c = record {
  grows = search rules;
  same = search rules;
  has = λ m some none.
      ended_on m c.loop-machine.machine-iterator.iter c.next.new.self.iter c.in-Some.machine.now c.in-Some.field-0-1.now c.in-Some.ensures.steps none
      (λ same. subst (λ q. has_pair c.pair.new.self c.args.request.now (Machine q) ≡ true) (sym same) c.in_ok-pair.ensures.has)
      (λ gone. c.in_ok-pair.ensures.grows.pairs c.args.request.now (Machine m) (c.loop-machine.invariant.has m some gone));
}
