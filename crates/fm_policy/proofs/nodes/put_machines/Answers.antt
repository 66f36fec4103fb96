use Rattle.std.proofs.Common.{◌≡◌, ◌∙◌, Some, ap, add-one, subst, sym, rules}
use Rattle.std.proofs.lemmas.List.{take_all}
use Rattle.std.specs.Ordering.{nat_cmp}
use Rattle.fm_lattice.specs.Maps.{lookup}
use Rattle.fm_net.specs.declared.node.Node.TheVariants.{Machine}
use Rattle.fm_tally.specs.Tallies.{open_machine_at}
use Rattle.fm_tally.proofs.Rows.{met_at}
use Rattle.fm_policy.specs.inner.NetworkSoFar.{Stands}
use Rattle.fm_policy.proofs.Adds.{adds_then, adds_node, stands_now}
use Rattle.fm_policy.proofs.Listed.{HasKey, listed, one_more}
use Rattle.fm_policy.proofs.Tallied.{it_is_open, found_open}
use Rattle.fm_policy.proofs.nodes.put_machines.Goals as goal

pub loop-entry-preserved : goal.loop-entry-preserved
loop-entry-preserved c =
    let k = c.args.knowledge.now in
    let m = c.entry-item.result.0 in
    let met = met_at c.pairs-machines.result.now c.loop-entry.entry-index c.entry-item.result c.pairs-machines.ensures.rising c.loop-entry-test.true c.entry-item.is in
    let here : open_machine_at k m ≡ Some c.entry-item.result.1 = sym (c.requires.inputs.tally.machines m) ∙ ap (lookup nat_cmp m) (sym c.pairs-machines.ensures.pairs) ∙ met in
    let step = adds_node k c.loop-entry.network c.put_node.new.self (Machine m) (it_is_open k m c.entry-item.result.1 here) c.in_ok-put_node.ensures.has c.in_ok-put_node.ensures.arc in
    record {
      adds = adds_then k _ _ _ c.loop-entry.invariant.adds step;
      all = rw add-one (one_more (λ q. Stands c.loop-entry.network (Machine q)) (λ q. Stands c.put_node.new.self (Machine q))
          c.pairs-machines.result.now c.loop-entry.entry-index c.entry-item.result c.loop-entry-test.true c.entry-item.is
          (λ q stands. step.grows.nodes (Machine q) stands) (stands_now c.loop-entry.network c.put_node.new.self (Machine m) c.in_ok-put_node.ensures.has) c.loop-entry.invariant.all);
    }

pub returns-clause-all : goal.returns-clause-all
returns-clause-all c = λ m is.
    let k = c.args.knowledge.now in
    let all = c.pairs-machines.result.now in
    let found = found_open k m is in
    let key : HasKey m all = listed m all found.0 (ap (lookup nat_cmp m) c.pairs-machines.ensures.pairs ∙ c.requires.inputs.tally.machines m ∙ found.1) in
    c.loop-entry.invariant.all m (subst (HasKey m) (sym (take_all c.loop-entry.entry-index all (search rules))) key)
