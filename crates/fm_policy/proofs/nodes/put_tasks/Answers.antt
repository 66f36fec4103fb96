use Rattle.std.proofs.Common.{◌≡◌, ◌∙◌, Some, true, ap, add-one, subst, sym, rules}
use Rattle.std.proofs.lemmas.List.{take_all}
use Rattle.std.specs.Ordering.{nat_cmp}
use Rattle.fm_lattice.specs.Maps.{lookup}
use Rattle.fm_net.specs.declared.node.Node.TheVariants.{Task}
use Rattle.fm_tally.specs.Tallies.{task_at}
use Rattle.fm_tally.proofs.Rows.{met_at}
use Rattle.fm_policy.specs.inner.NetworkSoFar.{Stands}
use Rattle.fm_policy.proofs.Adds.{adds_then, adds_node, stands_now}
use Rattle.fm_policy.proofs.Listed.{HasKey, listed, one_more}
use Rattle.fm_policy.proofs.Parts.{spec_tested}
use Rattle.fm_policy.proofs.Tallied.{it_lives, found_live}
use Rattle.fm_policy.proofs.nodes.put_tasks.Goals as goal

pub loop-entry-preserved : goal.loop-entry-preserved
loop-entry-preserved c =
    let k = c.args.knowledge.now in
    let t = c.entry-item.result.0 in
    let met = met_at c.pairs-tasks.result.now c.loop-entry.entry-index c.entry-item.result c.pairs-tasks.ensures.rising c.loop-entry-test.true c.entry-item.is in
    let here : task_at k t ≡ Some c.entry-item.result.1 = sym (c.requires.inputs.tally.tasks t) ∙ ap (lookup nat_cmp t) (sym c.pairs-tasks.ensures.pairs) ∙ met in
    let step = adds_node k c.loop-entry.network c.put_node.new.self (Task t) (it_lives k t c.entry-item.result.1 here) c.in_ok-put_node.ensures.has c.in_ok-put_node.ensures.arc in
    record {
      adds = adds_then k _ _ _ c.loop-entry.invariant.adds step;
      all = rw add-one (one_more (λ q. Stands c.loop-entry.network (Task q)) (λ q. Stands c.put_node.new.self (Task q))
          c.pairs-tasks.result.now c.loop-entry.entry-index c.entry-item.result c.loop-entry-test.true c.entry-item.is
          (λ q stands. step.grows.nodes (Task q) stands) (stands_now c.loop-entry.network c.put_node.new.self (Task t) c.in_ok-put_node.ensures.has) c.loop-entry.invariant.all);
    }

pub returns-clause-all : goal.returns-clause-all
returns-clause-all c = λ t is.
    let k = c.args.knowledge.now in
    let all = c.pairs-tasks.result.now in
    let spec = spec_tested k (λ s. true) t is in
    let found = found_live k t spec.0 spec.1 in
    let key : HasKey t all = listed t all found.0 (ap (lookup nat_cmp t) c.pairs-tasks.ensures.pairs ∙ c.requires.inputs.tally.tasks t ∙ found.1) in
    c.loop-entry.invariant.all t (subst (HasKey t) (sym (take_all c.loop-entry.entry-index all (search rules))) key)
