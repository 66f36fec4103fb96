use Rattle.std.proofs.Common.{◌∙◌, ap, add-one, subst, sym, rules}
use Rattle.std.proofs.lemmas.List.{take_all}
use Rattle.std.specs.Ordering.{nat_cmp}
use Rattle.fm_lattice.specs.Maps.{lookup}
use Rattle.fm_tally.proofs.Rows.{met_at}
use Rattle.fm_policy.specs.inner.NetworkSoFar.{CoversTask}
use Rattle.fm_policy.proofs.Adds.{adds_then}
use Rattle.fm_policy.proofs.Covered.{task_still}
use Rattle.fm_policy.proofs.Listed.{HasKey, listed, one_more}
use Rattle.fm_policy.proofs.Tallied.{found_live}
use Rattle.fm_policy.proofs.put_arcs.put_tasks.Goals as goal

pub put_task-requires-clause-live : goal.put_task-requires-clause-live
put_task-requires-clause-live c =
    let t = c.entry-item.result.0 in
    let met = met_at c.pairs-tasks.result.now c.loop-entry.entry-index c.entry-item.result c.pairs-tasks.ensures.rising c.loop-entry-test.true c.entry-item.is in
    sym (c.requires.inputs.tally.tasks t) ∙ ap (lookup nat_cmp t) (sym c.pairs-tasks.ensures.pairs) ∙ met

pub loop-entry-preserved : goal.loop-entry-preserved
loop-entry-preserved c =
    let k = c.args.knowledge.now in
    let step = c.in_ok-put_task.ensures in
    record {
      adds = adds_then k _ _ _ c.loop-entry.invariant.adds step.adds;
      covers = rw add-one (one_more (λ q. CoversTask k q c.loop-entry.network) (λ q. CoversTask k q c.put_task.new.network)
          c.pairs-tasks.result.now c.loop-entry.entry-index c.entry-item.result c.loop-entry-test.true c.entry-item.is
          (task_still k _ _ step.adds.grows) step.covers c.loop-entry.invariant.covers);
    }

pub returns-clause-covers : goal.returns-clause-covers
returns-clause-covers c = λ t spec is.
    let all = c.pairs-tasks.result.now in
    let found = found_live c.args.knowledge.now t spec is in
    let key : HasKey t all = listed t all found.0 (ap (lookup nat_cmp t) c.pairs-tasks.ensures.pairs ∙ c.requires.inputs.tally.tasks t ∙ found.1) in
    c.loop-entry.invariant.covers t (subst (HasKey t) (sym (take_all c.loop-entry.entry-index all (search rules))) key) spec is
