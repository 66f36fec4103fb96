use Rattle.std.proofs.Common.{◌∙◌, ap, add-one, subst, sym, rules}
use Rattle.std.proofs.lemmas.List.{take_all}
use Rattle.std.specs.Ordering.{nat_cmp}
use Rattle.fm_lattice.specs.Maps.{lookup}
use Rattle.fm_tally.proofs.Rows.{met_at}
use Rattle.fm_policy.specs.inner.NetworkSoFar.{CoversMachine}
use Rattle.fm_policy.proofs.Adds.{adds_then}
use Rattle.fm_policy.proofs.Covered.{machine_still}
use Rattle.fm_policy.proofs.Listed.{HasKey, listed, one_more}
use Rattle.fm_policy.proofs.Tallied.{found_open}
use Rattle.fm_policy.proofs.put_arcs.put_machines.Goals as goal

pub put_machine-requires-clause-opened : goal.put_machine-requires-clause-opened
put_machine-requires-clause-opened c =
    let m = c.entry-item.result.0 in
    let met = met_at c.pairs-machines.result.now c.loop-entry.entry-index c.entry-item.result c.pairs-machines.ensures.rising c.loop-entry-test.true c.entry-item.is in
    sym (c.requires.inputs.tally.machines m) ∙ ap (lookup nat_cmp m) (sym c.pairs-machines.ensures.pairs) ∙ met

pub loop-entry-preserved : goal.loop-entry-preserved
loop-entry-preserved c =
    let k = c.args.knowledge.now in
    let step = c.in_ok-put_machine.ensures in
    record {
      adds = adds_then k _ _ _ c.loop-entry.invariant.adds step.adds;
      covers = rw add-one (one_more (λ q. CoversMachine k q c.loop-entry.network) (λ q. CoversMachine k q c.put_machine.new.network)
          c.pairs-machines.result.now c.loop-entry.entry-index c.entry-item.result c.loop-entry-test.true c.entry-item.is
          (machine_still k _ _ step.adds.grows) step.covers c.loop-entry.invariant.covers);
    }

pub returns-clause-covers : goal.returns-clause-covers
returns-clause-covers c = λ m is.
    let all = c.pairs-machines.result.now in
    let found = found_open c.args.knowledge.now m is in
    let key : HasKey m all = listed m all found.0 (ap (lookup nat_cmp m) c.pairs-machines.ensures.pairs ∙ c.requires.inputs.tally.machines m ∙ found.1) in
    c.loop-entry.invariant.covers m (subst (HasKey m) (sym (take_all c.loop-entry.entry-index all (search rules))) key) is
