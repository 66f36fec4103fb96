use Rattle.std.proofs.Common.{◌∙◌, None, cond, ap, add-one, subst, sym, rules}
use Rattle.std.proofs.lemmas.List.{take_all}
use Rattle.std.specs.Ordering.{nat_cmp}
use Rattle.fm_lattice.specs.Maps.{lookup}
use Rattle.fm_net.specs.Network.{room_arc}
use Rattle.fm_tally.proofs.Rows.{met_at}
use Rattle.fm_policy.specs.inner.NetworkSoFar.{CoversPlace}
use Rattle.fm_policy.proofs.Adds.{adds_then}
use Rattle.fm_policy.proofs.Covered.{place_still}
use Rattle.fm_policy.proofs.Listed.{HasKey, listed, one_more}
use Rattle.fm_policy.proofs.Parts.{place_needs}
use Rattle.fm_policy.proofs.Tallied.{found_open}
use Rattle.fm_policy.proofs.put_arcs.put_request.Goals as goal

pub room_arc-arc-requires : goal.room_arc-arc-requires
room_arc-arc-requires c =
    let m = c.entry-item.result.0 in
    let met = met_at c.pairs-machines.result.now c.loop-entry.entry-index c.entry-item.result c.pairs-machines.ensures.rising c.loop-entry-test.true c.entry-item.is in
    sym (c.requires.inputs.tally.machines m) ∙ ap (lookup nat_cmp m) (sym c.pairs-machines.ensures.pairs) ∙ met

pub put-requires-clause-arc : goal.put-requires-clause-arc
put-requires-clause-arc c =
    let k = c.args.knowledge.now in
    let m = c.entry-item.result.0 in
    c.room_arc-arc.ensures ∙ ap (λ b. cond b (room_arc k c.args.request m) None) (sym c.requires.waits)

pub loop-entry-preserved : goal.loop-entry-preserved
loop-entry-preserved c =
    let k = c.args.knowledge.now in
    let r = c.args.request in
    let step = c.in_ok-put.ensures in
    record {
      adds = adds_then k _ _ _ c.loop-entry.invariant.adds step.adds;
      covers = rw add-one (one_more (λ q. CoversPlace k r q c.loop-entry.network) (λ q. CoversPlace k r q c.put.new.network)
          c.pairs-machines.result.now c.loop-entry.entry-index c.entry-item.result c.loop-entry-test.true c.entry-item.is
          (place_still k c.loop-entry.network c.put.new.network step.adds.grows r) step.covers c.loop-entry.invariant.covers);
    }

pub returns-clause-covers : goal.returns-clause-covers
returns-clause-covers c = λ m has.
    let k = c.args.knowledge.now in
    let all = c.pairs-machines.result.now in
    let found = found_open k m (place_needs k c.args.request m has).1 in
    let key : HasKey m all = listed m all found.0 (ap (lookup nat_cmp m) c.pairs-machines.ensures.pairs ∙ c.requires.inputs.tally.machines m ∙ found.1) in
    c.loop-entry.invariant.covers m (subst (HasKey m) (sym (take_all c.loop-entry.entry-index all (search rules))) key) has
