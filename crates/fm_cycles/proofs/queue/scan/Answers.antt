use Rattle.std.proofs.Common.{◌≡◌, ◌+◌, ◌^◌, None, length, refl, sym, subst, rules, arith}
use Rattle.std.proofs.lemmas.Int.{ints}
use Rattle.fm_cycles.specs.Residual.{residual}
use Rattle.fm_cycles.specs.inner.Labels.{IsCorrected}
use Rattle.fm_cycles.specs.declared.labels.Labels.{Labels}
use Rattle.fm_cycles.proofs.Corrected.{moved, one_more, longer}
use Rattle.fm_cycles.proofs.queue.scan.Goals as goal
use Rattle.fm_cycles.proofs.queue.scan.Goals.{then-place-arcs+in-Some+in_ok-put, then-place-arcs+in_default, else-place-arcs}

pub relax-requires-clause-small : goal.relax-requires-clause-small
relax-requires-clause-small c = λ v.
    let low = c.loop-place.invariant.low (2 ^ 98) c.requires.low v in
    let fall = c.loop-place.invariant.falls v in
    let high = c.requires.high v in
    let less = c.loop-place-test.true in
    (omega (arith, ints), omega (arith, ints))

pub loop-place-preserved : goal.loop-place-preserved
loop-place-preserved c =
    let g = residual c.args.arcs.now c.args.units.now in
    let i = c.loop-place.place-index in
    let old = c.args.labels.now in
    let now = c.loop-place.labels in
    let mid : Labels = record { costs = now.costs; parents = now.parents; fell = None } in
    let was = moved g i old now mid c.loop-place.invariant refl refl in
    elim c.if-place-arcs.branch [
      | then-place-arcs+in-Some+in_ok-put w ↦
          let costs : length w.relax.new.labels.costs.items ≡ length now.costs.items = search (rules, w.relax.ensures.costs) in
          let parents : length w.relax.new.labels.parents.items ≡ length now.parents.items = search (rules, w.relax.ensures.parents) in
          subst (λ (l : Labels). IsCorrected g (i + 1) old l) (sym w.labels-is) (one_more g i _ old mid w.relax.new.labels was w.relax.ensures.relaxed costs parents)
      | then-place-arcs+in_default w ↦
          let costs : length w.relax.new.labels.costs.items ≡ length now.costs.items = search (rules, w.relax.ensures.costs) in
          let parents : length w.relax.new.labels.parents.items ≡ length now.parents.items = search (rules, w.relax.ensures.parents) in
          subst (λ (l : Labels). IsCorrected g (i + 1) old l) (sym w.labels-is) (one_more g i _ old mid w.relax.new.labels was w.relax.ensures.relaxed costs parents)
      | else-place-arcs w ↦ subst (λ (l : Labels). IsCorrected g (i + 1) old l) (sym w.labels-is) (longer g i (i + 1) old now (omega arith) c.loop-place.invariant)
    ]
