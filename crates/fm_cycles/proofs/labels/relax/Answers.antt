use Rattle.std.proofs.Common.{◌≡◌, ◌<◌, ◌^◌, length, get_or, Some, rules, arith, sym, subst}
use Rattle.std.specs.Prelude.{ℕ, slice_get, ◌≤ℤ◌, ◌-ℤ◌, neg_ℤ, pos}
use Rattle.std.proofs.lemmas.Int.{ints}
use Rattle.std.proofs.lemmas.Option.{slice_get-get_or}
use Rattle.std.proofs.lemmas.Bool.{ltb-true, lt-ltb}
use Rattle.fm_cycles.specs.inner.Labels.{costs_of, HasFallen}
use Rattle.fm_cycles.specs.declared.indexed_arcs.IndexedArc.{IndexedArc}
use Rattle.fm_cycles.proofs.Lowered.{taken, above, falls}
use Rattle.fm_cycles.proofs.labels.relax.Goals as goal

pub overflow_sub-back : goal.overflow_sub-back
overflow_sub-back c =
    let none : IndexedArc = record { from = 0; to = 0; capacity = 0; cost = 0 } in
    let i = c.args.place in
    let arcs = c.args.arcs.now in
    let a = get_or arcs i none in
    let there : slice_get arcs i ≡ Some a = slice_get-get_or arcs i none c.requires.place in
    let known = c.requires.arcs i a there in
    let from = c.requires.small a.from in
    let to = c.requires.small a.to in
    let at_from : c.cost_at.result ≡ costs_of c.args.labels.now a.from = search (rules, c.cost_at.ensures) in
    let price = c.from.ensures in
    let price2 = c.from-2.ensures in
    let at_to : c.cost_at-2.result ≡ costs_of c.lower.new.labels a.to = search (rules, c.cost_at-2.ensures) in
    let low = above _ _ _ _ _ _ _ _ c.lower.ensures.lowered a.to (neg_ℤ (pos (2 ^ 100))) (omega (arith, ints)) (omega (arith, ints)) in
    let fall = falls _ _ _ _ _ _ _ _ c.lower.ensures.lowered a.to in
    omega (arith, ints)

pub lower-requires-2-clause-costs : goal.lower-requires-2-clause-costs
lower-requires-2-clause-costs c =
    let none : IndexedArc = record { from = 0; to = 0; capacity = 0; cost = 0 } in
    let i = c.args.place in
    let arcs = c.args.arcs.now in
    let a = get_or arcs i none in
    let there : slice_get arcs i ≡ Some a = slice_get-get_or arcs i none c.requires.place in
    let known = c.requires.arcs i a there in
    let same = c.lower.ensures.costs in
    let from = known.0 in
    omega arith

pub lower-requires-2-clause-parents : goal.lower-requires-2-clause-parents
lower-requires-2-clause-parents c =
    let none : IndexedArc = record { from = 0; to = 0; capacity = 0; cost = 0 } in
    let i = c.args.place in
    let arcs = c.args.arcs.now in
    let a = get_or arcs i none in
    let there : slice_get arcs i ≡ Some a = slice_get-get_or arcs i none c.requires.place in
    let known = c.requires.arcs i a there in
    let same = c.lower.ensures.parents in
    let sized = c.requires.parents in
    let from = known.0 in
    omega arith

pub returns-clause-relaxed : goal.returns-clause-relaxed
returns-clause-relaxed c =
    let none : IndexedArc = record { from = 0; to = 0; capacity = 0; cost = 0 } in
    let i = c.args.place in
    let arcs = c.args.arcs.now in
    let a = get_or arcs i none in
    let there : slice_get arcs i ≡ Some a = slice_get-get_or arcs i none c.requires.place in
    let known = c.requires.arcs i a there in
    let from = c.requires.small a.from in
    let to = c.requires.small a.to in
    let sent = c.units_at-sent.ensures in
    let at_from : c.cost_at.result ≡ costs_of c.args.labels.now a.from = search (rules, c.cost_at.ensures) in
    let price = c.from.ensures in
    let price2 = c.from-2.ensures in
    let at_to : c.cost_at-2.result ≡ costs_of c.lower.new.labels a.to = search (rules, c.cost_at-2.ensures) in
    let low1 = c.lower.ensures.lowered in
    let low2 = c.lower-2.ensures.lowered in
    let above1 = above _ _ _ _ _ _ _ _ low1 a.to (neg_ℤ (pos (2 ^ 100))) (omega (arith, ints)) (omega (arith, ints)) in
    let below1 = falls _ _ _ _ _ _ _ _ low1 a.to in
    let sets = taken arcs c.args.units.now a i there _ _ _ _ _ _ _ _ _ _
    (λ h. let k : c.units_at-sent.result < a.capacity = ltb-true c.units_at-sent.result a.capacity h in omega (arith, sent))
    (λ h. let k : c.units_at-sent.result < a.capacity = omega (arith, sent) in lt-ltb _ _ k)
    (λ h. let k : 0 < c.units_at-sent.result = ltb-true 0 c.units_at-sent.result h in omega (arith, sent))
    (λ h. let k : 0 < c.units_at-sent.result = omega (arith, sent) in lt-ltb _ _ k)
    (omega (arith, ints)) (omega (arith, ints)) low1 low2 in
    let same = c.lower.ensures.costs in
    record {
      labels = sets.0;
      falls = sets.1;
      relaxed = sets.2;
      low = λ bound all v.
          let at = all v in
          let begin = all a.from in
          let one = above _ _ _ _ _ _ _ _ low1 v (neg_ℤ (pos bound)) (omega (arith, ints)) (omega (arith, ints)) in
          let begin2 = all a.to in
          let two = above _ _ _ _ _ _ _ _ low1 a.to (neg_ℤ (pos bound)) (omega (arith, ints)) (omega (arith, ints)) in
          above _ _ _ _ _ _ _ _ low2 v (neg_ℤ (pos bound) -ℤ pos (2 ^ 32)) (omega (arith, ints)) (omega (arith, ints));
      fell = λ before below was.
          let one = c.lower.ensures.fell before below was in
          let fell : (v : ℕ) → costs_of c.lower.new.labels v ≤ℤ before v = λ v. let h = falls _ _ _ _ _ _ _ _ low1 v in let b = below v in omega (arith, ints) in
          let n0 = length c.args.labels.now.costs.items in
          let n1 = length c.lower.new.labels.costs.items in
          let is : n1 ≡ n0 = search (rules, same) in
          subst (λ n. HasFallen c.lower-2.new.labels.fell n before (costs_of c.lower-2.new.labels)) is
          (c.lower-2.ensures.fell before fell (subst (λ n. HasFallen c.lower.new.labels.fell n before (costs_of c.lower.new.labels)) (sym is) one));
    }
