use Rattle.std.proofs.Common.{◌≡◌, ◌≤◌, length, get_or, Some, inl, inr, arith, rules}
use Rattle.std.specs.Prelude.{slice_get}
use Rattle.std.proofs.lemmas.Int.{ints}
use Rattle.std.proofs.lemmas.Option.{slice_get-get_or}
use Rattle.fm_cycles.specs.Found.{costs_in}
use Rattle.fm_cycles.specs.declared.indexed_arcs.IndexedArc.{IndexedArc}
use Rattle.fm_cycles.proofs.Fitting.{one_more, no_saving_ahead, no_saving_back}
use Rattle.fm_cycles.proofs.Lowered.{past}
use Rattle.fm_cycles.proofs.check_potentials.are_potentials.Goals as goal

pub loop-place-preserved : goal.loop-place-preserved
loop-place-preserved c =
    let none : IndexedArc = record { from = 0; to = 0; capacity = 0; cost = 0 } in
    let i = c.loop-place.place in
    let arcs = c.args.arcs.now in
    let a = get_or arcs i none in
    let there : slice_get arcs i ≡ Some a = slice_get-get_or arcs i none (omega arith) in
    let known = c.requires.arcs i a there in
    let low = c.requires.small a.from in
    let high = c.requires.small a.to in
    let sent = c.units_at-sent.ensures in
    let price = c.from.ensures in
    let from : c.cost_at.result ≡ costs_in c.args.costs.now a.from = c.cost_at.ensures in
    let to : c.cost_at-in-loop-place.result ≡ costs_in c.args.costs.now a.to = c.cost_at-in-loop-place.ensures in
    one_more arcs c.args.units.now (costs_in c.args.costs.now) a i there
    (λ h. let k = c.fits.ensures.ahead c.if-not-fits.false (omega (arith, sent)) in omega (arith, ints))
    (λ h. let k = c.fits.ensures.back c.if-not-fits.false (omega (arith, sent)) in omega (arith, ints))
    c.loop-place.invariant

pub returns : goal.returns
returns c = (
  λ _. record {
    fit = λ s can. c.loop-place.invariant s (past c.args.arcs.now c.args.units.now s _ (let e : length c.args.arcs.now ≤ c.loop-place.place = omega arith in e) can) can;
    bounded = c.requires.small;
  },
  λ _. search rules,
)

pub returns-then-not-fits : goal.returns-then-not-fits
returns-then-not-fits c =
    let none : IndexedArc = record { from = 0; to = 0; capacity = 0; cost = 0 } in
    let i = c.loop-place.place in
    let arcs = c.args.arcs.now in
    let a = get_or arcs i none in
    let there : slice_get arcs i ≡ Some a = slice_get-get_or arcs i none (omega arith) in
    let known = c.requires.arcs i a there in
    let low = c.requires.small a.from in
    let high = c.requires.small a.to in
    let sent = c.units_at-sent.ensures in
    let price = c.from.ensures in
    let from : c.cost_at.result ≡ costs_in c.args.costs.now a.from = c.cost_at.ensures in
    let to : c.cost_at-in-loop-place.result ≡ costs_in c.args.costs.now a.to = c.cost_at-in-loop-place.ensures in (
      λ yes. absurd (cc),
      λ are.
          absurd (elim (c.fits.ensures.refuses c.if-not-fits.true) as (λ _. ⊥) [
            | inl ahead ↦ let room = ahead.0 in let saves = ahead.1 in let k = no_saving_ahead arcs c.args.units.now (costs_in c.args.costs.now) a i there are (omega (arith, sent, room)) in omega (arith, ints)
            | inr back ↦ let some = back.0 in let saves = back.1 in let k = no_saving_back arcs c.args.units.now (costs_in c.args.costs.now) a i there are (omega (arith, sent, some)) in omega (arith, ints)
          ]),
    )
