use Rattle.std.proofs.Common.{◌≡◌, ◌+◌, ◌∷◌, refl, sym, ◌∙◌, ap, drop}
use Rattle.std.specs.Ordering.{nat_cmp}
use Rattle.std.specs.BTreeMap.{get}
use Rattle.std.proofs.lemmas.List.{drop_more}
use Rattle.fm_round.specs.inner.MachineHoldings.{nothing_held}
use Rattle.fm_round.proofs.Counting.{counted_on, put_nothing}
use Rattle.fm_round.proofs.machine_holdings.Holdings.none.Goals as goal

pub loop-place-preserved : goal.loop-place-preserved
loop-place-preserved c =
    let xs = c.args.places.now in
    let i = c.loop-place.place-index in
    let item = c.place-item.result in
    let rest : drop i xs ≡ item ∷ drop (i + 1) xs = drop_more xs i item c.loop-place-test.true ∙ ap (λ z. z ∷ drop (i + 1) xs) (sym c.place-item.is) in
    let old = get nat_cmp c.loop-place.holdings.by_machine in
    let new = get nat_cmp c.insert.new.self in
    let puts = c.in_ok-insert.ensures.updates.0 in
    record {
      nothing = λ m. put_nothing item.machine nothing_held old new puts refl m (c.loop-place.invariant.nothing m);
      counted = λ p is. counted_on item.machine nothing_held old new puts item (λ _. item.machine) (drop i xs) (drop (i + 1) xs) rest p (c.loop-place.invariant.counted p is);
    }
