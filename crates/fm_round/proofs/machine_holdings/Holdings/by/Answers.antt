use Rattle.std.proofs.Common.{◌≡◌, ◌+◌, ◌∷◌, sym, ◌∙◌, ap, drop, length}
use Rattle.std.specs.Ordering.{nat_cmp}
use Rattle.std.specs.BTreeMap.{get}
use Rattle.std.proofs.lemmas.List.{drop_more}
use Rattle.fm_records.specs.Facts.{held_tasks}
use Rattle.fm_round.specs.inner.MachineHoldings.{requests_of}
use Rattle.fm_round.proofs.Counting.{counted_on, put_right}
use Rattle.fm_round.proofs.machine_holdings.Holdings.by.Goals as goal

pub loop-place-preserved : goal.loop-place-preserved
loop-place-preserved c =
    let xs = c.args.places.now in
    let i = c.loop-place.place-index in
    let item = c.place-item.result in
    let rest : drop i xs ≡ item ∷ drop (i + 1) xs = drop_more xs i item c.loop-place-test.true ∙ ap (λ z. z ∷ drop (i + 1) xs) (sym c.place-item.is) in
    let held = c.held_by-held.result in
    let old = get nat_cmp c.loop-place.holdings.by_machine in
    let new = get nat_cmp c.insert.new.self in
    let puts = c.in_ok-insert.ensures.updates.0 in
    record {
      holdings = λ k is_for.
          let was = c.loop-place.invariant.holdings k is_for in
          record {
            requests = put_right item.machine held old new puts (λ m h. h.requests ≡ requests_of k m) (c.held_by-held.ensures.requests k is_for) was.requests;
            tasks = put_right item.machine held old new puts (λ m h. h.tasks ≡ length (held_tasks k m)) (c.held_by-held.ensures.tasks k is_for) was.tasks;
          };
      counted = λ p is. counted_on item.machine held old new puts item (λ _. item.machine) (drop i xs) (drop (i + 1) xs) rest p (c.loop-place.invariant.counted p is);
    }
