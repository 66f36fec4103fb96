use Rattle.std.proofs.Common.{◌≡◌, ℕ, IsTrue, drop}
use Rattle.std.specs.Prelude.{◌⊎◌}
use Rattle.fm_records.specs.Sets.{IsMember}
use Rattle.fm_round.specs.declared.plan.Place.{Place}
use Rattle.fm_round.specs.inner.MachineHoldings.{is_counted, holding_of, nothing_held}
use Rattle.fm_round.proofs.machine_holdings.Holdings.none.Given as goal

abbrev pub invariant-loop-place : goal.invariant-loop-place
invariant-loop-place l = record {
  nothing : (m : ℕ) → holding_of l.holdings m ≡ nothing_held;
  counted : (p : Place) → IsMember p l.places → IsMember p (drop l.place-index l.places) ⊎ IsTrue (is_counted l.holdings p.machine);
}
