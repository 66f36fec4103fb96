use Rattle.std.proofs.Common.{IsTrue, drop}
use Rattle.std.specs.Prelude.{◌⊎◌}
use Rattle.fm_records.specs.Sets.{IsMember}
use Rattle.fm_records.specs.Table.{Table}
use Rattle.fm_tally.specs.Tallies.{TallyIsFor}
use Rattle.fm_round.specs.declared.plan.Place.{Place}
use Rattle.fm_round.specs.inner.MachineHoldings.{is_counted, AreCountedHoldings}
use Rattle.fm_round.proofs.machine_holdings.Holdings.by.Given as goal

abbrev pub invariant-loop-place : goal.invariant-loop-place
invariant-loop-place l = record {
  holdings : (k : Table) → TallyIsFor k l.tally → AreCountedHoldings k l.holdings;
  counted : (p : Place) → IsMember p l.places → IsMember p (drop l.place-index l.places) ⊎ IsTrue (is_counted l.holdings p.machine);
}
