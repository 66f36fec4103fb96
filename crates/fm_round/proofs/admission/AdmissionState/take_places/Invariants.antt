use Rattle.std.proofs.Common.{drop, IsTrue}
use Rattle.fm_records.specs.Sets.{IsMember}
use Rattle.fm_round.specs.declared.plan.Place.{Place}
use Rattle.fm_round.specs.Admission.{place_answer, place_ops}
use Rattle.fm_round.specs.inner.AdmissionSteps.{IsAdmissionState}
use Rattle.fm_round.specs.inner.MachineHoldings.{is_counted, AreCountedHoldings}
use Rattle.fm_round.proofs.Turns.{Ahead}
use Rattle.fm_round.proofs.admission.AdmissionState.take_places.Given as goal

abbrev pub invariant-loop-place : goal.invariant-loop-place
invariant-loop-place l = record {
  ready : IsAdmissionState l.self;
  holdings : AreCountedHoldings l.self.now l.holdings;
  counted : (p : Place) → IsMember p (drop l.place-index l.places) → IsTrue (is_counted l.holdings p.machine);
  ahead : Ahead (place_answer l.coordinator) (place_ops l.coordinator) l.fn.self l.places l.self (drop l.place-index l.places);
}
