use Rattle.std.proofs.Common.{drop}
use Rattle.fm_round.specs.Admission.{preempt_answer, preempt_ops}
use Rattle.fm_round.specs.inner.AdmissionSteps.{IsAdmissionState}
use Rattle.fm_round.proofs.Turns.{Ahead}
use Rattle.fm_round.proofs.admission.AdmissionState.take_preempts.Given as goal

abbrev pub invariant-loop-preempt : goal.invariant-loop-preempt
invariant-loop-preempt l = record {
  ready : IsAdmissionState l.self;
  ahead : Ahead preempt_answer preempt_ops l.fn.self l.preempts l.self (drop l.preempt-index l.preempts);
}
