use Rattle.std.proofs.Common.{sym, ◌∙◌, subst}
use Rattle.fm_round.specs.Admission.{one_entry, preempt_ops}
use Rattle.fm_round.specs.inner.AdmissionSteps.{Took}
use Rattle.fm_round.proofs.Results.{on_ok}
use Rattle.fm_round.proofs.Turns.{took_refused}
use Rattle.fm_round.proofs.admission.AdmissionState.take_preempt.Goals as goal

pub returns-then-not-is_accepted-clause-took : goal.returns-then-not-is_accepted-clause-took
returns-then-not-is_accepted-clause-took c =
    let old = c.args.self.now in
    let new = c.answer.new.self in
    let more = preempt_ops old.now c.args.preempt.now in
    on_ok (λ answers. subst (λ a. Took (one_entry a more) old new) c.preempt_answer-answer.ensures (took_refused c.preempt_answer-answer.result more old new answers c.requires.table (sym c.is_accepted.ensures ∙ c.if-not-is_accepted.true) c.answer.ensures.now c.answer.ensures.ops)) c.answer.result c.answer.ensures.answers
