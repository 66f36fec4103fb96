use Rattle.std.proofs.Common.{sym, ◌∙◌, subst}
use Rattle.fm_round.specs.Admission.{one_entry, place_ops}
use Rattle.fm_round.specs.inner.AdmissionSteps.{Took}
use Rattle.fm_round.proofs.Results.{on_ok}
use Rattle.fm_round.proofs.Turns.{took_refused}
use Rattle.fm_round.proofs.admission.AdmissionState.take_place.Goals as goal

pub returns-then-not-is_accepted-clause-took : goal.returns-then-not-is_accepted-clause-took
returns-then-not-is_accepted-clause-took c =
    let old = c.args.self.now in
    let new = c.answer.new.self in
    let more = place_ops c.args.coordinator old.now c.args.place.now in
    on_ok (λ answers. subst (λ a. Took (one_entry a more) old new) c.place_answer-answer.ensures (took_refused c.place_answer-answer.result more old new answers c.requires.ready.table (sym c.is_accepted.ensures ∙ c.if-not-is_accepted.true) c.answer.ensures.now c.answer.ensures.ops)) c.answer.result c.answer.ensures.answers
