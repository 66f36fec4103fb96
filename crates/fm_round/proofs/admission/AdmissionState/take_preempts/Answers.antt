use Rattle.std.proofs.Common.{◌≡◌, ◌+◌, ◌∷◌, sym, ◌∙◌, ap, subst, drop}
use Rattle.std.proofs.lemmas.List.{drop_more, drop_all}
use Rattle.fm_round.specs.Admission.{preempt_answer, preempt_ops}
use Rattle.fm_round.proofs.Turns.{Ahead, one_further, at_end}
use Rattle.fm_round.proofs.admission.AdmissionState.take_preempts.Goals as goal

pub loop-preempt-preserved : goal.loop-preempt-preserved
loop-preempt-preserved c =
    let answer_to = preempt_answer in
    let ops_of = preempt_ops in
    let old = c.args.self.now in
    let xs = c.args.preempts.now in
    let i = c.loop-preempt.preempt-index in
    let item = c.preempt-item.result in
    let rest : drop i xs ≡ item ∷ drop (i + 1) xs = drop_more xs i item c.loop-preempt-test.true ∙ ap (λ z. z ∷ drop (i + 1) xs) (sym c.preempt-item.is) in
    let ahead = subst (Ahead answer_to ops_of old xs c.loop-preempt.self) rest c.loop-preempt.invariant.ahead in
    record {
      ready = c.in_ok-take_preempt.ensures.ready;
      ahead = one_further answer_to ops_of old xs c.loop-preempt.self c.take_preempt.new.self item (drop (i + 1) xs) c.loop-preempt.invariant.ready.table ahead c.in_ok-take_preempt.ensures.took;
    }

pub returns-clause-took : goal.returns-clause-took
returns-clause-took c =
    let answer_to = preempt_answer in
    let ops_of = preempt_ops in
    let old = c.args.self.now in
    let xs = c.args.preempts.now in
    at_end answer_to ops_of old xs c.loop-preempt.self c.loop-preempt.invariant.ready.table (subst (Ahead answer_to ops_of old xs c.loop-preempt.self) (drop_all c.loop-preempt.preempt-index xs c.loop-preempt-test.false) c.loop-preempt.invariant.ahead)
