-- Entries taken in turn.
use Rattle.std.proofs.Common.{◌≡◌, true, false, cond, List, [], ◌∷◌, ◌++◌, refl, sym, ◌∙◌, ap, append_assoc, append-nil}
use Rattle.fm_records.specs.declared.ops.Op.{Op}
use Rattle.fm_records.specs.Table.{Table}
use Rattle.fm_records.specs.OpsOfTable.{IsTable}
use Rattle.fm_round.specs.declared.admission.AdmissionState.{AdmissionState}
use Rattle.fm_round.specs.declared.plan.Answer.{Answer}
use Rattle.fm_round.specs.Admission.{told, is_accepted, one_entry, in_turn}
use Rattle.fm_round.specs.inner.AdmissionSteps.{Took}
use Rattle.fm_round.proofs.Told.{told_nothing, told_more}

module _ {E : Type 0} (answer_to : Table → E → Answer) (ops_of : Table → E → List Op) (old : AdmissionState) (es : List E) where
  -- with the rest of the entries the state comes to what it would with all from the start
  pub record Ahead (state : AdmissionState) (rest : List E) : Type 0 where
    pub now : told state.now (in_turn answer_to ops_of state.now rest).ops ≡ told old.now (in_turn answer_to ops_of old.now es).ops
    pub ops : state.ops.items ++ (in_turn answer_to ops_of state.now rest).ops ≡ old.ops.items ++ (in_turn answer_to ops_of old.now es).ops
    pub answers : state.answers.items ++ (in_turn answer_to ops_of state.now rest).answers ≡ old.answers.items ++ (in_turn answer_to ops_of old.now es).answers

  pub one_further : (state new : AdmissionState) (e : E) (rest : List E) → IsTable state.now → Ahead state (e ∷ rest) → Took (one_entry (answer_to state.now e) (ops_of state.now e)) state new → Ahead new rest
  one_further state new e rest form ahead took =
      let one = one_entry (answer_to state.now e) (ops_of state.now e) in
      let later = in_turn answer_to ops_of (told state.now one.ops) rest in
      record {
        now = ap (λ k. told k (in_turn answer_to ops_of k rest).ops) took.now ∙ told_more state.now form one.ops later.ops ∙ ahead.now;
        ops = (λ i. took.ops i ++ (in_turn answer_to ops_of (took.now i) rest).ops) ∙ append_assoc state.ops.items one.ops later.ops ∙ ahead.ops;
        answers = (λ i. took.answers i ++ (in_turn answer_to ops_of (took.now i) rest).answers) ∙ append_assoc state.answers.items one.answers later.answers ∙ ahead.answers;
      }

  pub at_end : (state : AdmissionState) → IsTable state.now → Ahead state [] → Took (in_turn answer_to ops_of old.now es) old state
  at_end state form ahead = record {
    now = sym (told_nothing state.now form) ∙ ahead.now;
    ops = sym (append-nil state.ops.items) ∙ ahead.ops;
    answers = sym (append-nil state.answers.items) ∙ ahead.answers;
  }

  pub at_start : Ahead old es
  at_start = record { now = refl; ops = refl; answers = refl }

-- One entry, by whether it is accepted.
module _ (a : Answer) (more : List Op) (old new : AdmissionState) (answers : new.answers.items ≡ old.answers.items ++ a ∷ []) where
  pub took_refused : IsTable old.now → is_accepted a ≡ false → new.now ≡ old.now → new.ops.items ≡ old.ops.items → Took (one_entry a more) old new
  took_refused form is now ops =
      let none : (one_entry a more).ops ≡ [] = ap (λ b. cond b more []) is in
      record {
        now = now ∙ sym (told_nothing old.now form) ∙ ap (told old.now) (sym none);
        ops = ops ∙ sym (append-nil old.ops.items) ∙ ap (λ x. old.ops.items ++ x) (sym none);
        answers = answers;
      }

  pub took_accepted : is_accepted a ≡ true → new.now ≡ told old.now more → new.ops.items ≡ old.ops.items ++ more → Took (one_entry a more) old new
  took_accepted is now ops =
      let all : (one_entry a more).ops ≡ more = ap (λ b. cond b more []) is in
      record {
        now = now ∙ ap (told old.now) (sym all);
        ops = ops ∙ ap (λ x. old.ops.items ++ x) (sym all);
        answers = answers;
      }
