use Rattle.std.proofs.Common.{◌≡◌, ℕ, ◌≤◌, List, length, IsTrue, true, false, subst, sym, ap, ◌∙◌, arith, rules}
use Rattle.std.specs.List.{list_all}
use Rattle.fm_records.specs.Ids.{is_coordinator}
use Rattle.fm_store.specs.Heads.{has_repeat}
use Rattle.fm_store.proofs.HeadLaws.{same_label, same_numbers}
use Rattle.fm_store.proofs.head.head_in.Goals as goal
use Rattle.fm_store.proofs.head.head_in.Goals.{then-label-gt-MOST_LABEL_BYTES-via-then-label-gt-MOST_LABEL_BYTES, then-label-gt-MOST_LABEL_BYTES-via-else-label-gt-MOST_LABEL_BYTES+then-has_repeat}

pub returns-in_default-2-clause-none : goal.returns-in_default-2-clause-none
returns-in_default-2-clause-none c = λ none head is.
    let numbers = same_numbers head c.args.bytes.now c.in-Some.listed.now c.in-Some.label.now is c.in-Some.ensures.some in
    let all : IsTrue (list_all is_coordinator c.in-Some.listed.now) = subst (λ (ns : List ℕ). IsTrue (list_all is_coordinator ns)) numbers is.1 in
    c.in_ok-numbers.ensures.none (search rules) all

pub returns-then-label-gt-MOST_LABEL_BYTES-clause-none : goal.returns-then-label-gt-MOST_LABEL_BYTES-clause-none
returns-then-label-gt-MOST_LABEL_BYTES-clause-none c = λ none head is.
    let numbers = same_numbers head c.args.bytes.now c.in-Some.listed.now c.in-Some.label.now is c.in-Some.ensures.some in
    let label = same_label head c.args.bytes.now c.in-Some.listed.now c.in-Some.label.now is c.in-Some.ensures.some in
    elim c.then-label-gt-MOST_LABEL_BYTES.branch [
      | then-label-gt-MOST_LABEL_BYTES-via-then-label-gt-MOST_LABEL_BYTES w ↦
          let few : length head.label ≤ 200 = is.0.0 in
          let same : length head.label ≡ length c.in-Some.label.now = ap length label in
          absurd (omega (arith, few, same, w.if-label-gt-MOST_LABEL_BYTES.true))
      | then-label-gt-MOST_LABEL_BYTES-via-else-label-gt-MOST_LABEL_BYTES+then-has_repeat w ↦
          let once : has_repeat c.in-Some.listed.now ≡ false = sym (ap has_repeat numbers) ∙ is.0.2 in
          let items : c.in-Some-2.numbers.items ≡ c.in-Some.listed.now = search rules in
          let twice : true ≡ false = w.if-has_repeat.ensures ∙ ap has_repeat (w.deref.ensures.value ∙ items) ∙ once in
          cc
    ]
