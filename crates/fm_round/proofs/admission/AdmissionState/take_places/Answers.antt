use Rattle.std.proofs.Common.{◌≡◌, ◌+◌, ◌∷◌, refl, sym, ◌∙◌, ap, subst, inl, inr, drop}
use Rattle.fm_records.specs.Sets.{IsMember}
use Rattle.std.proofs.lemmas.List.{drop_more, drop_all}
use Rattle.fm_round.specs.Admission.{place_answer, place_ops}
use Rattle.fm_round.proofs.Turns.{Ahead, one_further, at_end}
use Rattle.fm_round.proofs.admission.AdmissionState.take_places.Goals as goal

pub loop-place-preserved : goal.loop-place-preserved
loop-place-preserved c =
    let answer_to = place_answer c.args.coordinator in
    let ops_of = place_ops c.args.coordinator in
    let old = c.args.self.now in
    let xs = c.args.places.now in
    let i = c.loop-place.place-index in
    let item = c.place-item.result in
    let rest : drop i xs ≡ item ∷ drop (i + 1) xs = drop_more xs i item c.loop-place-test.true ∙ ap (λ z. z ∷ drop (i + 1) xs) (sym c.place-item.is) in
    let ahead = subst (Ahead answer_to ops_of old xs c.loop-place.self) rest c.loop-place.invariant.ahead in
    record {
      ready = c.in_ok-take_place.ensures.ready;
      holdings = c.in_ok-take_place.ensures.holdings;
      counted = λ p later. c.in_ok-take_place.ensures.same p.machine ∙ c.loop-place.invariant.counted p (subst (IsMember p) (sym rest) (inr later));
      ahead = one_further answer_to ops_of old xs c.loop-place.self c.take_place.new.self item (drop (i + 1) xs) c.loop-place.invariant.ready.table ahead c.in_ok-take_place.ensures.took;
    }

pub take_place-requires-clause-counted : goal.take_place-requires-clause-counted
take_place-requires-clause-counted c =
    let xs = c.args.places.now in
    let i = c.loop-place.place-index in
    let item = c.place-item.result in
    let rest : drop i xs ≡ item ∷ drop (i + 1) xs = drop_more xs i item c.loop-place-test.true ∙ ap (λ z. z ∷ drop (i + 1) xs) (sym c.place-item.is) in
    c.loop-place.invariant.counted item (subst (IsMember item) (sym rest) (inl refl))

pub returns-clause-took : goal.returns-clause-took
returns-clause-took c =
    let answer_to = place_answer c.args.coordinator in
    let ops_of = place_ops c.args.coordinator in
    let old = c.args.self.now in
    let xs = c.args.places.now in
    at_end answer_to ops_of old xs c.loop-place.self c.loop-place.invariant.ready.table (subst (Ahead answer_to ops_of old xs c.loop-place.self) (drop_all c.loop-place.place-index xs c.loop-place-test.false) c.loop-place.invariant.ahead)
