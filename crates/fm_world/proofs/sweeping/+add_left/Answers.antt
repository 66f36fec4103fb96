use Rattle.std.proofs.Common.{rules, ◌≡◌, ◌<◌, ◌≤◌, ◌∙◌, ◌++◌, ◌∷◌, [], length, map, OnOk, ap, sym, subst}
use Rattle.fm_world.specs.Represents.{state_of}
use Rattle.fm_world.specs.inner.Sweeps.{left_at}
use Rattle.fm_world.proofs.Left.{left_none, left_nowhere, left_first, left_further}
use Rattle.fm_world.proofs.sweeping.+add_left.Goals.{then-place-history+in_ok-push, else-place-history}
use Rattle.fm_world.proofs.sweeping.+add_left.Goals as goal

pub returns-in_default : goal.returns-in_default
returns-in_default g t c = left_none state_of c.args.coordinators.now c.args.places.now c.in_default.ensures.cases c.args.left.now.items

pub returns-in_default-split_first : goal.returns-in_default-split_first
returns-in_default-split_first g t c = left_nowhere state_of c.args.coordinators.now c.args.places.now c.in_default-split_first.ensures.cases c.args.left.now.items

pub returns : goal.returns
returns g t c =
    let f = state_of {N = g.row.N.Denot} in
    let first = c.in-Some.first.now in
    let rest = c.in-Some.rest.now in
    let place = c.in-Some-split_first.place.now in
    let further = c.in-Some-split_first.further.now in
    let l = c.args.left.now.items in
    let many : length c.history.result.now ≡ length (f first).history = ap length c.history.ensures in
    let whole : l ++ left_at (map f (first ∷ rest)) (place ∷ further) ≡ l ++ left_at (map f c.args.coordinators.now) c.args.places.now =
    λ i. l ++ left_at (map f (sym c.in-Some.ensures.cases.0 i)) (sym c.in-Some-split_first.ensures.cases.0 i) in
    let step : c.if-place-history.left.items ++ left_at (map f rest) further ≡ l ++ left_at (map f (first ∷ rest)) (place ∷ further) =
    elim c.if-place-history.branch [
      | then-place-history+in_ok-push w ↦
          let pushed : c.if-place-history.left.items ≡ l ++ (f first).number ∷ [] = search rules in
          ap (λ m. m ++ left_at (map f rest) further) pushed ∙ left_first f first rest place further l (subst (λ n. place < n) many w.if-place-history.true)
      | else-place-history w ↦
          ap (λ v. v.items ++ left_at (map f rest) further) w.left-is ∙ left_further f first rest place further l (subst (λ n. n ≤ place) many w.if-place-history.false)
    ]
    in subst (λ x. OnOk c.add_left.result (c.add_left.new.left.items ≡ x)) (step ∙ whole) c.add_left.ensures
