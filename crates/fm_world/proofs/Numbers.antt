-- Numbers that are equal, and that are not.
use Rattle.std.proofs.Common.{◌≡◌, ◌<◌, ◌≤◌, ◌==◌, ◌↔◌, IsTrue, ℕ, zero, suc, Bool, true, false, List, [], ◌∷◌, Option, Some, None, is_none, length, map, get_or, position, refl, sym, ◌∙◌, subst, inl, inr, arith, eqb-true, ltb-false}
use Rattle.std.specs.List.{position_or_len}
use Rattle.std.proofs.lemmas.Bool.{eqb-false}
use Rattle.std.proofs.lemmas.List.Quantifiers.{position-Some}
use Rattle.std.proofs.lemmas.List.Sums.{fails_before_first}
use Rattle.fm_records.specs.Sets.{IsMember}
use Rattle.fm_coord.proofs.StepLaws.{test_failed}
use Rattle.fm_coord.specs.States.{WithKeeper}
use Rattle.fm_coord.specs.Numbers.{AreDistinct}
use Rattle.fm_world.specs.Represents.{number_of}

no_member : {N : Type 0} (cs : List (WithKeeper N)) (n : ℕ) → ((k : ℕ) (d : WithKeeper N) → k < length cs → (number_of (get_or cs k d) == n) ≡ false) → IsMember n (map number_of cs) → ⊥
no_member [] n h m = m
no_member (c ∷ cs) n h (inl is) = eqb-false (number_of c) n (h 0 c (omega arith)) is
no_member (c ∷ cs) n h (inr m) = no_member cs n (λ k d lt. h (suc k) d (omega arith)) m

a_member : {N : Type 0} (cs : List (WithKeeper N)) (n i : ℕ) (d : WithKeeper N) → i < length cs → (number_of (get_or cs i d) == n) ≡ true → IsMember n (map number_of cs)
a_member [] n i d lt h = absurd (omega arith)
a_member (c ∷ cs) n zero d lt h = inl (eqb-true (number_of c) n h)
a_member (c ∷ cs) n (suc i) d lt h = inr (a_member cs n i d (omega arith) h)

-- no coordinator has the number if none is found
pub not_there : {N : Type 0} (cs : List (WithKeeper N)) (n : ℕ) → position (λ d. number_of d == n) cs ≡ None → IsMember n (map number_of cs) → ⊥
not_there cs n none =
    let far : length cs ≤ position_or_len (λ d. number_of d == n) cs = ltb-false (position_or_len (λ d. number_of d == n) cs) (length cs) (test_failed _ _ _ none) in
    no_member cs n (λ k d lt. fails_before_first (λ d. number_of d == n) cs k d (omega arith))

pub is_there : {N : Type 0} (cs : List (WithKeeper N)) (n : ℕ) (c : WithKeeper N) (o : Option ℕ) → o ≡ position (λ d. number_of d == n) cs → is_none o ≡ false → IsMember n (map number_of cs)
is_there cs n c None e h = absurd (let no : ⊥ = cc in no)
is_there cs n c (Some i) e h =
    let place = position-Some (λ d. number_of d == n) cs i c (sym e) in
    a_member cs n i c place.0 place.1

none_of : {A : Type 0} (o : Option A) → is_none o ≡ true → o ≡ None
none_of None h = refl
none_of (Some a) h = absurd (let no : ⊥ = cc in no)

pub distinct_on : {N : Type 0} (cs : List (WithKeeper N)) (c : WithKeeper N) (rest : List (WithKeeper N)) → cs ≡ c ∷ rest →
    (o : Option ℕ) → o ≡ position (λ d. number_of d == number_of c) rest → is_none o ≡ true → (b : Bool) →
    (IsTrue b ↔ AreDistinct (map number_of rest)) → IsTrue b ↔ AreDistinct (map number_of cs)
distinct_on {N = N} cs c rest e o at none b h =
    subst (λ (ds : List (WithKeeper N)). IsTrue b ↔ AreDistinct (map number_of ds)) (sym e)
    (λ t. (not_there rest (number_of c) (sym at ∙ none_of o none), h.0 t), λ d. h.1 d.1)

pub distinct_off : {N : Type 0} (cs : List (WithKeeper N)) (c : WithKeeper N) (rest : List (WithKeeper N)) → cs ≡ c ∷ rest → (o : Option ℕ) → o ≡ position (λ d. number_of d == number_of c) rest → is_none o ≡ false → (b : Bool) → b ≡ false → IsTrue b ↔ AreDistinct (map number_of cs)
distinct_off {N = N} cs c rest e o at there b off =
    subst (λ (ds : List (WithKeeper N)). IsTrue b ↔ AreDistinct (map number_of ds)) (sym e)
    (λ t. absurd (let no : ⊥ = cc in no), λ d. absurd (d.0 (is_there rest (number_of c) c o at there)))
