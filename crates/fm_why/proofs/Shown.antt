-- Machines, each beside what was found for it.
use Rattle.std.proofs.Common.{◌≡◌, ◌∙◌, ◌++◌, ◌≤◌, ap, refl, sym, subst, ℕ, suc, zero, Bool, true, List, [], ◌∷◌, Some, length, map, arith}
use Rattle.std.specs.Prelude.{slice_get, take, filter}
use Rattle.std.specs.List.{All, zip}
use Rattle.std.proofs.lemmas.List.{map-append, append_assoc}
use Rattle.std.proofs.lemmas.List.Elements.{All-nil, All-push}
use Rattle.fm_why.specs.declared.reasons.Choice.{Choice}

zip_none : {A B : Type 0} (xs : List A) (ys : List B) → ys ≡ [] → zip xs ys ≡ []
zip_none [] ys none = refl
zip_none (x ∷ xs) ys none = ap (zip (x ∷ xs)) none

-- what is found for the next one is the last pair
zip_next : {A B : Type 0} (xs : List A) (ys : List B) (a : A) (b : B) → slice_get xs (length ys) ≡ Some a → zip xs (ys ++ b ∷ []) ≡ zip xs ys ++ (a, b) ∷ []
zip_next [] ys a b at = absurd (let no : ⊥ = cc in no)
zip_next (x ∷ xs) [] a b at = let same : x ≡ a = cc in ap (λ y. (y, b) ∷ zip xs []) same ∙ ap (λ ps. (a, b) ∷ ps) (zip_none xs [] refl)
zip_next (x ∷ xs) (c ∷ ys) a b at = ap (λ ps. (x, c) ∷ ps) (zip_next xs ys a b at)

-- nothing was found yet
pub all_none : {A B : Type 0} (P : A × B → Type 0) (xs : List A) (ys : List B) → ys ≡ [] → All P (zip xs ys)
all_none P xs ys none = subst (All P) (sym (zip_none xs ys none)) (All-nil P)

-- what holds of each pair holds with one more
pub all_next : {A B : Type 0} (P : A × B → Type 0) (xs : List A) (ys : List B) (a : A) (b : B) → slice_get xs (length ys) ≡ Some a → All P (zip xs ys) → P (a, b)
    → All P (zip xs (ys ++ b ∷ []))
all_next P xs ys a b at all p = subst (All P) (sym (zip_next xs ys a b at)) (All-push P (zip xs ys) (a, b) all p)

-- the others have none
pub zip_take : {A B : Type 0} (n : ℕ) (xs : List A) (ys : List B) → length ys ≤ n → zip (take n xs) ys ≡ zip xs ys
zip_take zero [] ys le = refl
zip_take (suc n) [] ys le = refl
zip_take zero (a ∷ xs) [] le = refl
zip_take (suc n) (a ∷ xs) [] le = refl
zip_take zero (a ∷ xs) (b ∷ ys) le = absurd (omega (arith, le))
zip_take (suc n) (a ∷ xs) (b ∷ ys) le = ap (λ ps. (a, b) ∷ ps) (zip_take n xs ys (omega (arith, le)))

filter_kept : (p : ℕ → Bool) (m : ℕ) (ms : List ℕ) → p m ≡ true → filter p (m ∷ ms) ≡ m ∷ filter p ms
filter_kept p m ms kept = rw kept refl

-- a walk over machines that keeps the next one
pub next_kept : (p : ℕ → Bool) (xs : List Choice) (e : Choice) (m : ℕ) (ms all : List ℕ) → e.machine ≡ m → p m ≡ true → map (λ (e : Choice). e.machine) xs ++ filter p (m ∷ ms) ≡ all
    → map (λ (e : Choice). e.machine) (xs ++ e ∷ []) ++ filter p ms ≡ all
next_kept p xs e m ms all is kept before =
    let names = map (λ (e : Choice). e.machine) xs in
    ap (λ ys. ys ++ filter p ms) (map-append (λ (e : Choice). e.machine) xs (e ∷ []))
    ∙ append_assoc names (e.machine ∷ []) (filter p ms)
    ∙ ap (λ k. names ++ (k ∷ filter p ms)) is
    ∙ ap (λ ys. names ++ ys) (sym (filter_kept p m ms kept))
    ∙ before
