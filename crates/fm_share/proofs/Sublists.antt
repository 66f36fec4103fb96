-- Lists of which some items are left out.
use Rattle.std.proofs.Common.{ℕ, Bool, true, false, cond, List, [], ◌∷◌, ◌++◌, Option, Some, None, refl, ◌∙◌, filter, inl, inr}
use Rattle.std.specs.Prelude.{nat_lt}
use Rattle.fm_round.specs.declared.plan.Place.{Place}
use Rattle.fm_share.specs.Shares.{IsSublist, count_on, first_on_each, at_most_on_each}

-- one more is left out
skipped : {A : Type 0} (y : A) (xs ys : List A) → IsSublist xs ys → IsSublist xs (y ∷ ys)
skipped y [] ys is = tt
skipped y (x ∷ xs) ys is = inr is

-- one more stays, or is left out
stays_or_not : {A : Type 0} (b : Bool) (y : A) (xs ys : List A) → IsSublist xs ys → IsSublist (cond b (y ∷ xs) xs) (y ∷ ys)
stays_or_not true y xs ys is = inl (refl, is)
stays_or_not false y xs ys is = skipped y xs ys is

-- what is left of what is left
both : {A : Type 0} (xs ys zs : List A) → IsSublist xs ys → IsSublist ys zs → IsSublist xs zs
both [] ys zs first second = tt
both (x ∷ xs) [] zs first second = absurd first
both (x ∷ xs) (y ∷ ys) [] first second = absurd second
both (x ∷ xs) (y ∷ ys) (z ∷ zs) first second =
    elim second [
      | inl here ↦ elim first [
        | inl met ↦ inl (met.0 ∙ here.0, both xs ys zs met.1 here.1)
        | inr later ↦ inr (both (x ∷ xs) ys zs later here.1)
      ]
      | inr there ↦ inr (both (x ∷ xs) (y ∷ ys) zs first there)
    ]

pub filtered : {A : Type 0} (test : A → Bool) (xs : List A) → IsSublist (filter test xs) xs
filtered test [] = tt
filtered test (x ∷ xs) = stays_or_not (test x) x (filter test xs) xs (filtered test xs)

first_are : (each : ℕ) (before later : List Place) → IsSublist (first_on_each each before later) later
first_are each before [] = tt
first_are each before (p ∷ later) =
    stays_or_not (nat_lt (count_on p.machine before) each) p (first_on_each each (before ++ p ∷ []) later) later (first_are each (before ++ p ∷ []) later)

-- the first on each machine of those that pass
pub limited : (limit : Option ℕ) (test : Place → Bool) (places : List Place) → IsSublist (at_most_on_each limit (filter test places)) places
limited None test places = filtered test places
limited (Some each) test places = both (first_on_each each [] (filter test places)) (filter test places) places (first_are each [] (filter test places)) (filtered test places)
