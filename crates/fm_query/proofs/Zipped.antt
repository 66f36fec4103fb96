-- Two lists side by side.
use Rattle.std.proofs.Common.{◌≡◌, ◌⊎◌, List, [], ◌∷◌, ap, refl, inl, inr}
use Rattle.std.specs.List.{zip}

-- where one has ended, no pair is left
pub none_left : {A B : Type 0} (xs : List A) (ys : List B) → (xs ≡ []) ⊎ (ys ≡ []) → zip xs ys ≡ []
none_left xs ys (inl e) = ap (λ zs. zip zs ys) e
none_left [] ys (inr e) = refl
none_left (x ∷ xs) ys (inr e) = ap (zip (x ∷ xs)) e
