-- The values that a delta has at keys.
use Rattle.std.specs.Prelude.{◌≡◌, ℕ, Bool, List, [], ◌∷◌, Option, map}
use Rattle.std.specs.List.{list_any}
use Rattle.std.specs.Ordering.{nat_cmp, is_eq}

-- each of the keys with what the function gives there
abbrev pub values_at : {V : Type 0} → (ℕ → Option V) → List ℕ → List (ℕ × Option V)
values_at f ks = map (λ q. (q, f q)) ks

-- the key is among those of the values
abbrev pub has_value : {V : Type 0} → List (ℕ × Option V) → ℕ → Bool
has_value vs q = list_any (λ v. is_eq (nat_cmp q v.0)) vs

-- each value is what the function gives at its key
abbrev pub AreValuesOf : {V : Type 0} → (ℕ → Option V) → List (ℕ × Option V) → Type 0
AreValuesOf f [] = Unit {0}
AreValuesOf f (v ∷ vs) = (v.1 ≡ f v.0) × AreValuesOf f vs
