-- Members of the front of a list.
use Rattle.std.proofs.Common.{◌≡◌, ◌⊎◌, ℕ, zero, suc, ◌<◌, List, [], ◌∷◌, length, get_or, take, refl, inl, inr, arith}
use Rattle.fm_records.specs.Sets.{IsMember}

pub member_at : (xs : List ℕ) (i : ℕ) → i < length xs → IsMember (get_or xs i 0) xs
member_at [] i h = absurd (omega arith)
member_at (x ∷ xs) zero h = inl refl
member_at (x ∷ xs) (suc i) h = inr (member_at xs i (omega arith))

pub member_take : (r : ℕ) (xs : List ℕ) (i : ℕ) → i < length xs → IsMember r (take (suc i) xs) → IsMember r (take i xs) ⊎ (get_or xs i 0 ≡ r)
member_take r [] i h m = absurd (omega arith)
member_take r (x ∷ xs) zero h m = elim m [ inl e ↦ inr e | inr later ↦ absurd later ]
member_take r (x ∷ xs) (suc i) h m = elim m [
  | inl e ↦ inl (inl e)
  | inr later ↦ elim (member_take r xs i (omega arith) later) [ inl before ↦ inl (inr before) | inr e ↦ inr e ]
]
