-- What a row is once a list was written to its front, and how much it holds.
use Rattle.std.proofs.Common.{◌≤◌, ◌++◌, ℕ, List, [], ◌∷◌, length, take, drop, refl, ap, arith}
use Rattle.std.proofs.lemmas.List.{length-take}
use Rattle.fm_records.specs.inner.PreferenceEntries.{IsFilled}

pub row_filled : (l : List (ℕ × ℕ)) → length l ≤ 4 → IsFilled (length l) (l ++ drop (length l) ((0, 0) ∷ (0, 0) ∷ (0, 0) ∷ (0, 0) ∷ []))
row_filled [] h = record { counted = refl; rest = refl }
row_filled (a ∷ []) h = record { counted = refl; rest = refl }
row_filled (a ∷ b ∷ []) h = record { counted = refl; rest = refl }
row_filled (a ∷ b ∷ c ∷ []) h = record { counted = refl; rest = refl }
row_filled (a ∷ b ∷ c ∷ d ∷ []) h = record { counted = refl; rest = refl }
row_filled (a ∷ b ∷ c ∷ d ∷ e ∷ l) h = absurd (omega (arith, h))

pub row_few : (n : ℕ) (row : List (ℕ × ℕ)) → IsFilled n row → length (take n row) ≤ 4
row_few n row filled =
    let whole = length-take 4 (take n row ++ (0, 0) ∷ (0, 0) ∷ (0, 0) ∷ (0, 0) ∷ []) in
    omega (arith, length-take n row, ap length filled.rest, whole)
