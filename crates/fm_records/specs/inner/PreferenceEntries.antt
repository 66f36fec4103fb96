-- The four entries that preferences are kept in.
use Rattle.std.specs.Prelude.{◌≡◌, ◌++◌, ℕ, List, [], ◌∷◌, length, take}

-- the list, and after it zeros up to four entries
abbrev pub four_entries : List (ℕ × ℕ) → List (ℕ × ℕ)
four_entries l = take 4 (l ++ (0, 0) ∷ (0, 0) ∷ (0, 0) ∷ (0, 0) ∷ [])

-- a row of four, of which the first n are listed and the others are zeros
pub record IsFilled (n : ℕ) (row : List (ℕ × ℕ)) : Type 0 where
  pub counted : length (take n row) ≡ n
  pub rest : row ≡ four_entries (take n row)
