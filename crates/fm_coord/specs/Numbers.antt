-- Numbers of coordinators (this project's profile).
use Rattle.std.specs.Prelude.{ℕ, List, [], ◌∷◌}
use Rattle.fm_records.specs.Sets.{IsMember}

-- no two of the numbers are equal
abbrev pub AreDistinct : List ℕ → Type 0
AreDistinct [] = Unit {0}
AreDistinct (n ∷ ns) = (IsMember n ns → ⊥) × AreDistinct ns
