-- Lists of keys that rise.
use Rattle.std.specs.Prelude.{◌≡◌, List, [], ◌∷◌}
use Rattle.std.specs.declared.cmp.Ordering.{Ordering}
use Rattle.std.specs.declared.cmp.Ordering.TheVariants.{Less}

module _ {K : Type 0} (cmp : K → K → Ordering) where
  -- the key is below all of the list
  abbrev pub IsBelowAll : K → List K → Type 0
  IsBelowAll k [] = Unit {0}
  IsBelowAll k (x ∷ xs) = (cmp k x ≡ Less) × IsBelowAll k xs

  abbrev pub Rises : List K → Type 0
  Rises [] = Unit {0}
  Rises (x ∷ xs) = IsBelowAll x xs × Rises xs
