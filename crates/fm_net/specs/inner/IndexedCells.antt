-- An index that has the place of each key's cell.
use Rattle.std.specs.Prelude.{◌≡◌, ℕ, List, [], ◌∷◌, Option, Some, length}
use Rattle.std.specs.declared.cmp.Ordering.{Ordering}
use Rattle.slab.specs.Slab.{Slab, get, slab_len}
use Rattle.fm_lattice.specs.Maps.{IsRising}

-- each place has a cell of its key
abbrev pub EachHasCell : {K V : Type 0} → (ℕ → Option (K × V)) → List (K × ℕ) → Type 0
EachHasCell at [] = Unit {0}
EachHasCell {K} {V} at (e ∷ es) = ((v : V) × (at e.1 ≡ Some (e.0, v))) × EachHasCell at es

-- the keys of the index rise, and each has its cell
pub record AreInCells {K V : Type 0} (cmp : K → K → Ordering) (at : ℕ → Option (K × V)) (places : List (K × ℕ)) : Type 0 where
  pub rising : IsRising cmp places
  pub cells : EachHasCell at places

-- so it is, and no cell is left over
pub record AreKept {K V : Type 0} (cmp : K → K → Ordering) (cells : Slab (K × V)) (places : List (K × ℕ)) : Type 0 where
  pub indexed : AreInCells cmp (get cells) places
  pub no_more : slab_len cells ≡ length places

-- a clone is what was cloned
abbrev pub IsPlainClone : {X : Type 0} → (X → X → Type 0) → Type 0
IsPlainClone {X} is_clone = (x y : X) → is_clone x y → y ≡ x
