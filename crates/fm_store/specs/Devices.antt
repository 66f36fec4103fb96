-- What calls do to a file that grows at its end, and what a crash may leave of it (this project's profile).
use Rattle.std.specs.Prelude.{◌≡◌, ℕ, ◌≤◌, List, ◌++◌, take, Option, IfSome}
use Rattle.std.specs.Io.KnownBytes.{Appends}
use Rattle.fm_store.specs.Tails.{AreZeros}

-- a crash may leave this: a front of the content, with all that was on the disk, and then zeros, if any
pub record IsLeftByCrash (content : List ℕ) (synced : ℕ) (left : List ℕ) : Type 0 where
  pub count : ℕ
  pub zeros : List ℕ
  pub enough : synced ≤ count
  pub are_zeros : AreZeros zeros
  pub is : left ≡ take count content ++ zeros

-- a front of the bytes was added
pub record AppendsFront (old new : Option (List ℕ)) (bytes : List ℕ) : Type 0 where
  pub count : ℕ
  pub front : Appends old new (take count bytes)

-- the content, if it is known, is these bytes
abbrev pub HoldsBytes : Option (List ℕ) → List ℕ → Type 0
HoldsBytes content bytes = IfSome content (λ all. all ≡ bytes)
