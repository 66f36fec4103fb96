-- How records are kept in a file: in frames, one after another (this project's profile).
use Rattle.std.specs.Prelude.{ℕ, List, [], ◌∷◌, ◌++◌, length, take}
use Rattle.std.specs.Int.{w64, to_be_bytes}
use Rattle.sha2.specs.Sha256.{sha256}

-- the length of a record in eight bytes, the most significant first, and the first eight bytes of their SHA-256 (FIPS 180-4)
unfoldable pub length_field : ℕ → List ℕ
length_field n = to_be_bytes w64 n ++ take 8 (sha256 (to_be_bytes w64 n))

-- the frame of a record: its length, its SHA-256, its bytes, and 255, so that no frame ends in a zero
unfoldable pub frame : List ℕ → List ℕ
frame bytes = length_field (length bytes) ++ (sha256 bytes ++ (bytes ++ 255 ∷ []))

-- the frames of the records, one after another
abbrev pub frames : List (List ℕ) → List ℕ
frames [] = []
frames (r ∷ rs) = frame r ++ frames rs
