-- The length at the front of a frame.
use Rattle.std.specs.Prelude.{◌≡◌, ℕ, ◌<◌, ◌^◌, List, ◌++◌}
use Rattle.fm_store.specs.Frames.{length_field}

-- the bytes begin with the length of a record, and the sum of it
abbrev pub HasLength : List ℕ → Type 0
HasLength bytes = (n : ℕ) × (rest : List ℕ) × (n < 2 ^ 64) × (bytes ≡ length_field n ++ rest)
