-- What a source gave, and why an input was not read (this project's profile).
use Rattle.std.specs.Prelude.{◌≡◌, ◌⊎◌, ℕ, ◌<◌, ◌≤◌, List, ◌++◌, length, take, Bool, true, Option}
use Rattle.std.specs.Io.KnownBytes.{Consumes, IsAtEnd}
use Rattle.fm_records.specs.declared.refusal.Refusal.{Refusal}
use Rattle.fm_records.specs.declared.refusal.Refusal.TheVariants.{OutOfMemory, BadScript}
use Rattle.fm_io.specs.Lines.{IsLine}

-- the source gave the first n bytes of the piece, and none of them only at its end or if there is no room
pub record SourceGives (old new : Option (List ℕ)) (n : ℕ) (piece : List ℕ) : Type 0 where
  pub consumed : Consumes old new (take n piece)
  pub at_end : n ≡ 0 → 0 < length piece → IsAtEnd new

-- bytes without a line feed, at most so many, were moved from the front of what remained to the end of a line
abbrev pub MovesAhead : Option (List ℕ) → Option (List ℕ) → List ℕ → List ℕ → ℕ → Type 0
MovesAhead old new line longer most = (bytes : List ℕ) × Consumes old new bytes × IsLine bytes × (length bytes ≤ most) × (longer ≡ line ++ bytes)

-- the most bytes of an input: 16 MiB
abbrev pub most_bytes : ℕ
most_bytes = 16777216

-- the source gave more bytes than an input may have
pub record IsTooLong (old new : Option (List ℕ)) : Type 0 where
  pub bytes : List ℕ
  pub consumed : Consumes old new bytes
  pub beyond : most_bytes < length bytes

-- why an input was not read: memory ran out, the source failed, or it gave too much
abbrev pub IsUnread : Refusal → Option (List ℕ) → Option (List ℕ) → Bool → Type 0
IsUnread refusal old new has_failed =
    (refusal ≡ OutOfMemory) ⊎ ((refusal ≡ BadScript 0) × ((has_failed ≡ true) ⊎ IsTooLong old new))

-- the two ends of a run: the bytes that the source had to give and has left, if they are known, and whether it has
-- failed; the bytes that the sink took before and after, if they are known, and whether it had failed and has
pub record Streams : Type 0 where
  pub given : Option (List ℕ)
  pub left : Option (List ℕ)
  pub source_failed : Bool
  pub old : Option (List ℕ)
  pub new : Option (List ℕ)
  pub had_failed : Bool
  pub has_failed : Bool
