-- What bytes are read as: the records of whole frames, and the tail behind them (this project's profile).
use Rattle.std.specs.Prelude.{◌≡◌, ◌⊎◌, ℕ, ◌+◌, ◌<◌, ◌-◌, ◌^◌, nat_le, cond, List, [], ◌∷◌, ◌++◌, length, get_or}
use Rattle.fm_store.specs.Frames.{length_field, frame}
use Rattle.fm_store.specs.declared.frames.Tail.{Tail}
use Rattle.fm_store.specs.declared.frames.Tail.TheVariants.{Clean, Torn, Damaged}

-- the bytes begin with a frame
abbrev pub HasFrame : List ℕ → Type 0
HasFrame bytes = (r : List ℕ) × (rest : List ℕ) × (length r < 2 ^ 64) × (bytes ≡ frame r ++ rest)

-- the bytes may be a front of a frame: they are fewer than its length takes, or than it announces
abbrev pub IsShort : List ℕ → Type 0
IsShort bytes = (0 < length bytes) × ((length bytes < 16) ⊎ ((n : ℕ) × (rest : List ℕ) × (n < 2 ^ 64) × (bytes ≡ length_field n ++ rest) × (length rest < 33 + n)))

-- zeros, if any
abbrev pub AreZeros : List ℕ → Type 0
AreZeros bytes = (i : ℕ) → get_or bytes i 0 ≡ 0

-- the bytes may be what is left of a frame that was not written whole: a front of it, if any, and zeros, if any
abbrev pub IsTorn : List ℕ → Type 0
IsTorn bytes = (0 < length bytes) × (front : List ℕ) × (zeros : List ℕ) × (bytes ≡ front ++ zeros) × AreZeros zeros × ((front ≡ []) ⊎ IsShort front)

-- no frame begins here, for this reason: there are no more bytes; a frame was not written whole; or, since it is neither of these and no
-- frame, the bytes are damaged
abbrev pub IsTail : List ℕ → Tail → Type 0
IsTail bytes Clean = bytes ≡ []
IsTail bytes Torn = IsTorn bytes
IsTail bytes Damaged = (0 < length bytes) × (IsTorn bytes → ⊥) × (HasFrame bytes → ⊥)

-- the bytes are the frames of the records, and then a tail
abbrev pub IsReadAs : List ℕ → List (List ℕ) → Tail → Type 0
IsReadAs bytes [] tail = IsTail bytes tail
IsReadAs bytes (r ∷ rs) tail = (rest : List ℕ) × (length r < 2 ^ 64) × (bytes ≡ frame r ++ rest) × IsReadAs rest rs tail

-- each record has fewer bytes than 64 bits count, as any memory does
abbrev pub AreRecords : List (List ℕ) → Type 0
AreRecords [] = Unit {0}
AreRecords (r ∷ rs) = (length r < 2 ^ 64) × AreRecords rs

-- the records whose frames are within the first n bytes
abbrev pub whole_within : ℕ → List (List ℕ) → List (List ℕ)
whole_within n [] = []
whole_within n (r ∷ rs) = cond (nat_le (length (frame r)) n) (r ∷ whole_within (n - length (frame r)) rs) []
