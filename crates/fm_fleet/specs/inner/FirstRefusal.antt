-- The lesser of two, where either may be missing.
use Rattle.std.specs.Prelude.{ℕ, Option, Some, None, cond, nat_lt}

-- the lesser of two seats, of which the first may be missing
abbrev pub lesser_of : Option ℕ → ℕ → ℕ
lesser_of None s = s
lesser_of (Some k) s = cond (nat_lt k s) k s
