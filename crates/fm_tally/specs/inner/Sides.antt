-- The two sides of a key.
use Rattle.std.specs.Prelude.{ℕ, Bool}
use Rattle.std.specs.Ordering.{nat_cmp, is_lt, is_gt}

abbrev pub is_under : {V : Type 0} → ℕ → ℕ × V → Bool
is_under key e = is_lt (nat_cmp e.0 key)

abbrev pub is_over : {V : Type 0} → ℕ → ℕ × V → Bool
is_over key e = is_gt (nat_cmp e.0 key)
