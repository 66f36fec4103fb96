-- Values that are there only where a test holds.
use Rattle.std.specs.Prelude.{Bool, false, cond, Option, Some, None}

-- the value if the test holds
abbrev pub when : {A : Type 0} → Bool → A → Option A
when b x = cond b (Some x) None

-- the value, if there is one, of what the function gives
abbrev pub and_then : {A B : Type 0} → (A → Option B) → Option A → Option B
and_then f None = None
and_then f (Some a) = f a

-- the value if it passes the test
abbrev pub only_if : {A : Type 0} → (A → Bool) → Option A → Option A
only_if test o = and_then (λ a. when (test a) a) o

-- there is a value, and it passes the test
abbrev pub passes : {A : Type 0} → (A → Bool) → Option A → Bool
passes test None = false
passes test (Some a) = test a

-- the value, or another if there is none
abbrev pub or_else : {A : Type 0} → A → Option A → A
or_else a None = a
or_else a (Some x) = x
