-- The machines that a task prefers, each with a credit: their order, their range, and how a row keeps them (this
-- project's profile).
use Rattle.std.specs.Prelude.{◌&&◌, ℕ, Bool, true, nat_eq, nat_lt, List, [], ◌∷◌}
use Rattle.std.specs.Cmp.Lexicographic.{pointwise, slice_cmp}
use Rattle.std.specs.Ordering.{nat_cmp, on, then_cmp, eq_of_both}
use Rattle.std.specs.declared.cmp.Ordering.{Ordering}

-- by machine and then credit
abbrev pub credit_cmp : ℕ × ℕ → ℕ × ℕ → Ordering
credit_cmp = then_cmp (on (λ e. e.0) nat_cmp) (on (λ e. e.1) nat_cmp)

-- entry by entry; a list that begins another is the lesser
abbrev pub preferences_cmp : List (ℕ × ℕ) → List (ℕ × ℕ) → Ordering
preferences_cmp = slice_cmp credit_cmp

-- the same machine and the same credit
abbrev pub credit_eq : ℕ × ℕ → ℕ × ℕ → Bool
credit_eq = eq_of_both (on (λ e. e.0) nat_eq) (on (λ e. e.1) nat_eq)

-- the same entries in the same order
abbrev pub preferences_eq : List (ℕ × ℕ) → List (ℕ × ℕ) → Bool
preferences_eq = pointwise credit_eq

-- each machine is above the one before it
abbrev pub rises_above : ℕ → List (ℕ × ℕ) → Bool
rises_above m [] = true
rises_above m (e ∷ es) = nat_lt m e.0 && rises_above e.0 es

abbrev pub machines_rise : List (ℕ × ℕ) → Bool
machines_rise [] = true
machines_rise (e ∷ es) = rises_above e.0 es
