-- Total orders in which only a value and itself are equal: chains.
use Rattle.std.specs.Prelude.{◌≡◌}
use Rattle.std.specs.declared.cmp.Ordering.{Ordering}
use Rattle.std.specs.declared.cmp.Ordering.TheVariants.{Less, Equal, Greater}

-- one of three, by an order
abbrev pub by_order : {A : Type 0} → Ordering → A → A → A → A
by_order Less a b c = a
by_order Equal a b c = b
by_order Greater a b c = c

-- only a value and itself are equal
abbrev pub TellsApart : {K : Type 0} → (K → K → Ordering) → Type 0
TellsApart {K} cmp = (x y : K) → cmp x y ≡ Equal → x ≡ y
