-- The joins of the constructors: the result of merging two values. Almeida, Shoker and Baquero, "Delta state
-- replicated data types": chains, products, lexicographic products and maps to lattices.
use Rattle.std.specs.Prelude.{◌≡◌, Option, Some, None}
use Rattle.std.specs.Ordering.{ord_max, ord_min}
use Rattle.std.specs.declared.cmp.Ordering.{Ordering}
use Rattle.fm_lattice.specs.Chains.{by_order}

-- the greater of two
abbrev pub max_join : {K : Type 0} → (K → K → Ordering) → K → K → K
max_join = ord_max

-- the lesser of two
abbrev pub min_join : {K : Type 0} → (K → K → Ordering) → K → K → K
min_join = ord_min

-- none is below every value; two values are joined
abbrev pub option_join : {V : Type 0} → (V → V → V) → Option V → Option V → Option V
option_join join None y = y
option_join join (Some v) None = Some v
option_join join (Some v) (Some w) = Some (join v w)

-- part by part
abbrev pub pair_join : {A B : Type 0} → (A → A → A) → (B → B → B) → A × B → A × B → A × B
pair_join join_a join_b x y = (join_a x.0 y.0, join_b x.1 y.1)

-- the one with the greater first part; if the first parts are equal, the second parts are joined
abbrev pub lex_join : {K V : Type 0} → (K → K → Ordering) → (V → V → V) → K × V → K × V → K × V
lex_join cmp join x y = by_order (cmp x.0 y.0) y (x.0, join x.1 y.1) x

-- Which values each constructor's type can have, from those that its parameters' types can have.

-- every one
abbrev pub Any : {V : Type 0} → V → Type 0
Any v = Unit {0}

-- what is there, if anything, is a value
abbrev pub IsOptionOf : {V : Type 0} → (V → Type 0) → Option V → Type 0
IsOptionOf is_value None = Unit {0}
IsOptionOf is_value (Some v) = is_value v

-- both parts are values
abbrev pub IsPairOf : {A B : Type 0} → (A → Type 0) → (B → Type 0) → A × B → Type 0
IsPairOf is_a is_b x = is_a x.0 × is_b x.1

-- the second part is a value
abbrev pub IsLexOf : {K V : Type 0} → (V → Type 0) → K × V → Type 0
IsLexOf is_value x = is_value x.1

-- The laws of a join, over the values that the type can have: with them it is a join-semilattice.
pub record JoinLaws {V : Type 0} (is_value : V → Type 0) (join : V → V → V) : Type 0 where
  pub closed : (x y : V) → is_value x → is_value y → is_value (join x y)
  pub assoc : (x y z : V) → is_value x → is_value y → is_value z → join (join x y) z ≡ join x (join y z)
  pub comm : (x y : V) → is_value x → is_value y → join x y ≡ join y x
  pub idem : (x : V) → is_value x → join x x ≡ x
