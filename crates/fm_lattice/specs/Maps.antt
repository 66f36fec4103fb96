-- Maps as lists of pairs whose keys rise, and their join.
use Rattle.std.specs.Prelude.{◌≡◌, cond, List, [], ◌∷◌, Option, Some, None}
use Rattle.std.specs.Ordering.{is_eq}
use Rattle.std.specs.declared.cmp.Ordering.{Ordering}
use Rattle.std.specs.declared.cmp.Ordering.TheVariants.{Less}
use Rattle.fm_lattice.specs.Chains.{by_order}
use Rattle.fm_lattice.specs.Joins.{option_join}

-- the value at the key
abbrev pub lookup : {K V : Type 0} → (K → K → Ordering) → K → List (K × V) → Option V
lookup cmp q [] = None
lookup cmp q (e ∷ es) = cond (is_eq (cmp q e.0)) (Some e.1) (lookup cmp q es)

-- the key is below each of the list
abbrev pub IsBelow : {K V : Type 0} → (K → K → Ordering) → K → List (K × V) → Type 0
IsBelow cmp k [] = Unit {0}
IsBelow cmp k (e ∷ es) = (cmp k e.0 ≡ Less) × IsBelow cmp k es

-- each key is below all later ones
abbrev pub IsRising : {K V : Type 0} → (K → K → Ordering) → List (K × V) → Type 0
IsRising cmp [] = Unit {0}
IsRising cmp (e ∷ es) = IsBelow cmp e.0 es × IsRising cmp es

-- each value is one that its type can have
abbrev pub AreValues : {K V : Type 0} → (V → Type 0) → List (K × V) → Type 0
AreValues is_value [] = Unit {0}
AreValues is_value (e ∷ es) = is_value e.1 × AreValues is_value es

-- the list is one that a map can have
pub record IsMap {K V : Type 0} (cmp : K → K → Ordering) (is_value : V → Type 0) (es : List (K × V)) : Type 0 where
  pub rising : IsRising cmp es
  pub values : AreValues is_value es

-- the map with the value joined in at the key
abbrev pub put : {K V : Type 0} → (K → K → Ordering) → (V → V → V) → K → V → List (K × V) → List (K × V)
put cmp join k v [] = (k, v) ∷ []
put cmp join k v (e ∷ es) = by_order (cmp k e.0) ((k, v) ∷ e ∷ es) ((e.0, join e.1 v) ∷ es) (e ∷ put cmp join k v es)

-- the map with each pair of the second joined in
abbrev pub map_join : {K V : Type 0} → (K → K → Ordering) → (V → V → V) → List (K × V) → List (K × V) → List (K × V)
map_join cmp join a [] = a
map_join cmp join a (e ∷ es) = map_join cmp join (put cmp join e.0 e.1 a) es

-- at each key the map r has the join of what x and y have there, and of one of them if only one has it
abbrev pub JoinsByKey : {K V : Type 0} → (K → K → Ordering) → (V → V → V) → List (K × V) → List (K × V) → List (K × V) → Type 0
JoinsByKey {K} cmp join x y r = (k : K) → lookup cmp k r ≡ option_join join (lookup cmp k x) (lookup cmp k y)

-- The two steps of a join in place: first the joined values, then the writes.

-- the later of two
abbrev pub keep_new : {V : Type 0} → V → V → V
keep_new old new = new
