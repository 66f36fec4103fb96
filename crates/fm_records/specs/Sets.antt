-- Lists as sets, the greatest and the least of a list, and lists of rising keys.
use Rattle.std.specs.Prelude.{◌≡◌, ◌⊎◌, List, [], ◌∷◌, ◌++◌, Option, Some, None, option_map}
use Rattle.std.specs.List.{filter_map}
use Rattle.std.specs.declared.cmp.Ordering.{Ordering}
use Rattle.fm_lattice.specs.Chains.{by_order}
use Rattle.fm_lattice.specs.Joins.{max_join, min_join, option_join}

-- m is a member of the list
abbrev pub IsMember : {R : Type 0} → R → List R → Type 0
IsMember m [] = ⊥
IsMember m (x ∷ xs) = (x ≡ m) ⊎ IsMember m xs

-- the lists have the same members: they are equal as sets
abbrev pub HaveSameMembers : {R : Type 0} → List R → List R → Type 0
HaveSameMembers {R} xs ys = ((x : R) → IsMember x xs → IsMember x ys) × ((x : R) → IsMember x ys → IsMember x xs)

-- the union of the sets
abbrev pub union : {R : Type 0} → List (List R) → List R
union [] = []
union (xs ∷ xss) = xs ++ union xss

-- the members of the list joined, none of an empty list
abbrev pub all_of : {R : Type 0} → (R → R → R) → List R → Option R
all_of join [] = None
all_of join (x ∷ xs) = option_join join (Some x) (all_of join xs)

-- the greatest of the list, none of an empty one
abbrev pub greatest : {R : Type 0} → (R → R → Ordering) → List R → Option R
greatest cmp = all_of (max_join cmp)

-- the least of the list, none of an empty one
abbrev pub least : {R : Type 0} → (R → R → Ordering) → List R → Option R
least cmp = all_of (min_join cmp)

-- the key at its place in a rising list, once
abbrev pub insert_once : {K : Type 0} → (K → K → Ordering) → K → List K → List K
insert_once cmp k [] = k ∷ []
insert_once cmp k (x ∷ xs) = by_order (cmp k x) (k ∷ x ∷ xs) (x ∷ xs) (x ∷ insert_once cmp k xs)

-- the members of the list, rising, each once
abbrev pub rising : {K : Type 0} → (K → K → Ordering) → List K → List K
rising cmp [] = []
rising cmp (x ∷ xs) = insert_once cmp x (rising cmp xs)

-- the key with its value, if it has one
abbrev pub with_value : {K V : Type 0} → (K → Option V) → K → Option (K × V)
with_value value_of k = option_map (λ v. (k, v)) (value_of k)

-- the table of the values at the keys of the list, keys rising
abbrev pub table : {K V : Type 0} → (K → K → Ordering) → List K → (K → Option V) → List (K × V)
table cmp ks value_of = filter_map (with_value value_of) (rising cmp ks)

-- the list, if it has a member
abbrev pub unless_empty : {R : Type 0} → List R → Option (List R)
unless_empty [] = None
unless_empty (x ∷ xs) = Some (x ∷ xs)
