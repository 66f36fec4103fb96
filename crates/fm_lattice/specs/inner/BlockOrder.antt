-- Blocks of rising pairs: their first keys, which one a key goes to, and which the map has alone.
use Rattle.std.specs.Prelude.{◌≡◌, ◌<◌, ◌≤◌, Bool, true, ℕ, zero, suc, List, [], ◌∷◌, None, length, slice_index_or, vec_len, vec_capacity}
use Rattle.std.specs.declared.vec.Vec.{Vec}
use Rattle.std.specs.declared.cmp.Ordering.{Ordering}
use Rattle.std.specs.declared.cmp.Ordering.TheVariants.{Less}
use Rattle.fm_lattice.specs.Chains.{by_order}
use Rattle.fm_lattice.specs.Maps.{lookup, IsBelow, IsMap}
use Rattle.fm_lattice.specs.Stocks.{Stock}
use Rattle.fm_lattice.specs.Blocks.{pairs_of}

-- the first pair has the key
abbrev pub BeginsWith : {K V : Type 0} → K → List (K × V) → Type 0
BeginsWith k [] = ⊥
BeginsWith k (e ∷ es) = e.0 ≡ k

-- each block has pairs, and its key is that of the first
abbrev pub AreHeaded : {K V : Type 0} → List (K × Stock (K × V)) → Type 0
AreHeaded [] = Unit {0}
AreHeaded (b ∷ bs) = BeginsWith b.0 b.1.items × AreHeaded bs

-- the key is above each of the list
abbrev pub IsAbove : {K V : Type 0} → (K → K → Ordering) → K → List (K × V) → Type 0
IsAbove cmp k [] = Unit {0}
IsAbove cmp k (e ∷ es) = (cmp e.0 k ≡ Less) × IsAbove cmp k es

-- the key is above all keys in the blocks before place i, and below all keys in those after it
abbrev pub IsBlockOf : {K V : Type 0} → (K → K → Ordering) → K → List (K × Stock (K × V)) → ℕ → Type 0
IsBlockOf cmp k [] i = ⊥
IsBlockOf cmp k (b ∷ bs) zero = IsBelow cmp k (pairs_of bs)
IsBlockOf cmp k (b ∷ bs) (suc i) = IsAbove cmp k b.1.items × IsBlockOf cmp k bs i

-- the first of the blocks begins above the key, or there is none
abbrev pub BeginAbove : {K V : Type 0} → (K → K → Ordering) → K → List (K × V) → Type 0
BeginAbove cmp k [] = Unit {0}
BeginAbove cmp k (b ∷ bs) = cmp k b.0 ≡ Less

-- the key goes to the block at place i: the last that does not begin above it, or the first of all
abbrev pub IsBlockFor : {K V : Type 0} → (K → K → Ordering) → K → List (K × Stock (K × V)) → ℕ → Type 0
IsBlockFor cmp k [] i = ⊥
IsBlockFor cmp k (b ∷ bs) zero = IsBelow cmp k bs
IsBlockFor cmp k (b ∷ bs) (suc i) = (BeginAbove cmp k bs → ⊥) × IsBlockFor cmp k bs i

-- whether the last block that does not begin above the key is one that the map has alone; if each begins above it:
-- owned
abbrev pub is_owned_home : {K V : Type 0} → (K → K → Ordering) → K → Bool → List (K × Stock (K × V)) → Bool
is_owned_home cmp k owned [] = owned
is_owned_home cmp k owned (b ∷ bs) = by_order (cmp k b.0) owned (is_owned_home cmp k b.1.owned bs) (is_owned_home cmp k b.1.owned bs)

-- the map has the block alone that the key goes to
abbrev pub GoesToOwned : {K V : Type 0} → (K → K → Ordering) → List (K × Stock (K × V)) → K → Type 0
GoesToOwned cmp [] k = Unit {0}
GoesToOwned cmp (b ∷ bs) k = is_owned_home cmp k b.1.owned bs ≡ true

-- the map has each block alone that one of the changed keys goes to
abbrev pub GoToOwned : {K V C : Type 0} → (K → K → Ordering) → List (K × Stock (K × V)) → List ((K × V) × C) → Type 0
GoToOwned cmp bs [] = Unit {0}
GoToOwned cmp bs (c ∷ cs) = GoesToOwned cmp bs c.0.0 × GoToOwned cmp bs cs

-- the map has the block at place i alone
abbrev pub IsOwnedAt : {K V : Type 0} → List (K × Stock (K × V)) → ℕ → Type 0
IsOwnedAt {K} {V} bs i = (d : K × Stock (K × V)) → (slice_index_or bs i d).1.owned ≡ true

-- the block at place i has at least so many pairs
abbrev pub HasAt : {K V : Type 0} → ℕ → List (K × Stock (K × V)) → ℕ → Type 0
HasAt {K} {V} count bs i = (d : K × Stock (K × V)) → count ≤ length (slice_index_or bs i d).1.items

-- the key's block is at place i, and takes the key: the map has it alone, with room for one more pair unless the key is
-- there
pub record TakesKey {K V : Type 0} (cmp : K → K → Ordering) (k : K) (bs : List (K × Stock (K × V))) (i : ℕ) : Type 0 where
  pub is_block : IsBlockOf cmp k bs i
  pub owned : IsOwnedAt bs i
  pub room : lookup cmp k (pairs_of bs) ≡ None → (d : K × Stock (K × V)) → length (slice_index_or bs i d).1.items < (slice_index_or bs i d).1.room

-- an empty block with room for as many pairs
pub record IsSpare {X A : Type 0} (room : ℕ) (spare : Vec X A) : Type 0 where
  pub empty : vec_len spare ≡ 0
  pub fits : room ≤ vec_capacity spare

-- each pair has an empty block beside it, with room for so many pairs unless the key is in the map
abbrev pub HaveSpares : {K V A : Type 0} → (K → K → Ordering) → ℕ → List (K × V) → List ((K × V) × Vec (K × V) A) → Type 0
HaveSpares cmp room es [] = Unit {0}
HaveSpares cmp room es (c ∷ cs) = (vec_len c.1 ≡ 0) × (lookup cmp c.0.0 es ≡ None → room ≤ vec_capacity c.1) × HaveSpares cmp room es cs

-- the blocks keep the pairs of a map, and there are so many pairs
pub record IsKept {K V : Type 0} (cmp : K → K → Ordering) (is_value : V → Type 0) (bs : List (K × Stock (K × V))) (count : ℕ) : Type 0 where
  pub map : IsMap cmp is_value (pairs_of bs)
  pub headed : AreHeaded bs
  pub counted : count ≡ length (pairs_of bs)
