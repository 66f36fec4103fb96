-- Where a key is among pairs whose keys rise.
use Rattle.std.specs.Prelude.{◌≡◌, ℕ, ◌<◌, ◌≤◌, List, length, slice_index_or}
use Rattle.std.specs.declared.cmp.Ordering.{Ordering}
use Rattle.std.specs.declared.cmp.Ordering.TheVariants.{Less, Equal, Greater}

-- the pair at place i has the key
pub record HasKeyAt {K V : Type 0} (cmp : K → K → Ordering) (es : List (K × V)) (k : K) (i : ℕ) : Type 0 where
  pub in_range : i < length es
  pub has_key : (d : K × V) → cmp (slice_index_or es i d).0 k ≡ Equal

-- the key would go at place i
pub record IsInsertionIndex {K V : Type 0} (cmp : K → K → Ordering) (es : List (K × V)) (k : K) (i : ℕ) : Type 0 where
  pub in_range : i ≤ length es
  pub before : (j : ℕ) (d : K × V) → j < i → cmp (slice_index_or es j d).0 k ≡ Less
  pub after : (j : ℕ) (d : K × V) → i ≤ j → j < length es → cmp (slice_index_or es j d).0 k ≡ Greater
