-- The tasks that are listed under a key, as a range of the pairs of keys and tasks. Own.
use Rattle.std.specs.Prelude.{ℕ, ◌^◌, ◌-◌, Bool, List, filter}
use Rattle.std.specs.List.{list_any}
use Rattle.std.specs.Ordering.{nat_cmp, is_eq}
use Rattle.std.specs.declared.cmp.Ordering.{Ordering}
use Rattle.std.specs.declared.ops.Bound.TheVariants.{Included}
use Rattle.std.specs.BTreeMap.Range.{range_contains}
use Rattle.fm_edit.specs.inner.TaskIndexParts.{pair_cmp}

-- the pairs of the key, of those whose task's id has 128 bits
abbrev pub listed_at : {K : Type 0} → (K → K → Ordering) → K → List (K × ℕ) → List (K × ℕ)
listed_at cmp n ps = filter (λ p. range_contains (pair_cmp cmp) (Included (n, 0)) (Included (n, 2 ^ 128 - 1)) p) ps

abbrev pub named_in : {K : Type 0} → List (K × ℕ) → ℕ → Bool
named_in ps t = list_any (λ p. is_eq (nat_cmp t p.1)) ps
