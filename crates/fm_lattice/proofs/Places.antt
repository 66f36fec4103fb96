-- What a search finds among pairs whose keys rise, and what an edit at that place does.
use Rattle.std.proofs.Common.{◌≡◌, ℕ, zero, suc, ◌<◌, ◌≤◌, List, [], ◌∷◌, length, get_or, set, Some, None, Result, Ok, Err, IfOk, IfErr, refl, sym, ◌∙◌, ap, subst, inl, inr, arith}
use Rattle.std.specs.List.{insert}
use Rattle.std.specs.List.Sorted.{IsSearchInRange, IsBinarySearchResult, IsNonDecreasingBy}
use Rattle.std.specs.Ordering.{ordering_index}
use Rattle.std.specs.Cmp.{IsTotalOrder}
use Rattle.std.specs.declared.cmp.Ordering.{Ordering}
use Rattle.std.specs.declared.cmp.Ordering.TheVariants.{Less, Equal, Greater}
use Rattle.std.proofs.lemmas.Cmp.{tied_back, alike_right}
use Rattle.std.proofs.lemmas.Bool.{cases_order}
use Rattle.fm_lattice.specs.Chains.{TellsApart}
use Rattle.fm_lattice.specs.laws.ChainLaws.{by_cases, less_greater, greater_less}
use Rattle.fm_lattice.specs.Maps.{lookup, IsBelow, IsRising, put}
use Rattle.fm_lattice.specs.inner.SortedVec.{HasKeyAt, IsInsertionIndex}

module _ {K : Type 0} (cmp : K → K → Ordering) (total : IsTotalOrder cmp) where
  index_le_two : (o : Ordering) → ordering_index o ≤ 2
  index_le_two Less = omega arith
  index_le_two Equal = omega arith
  index_le_two Greater = omega arith

  steps_up : (x y k : K) → cmp x y ≡ Less → ordering_index (cmp x k) ≤ ordering_index (cmp y k)
  steps_up x y k e =
      by_cases (cmp y k) (λ o. ordering_index (cmp x k) ≤ ordering_index o)
      (λ t. rw (total.trans x y k e t) (omega arith))
      (λ t. rw (sym (alike_right total y k x t) ∙ e) (omega arith))
      (λ t. index_le_two (cmp x k))

module _ {K V : Type 0} (cmp : K → K → Ordering) (total : IsTotalOrder cmp) (same : TellsApart cmp) where
  pub below_at : (k : K) (es : List (K × V)) (j : ℕ) (d : K × V) → IsBelow cmp k es → j < length es → cmp k (get_or es j d).0 ≡ Less
  below_at k [] j d b h = absurd (omega arith)
  below_at k (e ∷ es) zero d b h = b.0
  below_at k (e ∷ es) (suc j) d b h = below_at k es j d b.1 (omega arith)

  pub rising_at : (es : List (K × V)) (i j : ℕ) (d : K × V) → IsRising cmp es → i < j → j < length es → cmp (get_or es i d).0 (get_or es j d).0 ≡ Less
  rising_at [] i j d r h g = absurd (omega arith)
  rising_at (e ∷ es) i zero d r h g = absurd (omega arith)
  rising_at (e ∷ es) zero (suc j) d r h g = below_at e.0 es j d r.0 (omega arith)
  rising_at (e ∷ es) (suc i) (suc j) d r h g = rising_at es i j d r.1 (omega arith) (omega arith)

  pub searchable : (es : List (K × V)) (k : K) → IsRising cmp es → IsNonDecreasingBy (λ e. ordering_index (cmp e.0 k)) es
  searchable es k r i j d le h =
      elim (cases_order i j) [
        | inl e ↦ subst (λ z. ordering_index (cmp (get_or es i d).0 k) ≤ ordering_index (cmp (get_or es z d).0 k)) e (omega arith)
        | inr (inl less) ↦ steps_up cmp total (get_or es i d).0 (get_or es j d).0 k (rising_at es i j d r less h)
        | inr (inr more) ↦ absurd (omega arith)
      ]

  pub searched : (es : List (K × V)) (k : K) → IsRising cmp es → (r : Result ℕ ℕ) → IsSearchInRange r (length es) → IsBinarySearchResult (λ e. cmp e.0 k) es r → record { found : IfOk r (HasKeyAt cmp es k); absent : IfErr r (IsInsertionIndex cmp es k) }
  searched es k rising (Ok at) in_range equal = record { found = record { in_range = in_range; has_key = equal }; absent = tt }
  searched es k rising (Err at) in_range parted =
      let parts = parted (searchable es k rising) in
      record { found = tt; absent = record { in_range = in_range; before = λ j d lt. parts.0 j d (omega arith) lt; after = λ j d le lt. parts.1 j d le lt } }

  -- the key is found at its place
  pub lookup_at : (es : List (K × V)) (k : K) (i : ℕ) (d : K × V) → IsRising cmp es → HasKeyAt cmp es k i → lookup cmp k es ≡ Some (get_or es i d).1
  lookup_at [] k i d r at = absurd (omega (arith, at.in_range))
  lookup_at (e ∷ es) k zero d r at = rw (tied_back total e.0 k (at.has_key d)) refl
  lookup_at (e ∷ es) k (suc i) d r at =
      let less : cmp e.0 k ≡ Less = sym (alike_right total (get_or es i d).0 k e.0 (at.has_key d)) ∙ below_at e.0 es i d r.0 (omega (arith, at.in_range)) in
      rw (less_greater cmp total e.0 k less) (lookup_at es k i d r.1 (record { in_range = omega (arith, at.in_range); has_key = λ d. at.has_key d }))

  pub lookup_gap : (es : List (K × V)) (k : K) (i : ℕ) → IsInsertionIndex cmp es k i → lookup cmp k es ≡ None
  lookup_gap [] k i gap = refl
  lookup_gap (e ∷ es) k zero gap = rw (greater_less cmp total e.0 k (gap.after 0 e (omega arith) (omega arith))) (lookup_gap es k zero (record { in_range = omega arith; before = λ j d lt. absurd (omega arith); after = λ j d le lt. gap.after (suc j) d (omega arith) (omega arith) }))
  lookup_gap (e ∷ es) k (suc i) gap = rw (less_greater cmp total e.0 k (gap.before 0 e (omega arith))) (lookup_gap es k i (record { in_range = omega (arith, gap.in_range); before = λ j d lt. gap.before (suc j) d (omega arith); after = λ j d le lt. gap.after (suc j) d (omega arith) (omega arith) }))

  -- what `put` leaves at a key that is there, and at one that is not
  pub put_at : (join : V → V → V) (es : List (K × V)) (k : K) (v : V) (i : ℕ) (d : K × V) → IsRising cmp es → HasKeyAt cmp es k i → put cmp join k v es ≡ set es i ((get_or es i d).0, join (get_or es i d).1 v)
  put_at join [] k v i d r at = absurd (omega (arith, at.in_range))
  put_at join (e ∷ es) k v zero d r at = rw (tied_back total e.0 k (at.has_key d)) refl
  put_at join (e ∷ es) k v (suc i) d r at =
      let less : cmp e.0 k ≡ Less = sym (alike_right total (get_or es i d).0 k e.0 (at.has_key d)) ∙ below_at e.0 es i d r.0 (omega (arith, at.in_range)) in
      rw (less_greater cmp total e.0 k less) (ap (λ z. e ∷ z) (put_at join es k v i d r.1 (record { in_range = omega (arith, at.in_range); has_key = λ d. at.has_key d })))

  pub put_gap : (join : V → V → V) (es : List (K × V)) (k : K) (v : V) (i : ℕ) → IsInsertionIndex cmp es k i → put cmp join k v es ≡ insert es i (k, v)
  put_gap join [] k v zero gap = refl
  put_gap join [] k v (suc i) gap = refl
  put_gap join (e ∷ es) k v zero gap = rw (greater_less cmp total e.0 k (gap.after 0 e (omega arith) (omega arith))) refl
  put_gap join (e ∷ es) k v (suc i) gap = rw (less_greater cmp total e.0 k (gap.before 0 e (omega arith)))
      (ap (λ z. e ∷ z) (put_gap join es k v i
      (record {
        in_range = omega (arith, gap.in_range);
        before = λ j d lt. gap.before (suc j) d (omega arith);
        after = λ j d le
            lt. gap.after (suc j) d (omega arith) (omega arith);
      })))
