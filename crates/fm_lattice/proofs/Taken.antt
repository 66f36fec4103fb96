-- Pairs whose keys rise: one that is taken out, and one that is put after the others.
use Rattle.std.proofs.Common.{◌≡◌, ℕ, zero, suc, ◌<◌, true, false, cond, List, [], ◌∷◌, length, get_or, take, refl, sym, ◌∙◌, ap, arith}
use Rattle.std.specs.List.{remove}
use Rattle.std.specs.Map.{remove_entry}
use Rattle.std.specs.BTreeMap.{is_at}
use Rattle.std.specs.Ordering.{is_eq}
use Rattle.std.specs.Cmp.{IsTotalOrder}
use Rattle.std.specs.declared.cmp.Ordering.{Ordering}
use Rattle.std.specs.declared.cmp.Ordering.TheVariants.{Less}
use Rattle.std.proofs.lemmas.Cmp.{tied_back, alike_right}
use Rattle.fm_lattice.specs.Chains.{TellsApart}
use Rattle.fm_lattice.specs.laws.ChainLaws.{less_greater, greater_less}
use Rattle.fm_lattice.specs.Maps.{IsBelow, IsRising, put}
use Rattle.fm_lattice.specs.inner.SortedVec.{HasKeyAt, IsInsertionIndex}
use Rattle.fm_lattice.proofs.Places.{below_at}

module _ {K V : Type 0} (cmp : K → K → Ordering) (total : IsTotalOrder cmp) (same : TellsApart cmp) where
  -- the pair at the key's place is the one that goes
  pub taken_at : (es : List (K × V)) (k : K) (i : ℕ) (d : K × V) → IsRising cmp es → HasKeyAt cmp es k i → remove es i ≡ remove_entry (is_at (cmp k)) es
  taken_at [] k i d r at = absurd (omega (arith, at.in_range))
  taken_at (e ∷ es) k zero d r at = rw (tied_back total e.0 k (at.has_key d)) refl
  taken_at (e ∷ es) k (suc i) d r at =
      let less : cmp e.0 k ≡ Less = sym (alike_right total (get_or es i d).0 k e.0 (at.has_key d)) ∙ below_at cmp total same e.0 es i d r.0 (omega (arith, at.in_range)) in
      rw (less_greater cmp total e.0 k less) (ap (λ z. e ∷ z) (taken_at es k i d r.1 (record { in_range = omega (arith, at.in_range); has_key = λ d. at.has_key d })))

  below_taken : (q k : K) (es : List (K × V)) → IsBelow cmp q es → IsBelow cmp q (remove_entry (is_at (cmp k)) es)
  below_taken q k [] b = b
  below_taken q k (e ∷ es) b = elim (is_eq (cmp k e.0)) as (λ t. IsBelow cmp q (cond t es (e ∷ remove_entry (is_at (cmp k)) es))) [ true ↦ b.1 | false ↦ (b.0, below_taken q k es b.1) ]

  pub rising_taken : (k : K) (es : List (K × V)) → IsRising cmp es → IsRising cmp (remove_entry (is_at (cmp k)) es)
  rising_taken k [] r = r
  rising_taken k (e ∷ es) r = elim (is_eq (cmp k e.0)) as (λ t. IsRising cmp (cond t es (e ∷ remove_entry (is_at (cmp k)) es))) [ true ↦ r.1 | false ↦ (below_taken e.0 k es r.0, rising_taken k es r.1) ]

  -- if the key is not there, nothing goes
  pub taken_gap : (es : List (K × V)) (k : K) (i : ℕ) → IsInsertionIndex cmp es k i → es ≡ remove_entry (is_at (cmp k)) es
  taken_gap [] k i gap = refl
  taken_gap (e ∷ es) k zero gap = rw (greater_less cmp total e.0 k (gap.after 0 e (omega arith) (omega arith))) (ap (λ z. e ∷ z) (taken_gap es k zero (record { in_range = omega arith; before = λ j d lt. absurd (omega arith); after = λ j d le lt. gap.after (suc j) d (omega arith) (omega arith) })))
  taken_gap (e ∷ es) k (suc i) gap = rw (less_greater cmp total e.0 k (gap.before 0 e (omega arith)))
      (ap (λ z. e ∷ z) (taken_gap es k i
      (record {
        in_range = omega (arith, gap.in_range);
        before = λ j d lt. gap.before (suc j) d (omega arith);
        after = λ j d le
            lt. gap.after (suc j) d (omega arith) (omega arith);
      })))

  -- the pair at a place goes after those before it
  pub put_next : (join : V → V → V) (es : List (K × V)) (i : ℕ) (d : K × V) → IsRising cmp es → i < length es → put cmp join (get_or es i d).0 (get_or es i d).1 (take i es) ≡ take (suc i) es
  put_next join [] i d r lt = absurd (omega arith)
  put_next join (e ∷ es) zero d r lt = refl
  put_next join (e ∷ es) (suc i) d r lt =
      rw (less_greater cmp total e.0 (get_or es i d).0 (below_at cmp total same e.0 es i d r.0 (omega arith))) (ap (λ z. e ∷ z) (put_next join es i d r.1 (omega arith)))
