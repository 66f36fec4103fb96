-- Lists with rising keys, of which some are kept or to which one is added.
use Rattle.std.specs.Prelude.{◌≡◌, Bool, true, false, cond, ◌&&◌, ◌||◌, List, [], ◌∷◌, Option, Some, None, filter, refl}
use Rattle.std.specs.List.{list_any}
use Rattle.std.specs.Ordering.{is_eq}
use Rattle.std.specs.Cmp.{IsTotalOrder}
use Rattle.std.specs.declared.cmp.Ordering.{Ordering}
use Rattle.std.specs.declared.cmp.Ordering.TheVariants.{Equal}
use Rattle.std.proofs.Common.{ap, ◌∙◌}
use Rattle.fm_lattice.specs.Chains.{TellsApart, by_order}
use Rattle.fm_lattice.specs.laws.ChainLaws.{by_cases}
use Rattle.fm_lattice.specs.Maps.{lookup, IsBelow, IsRising}
use Rattle.fm_lattice.specs.laws.MapLaws.{lookup_below}
use Rattle.fm_records.specs.Options.{when, and_then}
use Rattle.fm_records.specs.Sets.{insert_once}

module _ {K V : Type 0} (cmp : K → K → Ordering) (total : IsTotalOrder cmp) (same : TellsApart cmp) (p : K × V → Bool) where
  below_kept : (k : K) (es : List (K × V)) → IsBelow cmp k es → IsBelow cmp k (filter p es)
  below_kept k [] b = tt
  below_kept k (x ∷ es) b = elim (p x) as (λ c. IsBelow cmp k (cond c (x ∷ filter p es) (filter p es))) [ true ↦ (b.0, below_kept k es b.1) | false ↦ below_kept k es b.1 ]

  pub rising_kept : (es : List (K × V)) → IsRising cmp es → IsRising cmp (filter p es)
  rising_kept [] r = tt
  rising_kept (x ∷ es) r = elim (p x) as (λ c. IsRising cmp (cond c (x ∷ filter p es) (filter p es))) [ true ↦ (below_kept x.0 es r.0, rising_kept es r.1) | false ↦ rising_kept es r.1 ]

  abbrev kept_at : K → V → Option V
  kept_at q v = when (p (q, v)) v

  pub lookup_kept : (q : K) (es : List (K × V)) → IsRising cmp es → lookup cmp q (filter p es) ≡ and_then (kept_at q) (lookup cmp q es)
  lookup_kept q [] r = refl
  lookup_kept q (x ∷ es) r =
      let rest = lookup_kept q es r.1 in
      let pair : cmp q x.0 ≡ Equal → (q, x.1) ≡ x = λ t. let is = same q x.0 t in λ i. (is i, x.1) in
      elim (p x) as (λ b. p x ≡ b → lookup cmp q (cond b (x ∷ filter p es) (filter p es)) ≡ and_then (kept_at q) (cond (is_eq (cmp q x.0)) (Some x.1) (lookup cmp q es))) [
        | true ↦ λ e. by_cases (cmp q x.0) (λ o. cond (is_eq o) (Some x.1) (lookup cmp q (filter p es)) ≡ and_then (kept_at q) (cond (is_eq o) (Some x.1) (lookup cmp q es)))
            (λ _. rest)
            (λ t. let is : p (q, x.1) ≡ true = ap p (pair t) ∙ e in rw is refl)
            (λ _. rest)
        | false ↦ λ e. by_cases (cmp q x.0) (λ o. lookup cmp q (filter p es) ≡ and_then (kept_at q) (cond (is_eq o) (Some x.1) (lookup cmp q es)))
            (λ _. rest)
            (λ t.
            let is : p (q, x.1) ≡ false = ap p (pair t) ∙ e in
            let gone : lookup cmp q es ≡ None = rw (same q x.0 t) (lookup_below cmp total same x.0 es r.0) in
            rest ∙ rw (gone, is) refl)
            (λ _. rest)
      ] refl

-- Lists of rising keys.

module _ {K : Type 0} (cmp : K → K → Ordering) (total : IsTotalOrder cmp) (same : TellsApart cmp) where
  abbrev pub has : List K → K → Bool
  has xs k = list_any (λ x. is_eq (cmp k x)) xs

  pub has_kept : (p : K → Bool) (k : K) (xs : List K) → has (filter p xs) k ≡ (p k && has xs k)
  has_kept p k [] = elim (p k) as (λ b. false ≡ (b && false)) [ true ↦ refl | false ↦ refl ]
  has_kept p k (x ∷ xs) =
      let rest = has_kept p k xs in
      elim (p x) as (λ b. p x ≡ b → has (cond b (x ∷ filter p xs) (filter p xs)) k ≡ (p k && (is_eq (cmp k x) || has xs k))) [
        | true ↦ λ e. by_cases (cmp k x) (λ o. (is_eq o || has (filter p xs) k) ≡ (p k && (is_eq o || has xs k)))
            (λ _. rest)
            (λ t. let is : p k ≡ true = ap p (same k x t) ∙ e in rw is refl)
            (λ _. rest)
        | false ↦ λ e. by_cases (cmp k x) (λ o. has (filter p xs) k ≡ (p k && (is_eq o || has xs k)))
            (λ _. rest)
            (λ t. let is : p k ≡ false = ap p (same k x t) ∙ e in rw is (rest ∙ rw is refl))
            (λ _. rest)
      ] refl

  pub has_inserted : (n k : K) (xs : List K) → has (insert_once cmp n xs) k ≡ (is_eq (cmp k n) || has xs k)
  has_inserted n k [] = refl
  has_inserted n k (x ∷ xs) =
      let rest = has_inserted n k xs in
      by_cases (cmp n x) (λ o. has (by_order o (n ∷ x ∷ xs) (x ∷ xs) (x ∷ insert_once cmp n xs)) k ≡ (is_eq (cmp k n) || (is_eq (cmp k x) || has xs k)))
      (λ _. refl)
      (λ t. let is : n ≡ x = same n x t in rw is (elim (is_eq (cmp k x)) as (λ b. (b || has xs k) ≡ (b || (b || has xs k))) [ true ↦ refl | false ↦ refl ]))
      (λ _.
      rw rest (elim (is_eq (cmp k x)) as (λ b. (b || (is_eq (cmp k n) || has xs k)) ≡ (is_eq (cmp k n) || (b || has xs k))) [
        | true ↦ elim (is_eq (cmp k n)) as (λ c. true ≡ (c || true)) [ true ↦ refl | false ↦ refl ]
        | false ↦ refl
      ]))
