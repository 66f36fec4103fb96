-- The tasks that are listed under a key are those between two pairs.
use Rattle.std.proofs.Common.{◌≡◌, ◌∙◌, ℕ, ◌-◌, ◌<◌, ◌^◌, Bool, true, false, cond, List, [], ◌∷◌, refl, sym, ap, subst, arith}
use Rattle.std.proofs.lemmas.Bool.Decides.{nat_tests}
use Rattle.std.specs.Prelude.{◌&&◌, ◌||◌, not}
use Rattle.std.specs.List.{list_any}
use Rattle.std.specs.Ordering.{nat_cmp, is_eq, is_le, is_lt, ordering_then}
use Rattle.std.specs.Cmp.{IsTotalOrder, nat_cmp_total, Equal-is}
use Rattle.std.specs.declared.cmp.Ordering.{Ordering}
use Rattle.std.specs.declared.cmp.Ordering.TheVariants.{Less}
use Rattle.std.specs.declared.ops.Bound.TheVariants.{Included}
use Rattle.std.specs.BTreeMap.Range.{range_contains}
use Rattle.std.proofs.lemmas.Cmp.{tied_itself}
use Rattle.fm_lattice.specs.laws.ChainLaws.{nat_same, pair_same, by_cases, less_greater, greater_less}
use Rattle.fm_lattice.specs.Chains.{TellsApart}
use Rattle.fm_edit.specs.inner.TaskIndexParts.{pair_cmp}
use Rattle.fm_edit.specs.inner.Listed.{listed_at, named_in}

pub less_said : (a b : ℕ) → nat_cmp a b ≡ Less → a < b
less_said a b e = grind (arith, nat_tests, e)

pub below_zero : (t : ℕ) → t < 0 → ⊥
below_zero t h = omega arith

too_large : (t : ℕ) → t < 2 ^ 128 → 2 ^ 128 - 1 < t → ⊥
too_large t h g = omega arith

module _ {K : Type 0} (cmp : K → K → Ordering) (total : IsTotalOrder cmp) (exact : TellsApart cmp) (n : K) (t : ℕ) (small : t < 2 ^ 128) where
  beyond : (a b : ℕ) → (a < b → ⊥) → is_lt (nat_cmp a b) ≡ false
  beyond a b h = by_cases (nat_cmp a b) (λ o. nat_cmp a b ≡ o → is_lt o ≡ false) (λ _ e. absurd (h (less_said a b e))) (λ _ _. refl) (λ _ _. refl) refl

  from_start : is_le (pair_cmp cmp (n, 0) (n, t)) ≡ true
  from_start = ap (λ o. is_le (ordering_then o (nat_cmp 0 t))) (tied_itself total n) ∙ by_cases (nat_cmp 0 t) (λ o. nat_cmp 0 t ≡ o → is_le o ≡ true) (λ _ _. refl) (λ _ _. refl) (λ _ e. absurd (below_zero t (less_said t 0 (greater_less nat_cmp nat_cmp_total 0 t e)))) refl

  to_end : is_lt (pair_cmp cmp (n, 2 ^ 128 - 1) (n, t)) ≡ false
  to_end = ap (λ o. is_lt (ordering_then o (nat_cmp (2 ^ 128 - 1) t))) (tied_itself total n) ∙ beyond (2 ^ 128 - 1) t (λ h. too_large t small h)

  within : range_contains (pair_cmp cmp) (Included (n, 0)) (Included (n, 2 ^ 128 - 1)) (n, t) ≡ true
  within = λ i. from_start i && not (to_end i)

  or_right : (a b : Bool) → b ≡ true → (a || b) ≡ true
  or_right true b h = refl
  or_right false b h = h

  pub listed_named : (ps : List (K × ℕ)) → list_any (λ p. is_eq (pair_cmp cmp (n, t) p)) ps ≡ true → named_in (listed_at cmp n ps) t ≡ true
  listed_named [] h = h
  listed_named (p ∷ ps) h =
      let rest = listed_named ps in
      elim (is_eq (pair_cmp cmp (n, t) p)) as (λ b. is_eq (pair_cmp cmp (n, t) p) ≡ b → (b || list_any (λ q. is_eq (pair_cmp cmp (n, t) q)) ps) ≡ true → named_in (listed_at cmp n (p ∷ ps)) t ≡ true) [
        | true ↦ λ e _.
            let is : (n, t) ≡ p = pair_same cmp nat_cmp exact nat_same (n, t) p ((Equal-is (pair_cmp cmp (n, t) p)).0 e) in
            subst (λ q. named_in (listed_at cmp n (q ∷ ps)) t ≡ true) is
            (ap (λ b. named_in (cond b ((n, t) ∷ listed_at cmp n ps) (listed_at cmp n ps)) t) within ∙ ap (λ o. is_eq o || named_in (listed_at cmp n ps) t) (tied_itself nat_cmp_total t))
        | false ↦ λ _ g.
            elim (range_contains (pair_cmp cmp) (Included (n, 0)) (Included (n, 2 ^ 128 - 1)) p) as (λ b. named_in (cond b (p ∷ listed_at cmp n ps) (listed_at cmp n ps)) t ≡ true) [
              | true ↦ or_right (is_eq (nat_cmp t p.1)) (named_in (listed_at cmp n ps) t) (rest g)
              | false ↦ rest g
            ]
      ] refl h

-- and those between the two pairs are listed under the key
module _ {K : Type 0} (cmp : K → K → Ordering) (total : IsTotalOrder cmp) (exact : TellsApart cmp) (n : K) (t : ℕ) where
  under : (p : K × ℕ) → range_contains (pair_cmp cmp) (Included (n, 0)) (Included (n, 2 ^ 128 - 1)) p ≡ true → n ≡ p.0
  under p h =
      by_cases (cmp n p.0) (λ o. cmp n p.0 ≡ o → (is_le (ordering_then o (nat_cmp 0 p.1)) && not (is_lt (ordering_then o (nat_cmp (2 ^ 128 - 1) p.1)))) ≡ true → n ≡ p.0)
      (λ _ _ g. absurd (let no : ⊥ = cc in no))
      (λ _ e _. exact n p.0 e)
      (λ _ _ g. absurd (let no : ⊥ = cc in no))
      refl h

  tied : (p : K × ℕ) → n ≡ p.0 → is_eq (nat_cmp t p.1) ≡ true → is_eq (pair_cmp cmp (n, t) p) ≡ true
  tied p same e = ap (λ m. is_eq (ordering_then (cmp n m) (nat_cmp t p.1))) (sym same) ∙ ap (λ o. is_eq (ordering_then o (nat_cmp t p.1))) (tied_itself total n) ∙ e

  or_either : {P : Type 0} (a b : Bool) → (a || b) ≡ true → (a ≡ true → P) → (b ≡ true → P) → P
  or_either true b h p q = p refl
  or_either false b h p q = q h

  or_first : (a b : Bool) → a ≡ true → (a || b) ≡ true
  or_first true b h = refl
  or_first false b h = absurd (let no : ⊥ = cc in no)

  or_rest : (a b : Bool) → b ≡ true → (a || b) ≡ true
  or_rest true b h = refl
  or_rest false b h = h

  pub named_listed : (ps : List (K × ℕ)) → named_in (listed_at cmp n ps) t ≡ true → list_any (λ p. is_eq (pair_cmp cmp (n, t) p)) ps ≡ true
  named_listed [] h = h
  named_listed (p ∷ ps) h =
      let first = is_eq (pair_cmp cmp (n, t) p) in
      let rest = list_any (λ q. is_eq (pair_cmp cmp (n, t) q)) ps in
      let later = named_listed ps in
      elim (range_contains (pair_cmp cmp) (Included (n, 0)) (Included (n, 2 ^ 128 - 1)) p) as (λ b. range_contains (pair_cmp cmp) (Included (n, 0)) (Included (n, 2 ^ 128 - 1)) p ≡ b → named_in (cond b (p ∷ listed_at cmp n ps) (listed_at cmp n ps)) t ≡ true → (first || rest) ≡ true) [
        | true ↦ λ e g. or_either (is_eq (nat_cmp t p.1)) (named_in (listed_at cmp n ps) t) g (λ same. or_first first rest (tied p (under p e) same)) (λ more. or_rest first rest (later more))
        | false ↦ λ _ g. or_rest first rest (later g)
      ] refl h

moved_by : (e a c : Bool) → (cond e true a || c) ≡ (a || (e || c))
moved_by true true c = refl
moved_by true false c = refl
moved_by false true c = refl
moved_by false false c = refl

pub swapped : (m x : ℕ) → is_eq (nat_cmp m x) ≡ is_eq (nat_cmp x m)
swapped m x =
    by_cases (nat_cmp m x) (λ o. nat_cmp m x ≡ o → is_eq o ≡ is_eq (nat_cmp x m))
    (λ _ l. sym (ap is_eq (less_greater nat_cmp nat_cmp_total m x l)))
    (λ _ u. let same = nat_same m x u in sym (ap (λ z. is_eq (nat_cmp z m)) (sym same) ∙ ap is_eq (tied_itself nat_cmp_total m)))
    (λ _ g. sym (ap is_eq (greater_less nat_cmp nat_cmp_total m x g)))
    refl

-- a task moves from those that are walked over to the set
pub moved : (x t : ℕ) (a c v : Bool) → v ≡ cond (is_eq (nat_cmp x t)) true a → (v || c) ≡ (a || (is_eq (nat_cmp t x) || c))
moved x t a c v e = ap (λ b. b || c) e ∙ ap (λ b. cond b true a || c) (swapped x t) ∙ moved_by (is_eq (nat_cmp t x)) a c
