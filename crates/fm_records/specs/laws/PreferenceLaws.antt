-- The order of preferences is total, and `==` of them is its; and what is preferred among the first of them.
use Rattle.std.specs.Prelude.{◌≡◌, ◌<◌, ℕ, zero, suc, ◌||◌, cond, true, false, is_some, List, [], ◌∷◌, Some, length, get_or, take, refl}
use Rattle.std.specs.Cmp.{IsTotalOrder, IsEquivalence, IsPartialOrder, partial_order_from_agreeing_total}
use Rattle.std.specs.Cmp.Rules.{comparing}
use Rattle.std.specs.Cmp.Lexicographic.{lists_ties}
use Rattle.std.specs.Ordering.{eq_by_cmp, as_partial_cmp, nat_cmp, is_eq}
use Rattle.std.proofs.Common.{rules, sym, ap, ◌∙◌, arith}
use Rattle.fm_lattice.specs.Maps.{lookup}
use Rattle.fm_records.specs.Preferences.{credit_cmp, credit_eq, preferences_cmp, preferences_eq}

pub total_preferences : IsTotalOrder preferences_cmp
total_preferences = Prim.search comparing

pub equal_preferences : IsEquivalence preferences_eq
equal_preferences = Prim.search comparing

credit_ties : (x y : ℕ × ℕ) → credit_eq x y ≡ eq_by_cmp credit_cmp x y
credit_ties = Prim.search (comparing, rules)

pub preferences_ties : (xs ys : List (ℕ × ℕ)) → preferences_eq xs ys ≡ eq_by_cmp preferences_cmp xs ys
preferences_ties = lists_ties credit_cmp credit_ties

pub partial_preferences : IsPartialOrder preferences_eq (as_partial_cmp preferences_cmp)
partial_preferences = partial_order_from_agreeing_total preferences_cmp total_preferences (Prim.search (comparing, rules)) preferences_ties

-- a machine is among the first entries and one more, if it is among the first or is that one's
pub one_more_preferred : (m : ℕ) (es : List (ℕ × ℕ)) (i : ℕ) (e : ℕ × ℕ) → i < length es → e ≡ get_or es i e → is_some (lookup nat_cmp m (take (suc i) es)) ≡ (is_eq (nat_cmp m e.0) || is_some (lookup nat_cmp m (take i es)))
one_more_preferred m [] i e h is = absurd (omega (arith, h))
one_more_preferred m (x ∷ es) zero e h is =
    (elim (is_eq (nat_cmp m x.0)) as (λ b. is_some (cond b (Some x.1) (lookup nat_cmp m (take zero es))) ≡ (b || is_some (lookup nat_cmp m (take zero es)))) [ true ↦ refl | false ↦ refl ])
    ∙ ap (λ (y : ℕ × ℕ). is_eq (nat_cmp m y.0) || is_some (lookup nat_cmp m (take zero es))) (sym is)
one_more_preferred m (x ∷ es) (suc i) e h is =
    let rest = one_more_preferred m es i e (omega (arith, h)) is in
    let last = is_eq (nat_cmp m e.0) in
    elim (is_eq (nat_cmp m x.0)) as (λ b. is_some (cond b (Some x.1) (lookup nat_cmp m (take (suc i) es))) ≡ (last || is_some (cond b (Some x.1) (lookup nat_cmp m (take i es))))) [
      | true ↦ elim last as (λ b. true ≡ (b || true)) [ true ↦ refl | false ↦ refl ]
      | false ↦ rest
    ]
