-- Pairs by rising key, split at a key, and told anew at that key.
use Rattle.std.proofs.Common.{◌≡◌, ◌∙◌, ◌++◌, ◌∷◌, [], ℕ, List, Bool, true, false, cond, Option, Some, None, filter, option_map, ap, subst, refl}
use Rattle.std.specs.List.{cons_option}
use Rattle.std.specs.Ordering.{nat_cmp, is_eq, is_lt, is_gt}
use Rattle.std.specs.Cmp.{nat_cmp_total}
use Rattle.std.specs.declared.cmp.Ordering.{Ordering}
use Rattle.std.specs.declared.cmp.Ordering.TheVariants.{Less, Equal, Greater}
use Rattle.fm_lattice.specs.laws.ChainLaws.{by_cases, nat_same, less_greater, greater_less}
use Rattle.fm_lattice.specs.Maps.{lookup, IsBelow, IsRising}
use Rattle.fm_lattice.specs.laws.MapLaws.{below_trans}
use Rattle.fm_net.proofs.KeptLists.{lookup_kept, rising_kept}
use Rattle.fm_records.specs.Options.{when, and_then}
use Rattle.fm_tally.specs.inner.Sides.{is_under, is_over}

module _ {V : Type 0} where
  -- each key is under the key x
  abbrev pub AreUnder : ℕ → List (ℕ × V) → Type 0
  AreUnder x [] = Unit {0}
  AreUnder x (e ∷ es) = (nat_cmp e.0 x ≡ Less) × AreUnder x es

  -- keys that are all over x, or all under it

  pub none_under : (x : ℕ) (es : List (ℕ × V)) → IsBelow nat_cmp x es → filter (is_under x) es ≡ []
  none_under x [] b = refl
  none_under x (e ∷ es) b = rw (less_greater nat_cmp nat_cmp_total x e.0 b.0) (none_under x es b.1)

  pub all_over : (x : ℕ) (es : List (ℕ × V)) → IsBelow nat_cmp x es → filter (is_over x) es ≡ es
  all_over x [] b = refl
  all_over x (e ∷ es) b = rw (less_greater nat_cmp nat_cmp_total x e.0 b.0) (ap (λ xs. e ∷ xs) (all_over x es b.1))

  pub all_under : (x : ℕ) (es : List (ℕ × V)) → AreUnder x es → filter (is_under x) es ≡ es
  all_under x [] u = refl
  all_under x (e ∷ es) u = rw u.0 (ap (λ xs. e ∷ xs) (all_under x es u.1))

  pub none_over : (x : ℕ) (es : List (ℕ × V)) → AreUnder x es → filter (is_over x) es ≡ []
  none_over x [] u = refl
  none_over x (e ∷ es) u = rw u.0 (none_over x es u.1)

  -- the first pair of a rising list

  pub first_under : (x : ℕ) (e : ℕ × V) (es : List (ℕ × V)) → nat_cmp e.0 x ≡ Less → filter (is_under x) (e ∷ es) ≡ e ∷ filter (is_under x) es
  first_under x e es less = rw less refl

  pub first_not_over : (x : ℕ) (e : ℕ × V) (es : List (ℕ × V)) → nat_cmp e.0 x ≡ Less → filter (is_over x) (e ∷ es) ≡ filter (is_over x) es
  first_not_over x e es less = rw less refl

  below_of : (x : ℕ) (e : ℕ × V) (es : List (ℕ × V)) → nat_cmp e.0 x ≡ Equal → IsRising nat_cmp (e ∷ es) → IsBelow nat_cmp x es
  below_of x e es same r = subst (λ y. IsBelow nat_cmp y es) (nat_same e.0 x same) r.0

  pub met_under : (x : ℕ) (e : ℕ × V) (es : List (ℕ × V)) → nat_cmp e.0 x ≡ Equal → IsRising nat_cmp (e ∷ es) → filter (is_under x) (e ∷ es) ≡ []
  met_under x e es same r = rw same (none_under x es (below_of x e es same r))

  pub met_over : (x : ℕ) (e : ℕ × V) (es : List (ℕ × V)) → nat_cmp e.0 x ≡ Equal → IsRising nat_cmp (e ∷ es) → filter (is_over x) (e ∷ es) ≡ es
  met_over x e es same r = rw same (all_over x es (below_of x e es same r))

  pub beyond : (x : ℕ) (e : ℕ × V) (es : List (ℕ × V)) → nat_cmp e.0 x ≡ Greater → IsRising nat_cmp (e ∷ es) → IsBelow nat_cmp x (e ∷ es)
  beyond x e es greater r = let less = greater_less nat_cmp nat_cmp_total e.0 x greater in (less, below_trans nat_cmp nat_cmp_total nat_same x e.0 es less r.0)

  -- The pairs, told anew at x: with the value there, or with none.
  abbrev pub told_at : ℕ → Option V → List (ℕ × V) → List (ℕ × V)
  told_at x o es = filter (is_under x) es ++ cons_option (option_map (λ v. (x, v)) o) (filter (is_over x) es)

  under_kept : (x : ℕ) (es : List (ℕ × V)) → AreUnder x (filter (is_under x) es)
  under_kept x [] = tt
  under_kept x (e ∷ es) =
      let rest = under_kept x es in
      by_cases (nat_cmp e.0 x) (λ r. nat_cmp e.0 x ≡ r → AreUnder x (cond (is_lt r) (e ∷ filter (is_under x) es) (filter (is_under x) es)))
      (λ _ less. (less, rest)) (λ _ _. rest) (λ _ _. rest) refl

  over_kept : (x : ℕ) (es : List (ℕ × V)) → IsBelow nat_cmp x (filter (is_over x) es)
  over_kept x [] = tt
  over_kept x (e ∷ es) =
      let rest = over_kept x es in
      by_cases (nat_cmp e.0 x) (λ r. nat_cmp e.0 x ≡ r → IsBelow nat_cmp x (cond (is_gt r) (e ∷ filter (is_over x) es) (filter (is_over x) es)))
      (λ _ _. rest) (λ _ _. rest) (λ _ greater. (greater_less nat_cmp nat_cmp_total e.0 x greater, rest)) refl

  below_onto : (k : ℕ) (xs ys : List (ℕ × V)) → IsBelow nat_cmp k xs → IsBelow nat_cmp k ys → IsBelow nat_cmp k (xs ++ ys)
  below_onto k [] ys b c = c
  below_onto k (e ∷ xs) ys b c = (b.0, below_onto k xs ys b.1 c)

  rising_onto : (x : ℕ) (xs ys : List (ℕ × V)) → IsRising nat_cmp xs → AreUnder x xs → ((k : ℕ) → nat_cmp k x ≡ Less → IsBelow nat_cmp k ys) → IsRising nat_cmp ys → IsRising nat_cmp (xs ++ ys)
  rising_onto x [] ys r u below s = s
  rising_onto x (e ∷ xs) ys r u below s = (below_onto e.0 xs ys r.0 (below e.0 u.0), rising_onto x xs ys r.1 u.1 below s)

  rising_from : (x : ℕ) (o : Option V) (es : List (ℕ × V)) → IsBelow nat_cmp x es → IsRising nat_cmp es → IsRising nat_cmp (cons_option (option_map (λ v. (x, v)) o) es)
  rising_from x None es b r = r
  rising_from x (Some v) es b r = (b, r)

  below_from : (x k : ℕ) (o : Option V) (es : List (ℕ × V)) → IsBelow nat_cmp x es → nat_cmp k x ≡ Less → IsBelow nat_cmp k (cons_option (option_map (λ v. (x, v)) o) es)
  below_from x k None es b less = below_trans nat_cmp nat_cmp_total nat_same k x es less b
  below_from x k (Some v) es b less = (less, below_trans nat_cmp nat_cmp_total nat_same k x es less b)

  pub rising_told : (x : ℕ) (o : Option V) (es : List (ℕ × V)) → IsRising nat_cmp es → IsRising nat_cmp (told_at x o es)
  rising_told x o es r =
      let over = over_kept x es in
      rising_onto x (filter (is_under x) es) (cons_option (option_map (λ v. (x, v)) o) (filter (is_over x) es))
      (rising_kept nat_cmp nat_cmp_total nat_same (is_under x) es r)
      (under_kept x es)
      (λ k less. below_from x k o (filter (is_over x) es) over less)
      (rising_from x o (filter (is_over x) es) over (rising_kept nat_cmp nat_cmp_total nat_same (is_over x) es r))

  abbrev first_of_both : Option V → Option V → Option V
  first_of_both None p = p
  first_of_both (Some v) p = Some v

  lookup_onto : (q : ℕ) (xs ys : List (ℕ × V)) → lookup nat_cmp q (xs ++ ys) ≡ first_of_both (lookup nat_cmp q xs) (lookup nat_cmp q ys)
  lookup_onto q [] ys = refl
  lookup_onto q (e ∷ xs) ys =
      let rest = lookup_onto q xs ys in
      elim (is_eq (nat_cmp q e.0)) as (λ b. cond b (Some e.1) (lookup nat_cmp q (xs ++ ys)) ≡ first_of_both (cond b (Some e.1) (lookup nat_cmp q xs)) (lookup nat_cmp q ys)) [ true ↦ refl | false ↦ rest ]

  -- what is found over x, with x itself in front
  abbrev behind : Ordering → Option V → Option V → Option V
  behind r None p = and_then (λ v. when (is_gt r) v) p
  behind r (Some w) p = cond (is_eq r) (Some w) (and_then (λ v. when (is_gt r) v) p)

  lookup_from : (q x : ℕ) (o : Option V) (es : List (ℕ × V)) → IsRising nat_cmp es → lookup nat_cmp q (cons_option (option_map (λ v. (x, v)) o) (filter (is_over x) es)) ≡ behind (nat_cmp q x) o (lookup nat_cmp q es)
  lookup_from q x None es r = lookup_kept nat_cmp nat_cmp_total nat_same (is_over x) q es r
  lookup_from q x (Some w) es r = ap (λ p. cond (is_eq (nat_cmp q x)) (Some w) p) (lookup_kept nat_cmp nat_cmp_total nat_same (is_over x) q es r)

  met : (r : Ordering) (o p : Option V) → first_of_both (and_then (λ v. when (is_lt r) v) p) (behind r o p) ≡ cond (is_eq r) o p
  met Less None None = refl
  met Less (Some w) None = refl
  met Less o (Some v) = refl
  met Equal None None = refl
  met Equal None (Some v) = refl
  met Equal (Some w) None = refl
  met Equal (Some w) (Some v) = refl
  met Greater None None = refl
  met Greater None (Some v) = refl
  met Greater (Some w) None = refl
  met Greater (Some w) (Some v) = refl

  pub lookup_told : (q x : ℕ) (o : Option V) (es : List (ℕ × V)) → IsRising nat_cmp es → lookup nat_cmp q (told_at x o es) ≡ cond (is_eq (nat_cmp q x)) o (lookup nat_cmp q es)
  lookup_told q x o es r =
      lookup_onto q (filter (is_under x) es) (cons_option (option_map (λ v. (x, v)) o) (filter (is_over x) es))
      ∙ ap (λ p. first_of_both p (lookup nat_cmp q (cons_option (option_map (λ v. (x, v)) o) (filter (is_over x) es)))) (lookup_kept nat_cmp nat_cmp_total nat_same (is_under x) q es r)
      ∙ ap (λ p. first_of_both (and_then (λ v. when (is_lt (nat_cmp q x)) v) (lookup nat_cmp q es)) p) (lookup_from q x o es r)
      ∙ met (nat_cmp q x) o (lookup nat_cmp q es)

  -- In a walk: the pairs that were found are under x, and the rest is split at it.

  kept_onto : (p : ℕ × V → Bool) (xs ys : List (ℕ × V)) → filter p (xs ++ ys) ≡ filter p xs ++ filter p ys
  kept_onto p [] ys = refl
  kept_onto p (e ∷ xs) ys =
      let rest = kept_onto p xs ys in
      elim (p e) as (λ b. cond b (e ∷ filter p (xs ++ ys)) (filter p (xs ++ ys)) ≡ cond b (e ∷ filter p xs) (filter p xs) ++ filter p ys) [ true ↦ ap (λ zs. e ∷ zs) rest | false ↦ rest ]

  pub told_split : (x : ℕ) (o : Option V) (found rest : List (ℕ × V)) → AreUnder x found
      → told_at x o (found ++ rest) ≡ (found ++ filter (is_under x) rest) ++ cons_option (option_map (λ v. (x, v)) o) (filter (is_over x) rest)
  told_split x o found rest u =
      ap (λ xs. xs ++ cons_option (option_map (λ v. (x, v)) o) (filter (is_over x) (found ++ rest))) (kept_onto (is_under x) found rest ∙ ap (λ xs. xs ++ filter (is_under x) rest) (all_under x found u))
      ∙ ap (λ ys. (found ++ filter (is_under x) rest) ++ cons_option (option_map (λ v. (x, v)) o) ys) (kept_onto (is_over x) found rest ∙ ap (λ xs. xs ++ filter (is_over x) rest) (none_over x found u))

  -- what is found is under each later key

  under_later : (x y : ℕ) (es : List (ℕ × V)) → nat_cmp x y ≡ Less → AreUnder x es → AreUnder y es
  under_later x y [] less u = tt
  under_later x y (e ∷ es) less u = (nat_cmp_total.trans e.0 x y u.0 less, under_later x y es less u.1)

  under_onto : (y : ℕ) (xs ys : List (ℕ × V)) → AreUnder y xs → AreUnder y ys → AreUnder y (xs ++ ys)
  under_onto y [] ys u v = v
  under_onto y (e ∷ xs) ys u v = (u.0, under_onto y xs ys u.1 v)

  under_one : (x y : ℕ) (o : Option V) → nat_cmp x y ≡ Less → AreUnder y (cons_option (option_map (λ v. (x, v)) o) [])
  under_one x y None less = tt
  under_one x y (Some v) less = (less, tt)

  pub under_told : (x y : ℕ) (o : Option V) (found rest : List (ℕ × V)) → nat_cmp x y ≡ Less → AreUnder x found
      → AreUnder y ((found ++ filter (is_under x) rest) ++ cons_option (option_map (λ v. (x, v)) o) [])
  under_told x y o found rest less u =
      under_onto y (found ++ filter (is_under x) rest) (cons_option (option_map (λ v. (x, v)) o) [])
      (under_later x y (found ++ filter (is_under x) rest) less (under_onto x found (filter (is_under x) rest) u (under_kept x rest)))
      (under_one x y o less)

  pub rising_rest : (xs ys : List (ℕ × V)) → IsRising nat_cmp (xs ++ ys) → IsRising nat_cmp ys
  rising_rest [] ys r = r
  rising_rest (e ∷ xs) ys r = rising_rest xs ys r.1
