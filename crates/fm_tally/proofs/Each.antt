-- Pairs by rising key whose values are replaced, each by what is made of it; and one value replaced.
use Rattle.std.proofs.Common.{◌≡◌, ◌∙◌, ◌+◌, ℕ, Bool, true, false, cond, sym, ap, subst, refl, arith, List, [], ◌∷◌, Option, Some, None, option_map, map}
use Rattle.std.specs.Prelude.{◌==◌}
use Rattle.std.specs.Ordering.{nat_cmp, is_eq}
use Rattle.std.specs.Cmp.{nat_cmp_total}
use Rattle.std.proofs.lemmas.Bool.{eqb-true, eqb-false}
use Rattle.std.proofs.lemmas.Cmp.{tied_itself}
use Rattle.fm_lattice.specs.laws.ChainLaws.{by_cases, nat_same}
use Rattle.fm_lattice.specs.Joins.{option_join}
use Rattle.fm_lattice.specs.Maps.{lookup, put, keep_new, IsBelow, IsRising}
use Rattle.fm_lattice.specs.laws.MapLaws.{lookup_put}
use Rattle.fm_records.specs.Options.{or_else, passes}

module _ {V W : Type 0} (f : V → W) where
  abbrev pub each : List (ℕ × V) → List (ℕ × W)
  each es = map (λ e. (e.0, f e.1)) es

  below_each : (k : ℕ) (es : List (ℕ × V)) → IsBelow nat_cmp k es → IsBelow nat_cmp k (each es)
  below_each k [] b = tt
  below_each k (e ∷ es) b = (b.0, below_each k es b.1)

  pub rising_each : (es : List (ℕ × V)) → IsRising nat_cmp es → IsRising nat_cmp (each es)
  rising_each [] r = tt
  rising_each (e ∷ es) r = (below_each e.0 es r.0, rising_each es r.1)

  pub lookup_each : (es : List (ℕ × V)) (q : ℕ) → lookup nat_cmp q (each es) ≡ option_map f (lookup nat_cmp q es)
  lookup_each [] q = refl
  lookup_each (e ∷ es) q =
      let rest = lookup_each es q in
      elim (is_eq (nat_cmp q e.0)) as (λ b. cond b (Some (f e.1)) (lookup nat_cmp q (each es)) ≡ option_map f (cond b (Some e.1) (lookup nat_cmp q es))) [ true ↦ refl | false ↦ rest ]

apart : (a b : ℕ) → (a == b) ≡ false → is_eq (nat_cmp b a) ≡ false
apart a b differ = by_cases (nat_cmp b a) (λ r. is_eq r ≡ false) (λ _. refl) (λ t. absurd (eqb-false a b differ (sym (nat_same b a t)))) (λ _. refl)

join_replaced : {V : Type 0} (o : Option V) (v : V) → option_join keep_new o (Some v) ≡ Some v
join_replaced None v = refl
join_replaced (Some w) v = refl

join_none : {V : Type 0} (o : Option V) → option_join keep_new o None ≡ o
join_none None = refl
join_none (Some w) = refl

-- the value at key k is g
module _ {V : Type 0} (k : ℕ) (g : V) (es : List (ℕ × V)) (rising : IsRising nat_cmp es) where
  after : (m : ℕ) → lookup nat_cmp m (put nat_cmp keep_new k g es) ≡ cond (k == m) (Some g) (lookup nat_cmp m es)
  after m =
      lookup_put nat_cmp nat_cmp_total nat_same keep_new m k g es rising
      ∙ elim (k == m) as (λ b. (k == m) ≡ b → option_join keep_new (lookup nat_cmp m es) (cond (is_eq (nat_cmp m k)) (Some g) None) ≡ cond b (Some g) (lookup nat_cmp m es)) [
        | true ↦ λ yes. ap (λ b. option_join keep_new (lookup nat_cmp m es) (cond b (Some g) None)) (subst (λ z. is_eq (nat_cmp z k) ≡ true) (eqb-true k m yes) (ap is_eq (tied_itself nat_cmp_total k))) ∙ join_replaced (lookup nat_cmp m es) g
        | false ↦ λ differ. ap (λ b. option_join keep_new (lookup nat_cmp m es) (cond b (Some g) None)) (apart k m differ) ∙ join_none (lookup nat_cmp m es)
      ] refl

-- the value h at key k is replaced by g
module _ {V : Type 0} (k : ℕ) (h g : V) (es : List (ℕ × V)) (rising : IsRising nat_cmp es) (there : lookup nat_cmp k es ≡ Some h) where
  -- a number of the values that grows by r
  pub grown : (f : V → ℕ) (r : ℕ) → f g ≡ f h + r → (m : ℕ) → or_else 0 (option_map f (lookup nat_cmp m (put nat_cmp keep_new k g es))) ≡ or_else 0 (option_map f (lookup nat_cmp m es)) + cond (k == m) r 0
  grown f r more m =
      ap (λ o. or_else 0 (option_map f o)) (after k g es rising m)
      ∙ elim (k == m) as (λ b. (k == m) ≡ b → or_else 0 (option_map f (cond b (Some g) (lookup nat_cmp m es))) ≡ or_else 0 (option_map f (lookup nat_cmp m es)) + cond b r 0) [
        | true ↦ λ yes. more ∙ sym (ap (λ o. or_else 0 (option_map f o) + r) (subst (λ z. lookup nat_cmp z es ≡ Some h) (eqb-true k m yes) there))
        | false ↦ λ _. let same : or_else 0 (option_map f (lookup nat_cmp m es)) ≡ or_else 0 (option_map f (lookup nat_cmp m es)) + 0 = omega arith in same
      ] refl

  -- a test that both pass alike
  pub tested : (test : V → Bool) → test g ≡ test h → (m : ℕ) → passes test (lookup nat_cmp m (put nat_cmp keep_new k g es)) ≡ passes test (lookup nat_cmp m es)
  tested test alike m =
      ap (passes test) (after k g es rising m)
      ∙ elim (k == m) as (λ b. (k == m) ≡ b → passes test (cond b (Some g) (lookup nat_cmp m es)) ≡ passes test (lookup nat_cmp m es)) [
        | true ↦ λ yes. alike ∙ sym (ap (passes test) (subst (λ z. lookup nat_cmp z es ≡ Some h) (eqb-true k m yes) there))
        | false ↦ λ _. refl
      ] refl

-- a count at key k that grows by one
pub counted : (k n : ℕ) (es : List (ℕ × ℕ)) → IsRising nat_cmp es → or_else 0 (lookup nat_cmp k es) + 1 ≡ n → (m : ℕ) → or_else 0 (lookup nat_cmp m (put nat_cmp keep_new k n es)) ≡ or_else 0 (lookup nat_cmp m es) + cond (k == m) 1 0
counted k n es rising more m =
    ap (or_else 0) (after k n es rising m)
    ∙ elim (k == m) as (λ b. (k == m) ≡ b → or_else 0 (cond b (Some n) (lookup nat_cmp m es)) ≡ or_else 0 (lookup nat_cmp m es) + cond b 1 0) [
      | true ↦ λ yes. sym more ∙ ap (λ q. or_else 0 (lookup nat_cmp q es) + 1) (eqb-true k m yes)
      | false ↦ λ _. let same : or_else 0 (lookup nat_cmp m es) ≡ or_else 0 (lookup nat_cmp m es) + 0 = omega arith in same
    ] refl
