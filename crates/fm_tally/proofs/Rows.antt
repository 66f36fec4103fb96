-- The rows that are found of the entries of a rising list, by their keys.
use Rattle.std.proofs.Common.{◌≡◌, ◌∙◌, ◌+◌, ◌<◌, sym, ap, subst, refl, ℕ, cond, List, [], ◌∷◌, ◌++◌, Option, Some, None, option_map, length, get_or, take, drop}
use Rattle.std.proofs.lemmas.List.{drop_more, take-append-drop}
use Rattle.std.specs.List.{filter_map, cons_option}
use Rattle.std.specs.Ordering.{nat_cmp, is_eq}
use Rattle.std.specs.Cmp.{nat_cmp_total}
use Rattle.std.specs.declared.cmp.Ordering.TheVariants.{Less}
use Rattle.std.proofs.lemmas.Cmp.{tied_itself}
use Rattle.fm_lattice.specs.laws.ChainLaws.{by_cases, nat_same, less_greater}
use Rattle.fm_lattice.specs.Maps.{lookup, IsBelow, IsRising}
use Rattle.fm_records.specs.Sets.{with_value}

no_some : {A P : Type 0} {a : A} → None ≡ Some a → P
no_some e = absurd (let no : ⊥ = cc in no)

some_none : {A P : Type 0} {a : A} → Some a ≡ None → P
some_none e = absurd (let no : ⊥ = cc in no)

module _ {V : Type 0} where
  below_met : (k : ℕ) (xs ys : List (ℕ × V)) (e : ℕ × V) → IsBelow nat_cmp k (xs ++ e ∷ ys) → nat_cmp k e.0 ≡ Less
  below_met k [] ys e b = b.0
  below_met k (x ∷ xs) ys e b = below_met k xs ys e b.1

  -- what a walk comes upon is what is looked up
  pub lookup_met : (xs ys : List (ℕ × V)) (e : ℕ × V) → IsRising nat_cmp (xs ++ e ∷ ys) → lookup nat_cmp e.0 (xs ++ e ∷ ys) ≡ Some e.1
  lookup_met [] ys e r = rw (tied_itself nat_cmp_total e.0) refl
  lookup_met (x ∷ xs) ys e r = rw (less_greater nat_cmp nat_cmp_total x.0 e.0 (below_met x.0 xs ys e r.0)) (lookup_met xs ys e r.1)

  -- and so is what stands at a place
  pub met_at : (es : List (ℕ × V)) (i : ℕ) (e : ℕ × V) → IsRising nat_cmp es → i < length es → e ≡ get_or es i e → lookup nat_cmp e.0 es ≡ Some e.1
  met_at es i e r h is =
      let later = drop (i + 1) es in
      let left : drop i es ≡ e ∷ later = drop_more es i e h ∙ ap (λ x. x ∷ later) (sym is) in
      let whole : es ≡ take i es ++ e ∷ later = sym (take-append-drop i es) ∙ ap (λ xs. take i es ++ xs) left in
      subst (λ xs. lookup nat_cmp e.0 xs ≡ Some e.1) (sym whole) (lookup_met (take i es) later e (subst (IsRising nat_cmp) whole r))

  module _ {W : Type 0} (f : ℕ → Option W) where
    abbrev pub rows : List (ℕ × V) → List (ℕ × W)
    rows es = filter_map (λ e. with_value f e.0) es

    abbrev row : ℕ → Option W → List (ℕ × V) → List (ℕ × W)
    row x o es = cons_option (option_map (λ w. (x, w)) o) (rows es)

    below_rows : (k : ℕ) (es : List (ℕ × V)) → IsBelow nat_cmp k es → IsBelow nat_cmp k (rows es)
    below_rows k [] b = tt
    below_rows k (e ∷ es) b = elim (f e.0) as (λ o. IsBelow nat_cmp k (row e.0 o es)) [ None ↦ below_rows k es b.1 | Some w ↦ (b.0, below_rows k es b.1) ]

    pub rising_rows : (es : List (ℕ × V)) → IsRising nat_cmp es → IsRising nat_cmp (rows es)
    rising_rows [] r = tt
    rising_rows (e ∷ es) r = elim (f e.0) as (λ o. IsRising nat_cmp (row e.0 o es)) [ None ↦ rising_rows es r.1 | Some w ↦ (below_rows e.0 es r.0, rising_rows es r.1) ]

    absent : (q : ℕ) (es : List (ℕ × V)) → f q ≡ None → lookup nat_cmp q (rows es) ≡ None
    absent q [] e = refl
    absent q (x ∷ es) e =
        let rest = absent q es e in
        elim (f x.0) as (λ o. f x.0 ≡ o → lookup nat_cmp q (row x.0 o es) ≡ None) [
          | None ↦ λ _. rest
          | Some w ↦ λ g. by_cases (nat_cmp q x.0) (λ r. cond (is_eq r) (Some w) (lookup nat_cmp q (rows es)) ≡ None) (λ _. rest) (λ t. some_none (sym g ∙ ap f (sym (nat_same q x.0 t)) ∙ e)) (λ _. rest)
        ] refl

    present : (q : ℕ) (v : V) (w : W) (es : List (ℕ × V)) → lookup nat_cmp q es ≡ Some v → f q ≡ Some w → lookup nat_cmp q (rows es) ≡ Some w
    present q v w [] m e = no_some m
    present q v w (x ∷ es) m e =
        let rest = present q v w es in
        by_cases (nat_cmp q x.0) (λ r. cond (is_eq r) (Some x.1) (lookup nat_cmp q es) ≡ Some v → nat_cmp q x.0 ≡ r → lookup nat_cmp q (row x.0 (f x.0) es) ≡ Some w)
        (λ _ there is. elim (f x.0) as (λ o. lookup nat_cmp q (row x.0 o es) ≡ Some w) [ None ↦ rest there e | Some z ↦ rw is (rest there e) ])
        (λ t _ is. let found : f x.0 ≡ Some w = ap f (sym (nat_same q x.0 t)) ∙ e in subst (λ o. lookup nat_cmp q (row x.0 o es) ≡ Some w) (sym found) (rw is refl))
        (λ _ there is. elim (f x.0) as (λ o. lookup nat_cmp q (row x.0 o es) ≡ Some w) [ None ↦ rest there e | Some z ↦ rw is (rest there e) ])
        m refl

    -- at each key is what is found of it, where nothing is found of keys that the list has not
    pub lookup_rows : (es : List (ℕ × V)) (q : ℕ) → ((w : W) → f q ≡ Some w → (v : V) × (lookup nat_cmp q es ≡ Some v)) → lookup nat_cmp q (rows es) ≡ f q
    lookup_rows es q there = elim (f q) as (λ o. f q ≡ o → lookup nat_cmp q (rows es) ≡ o) [
      | None ↦ λ e. absent q es e
      | Some w ↦ λ e. let v = there w e in present q v.0 w es v.1 e
    ] refl
