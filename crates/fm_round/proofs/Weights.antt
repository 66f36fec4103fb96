-- Sums over the rows of a map that pass a test of their keys.
use Rattle.std.proofs.Common.{◌≡◌, ℕ, ◌+◌, Bool, true, false, cond, List, [], ◌∷◌, Some, refl, sym, ◌∙◌, ap, subst, arith, length}
use Rattle.std.specs.Prelude.{filter, sum_by}
use Rattle.std.specs.Ordering.{nat_cmp, is_eq}
use Rattle.std.specs.Cmp.{Equal-is, nat_cmp_total}
use Rattle.std.specs.declared.cmp.Ordering.TheVariants.{Less, Equal}
use Rattle.std.proofs.lemmas.Cmp.{tied_itself}
use Rattle.std.proofs.lemmas.List.Sums.{sum_by-cons}
use Rattle.fm_lattice.specs.Chains.{by_order}
use Rattle.fm_lattice.specs.laws.ChainLaws.{nat_same, by_cases}
use Rattle.fm_lattice.specs.laws.MapLaws.{lookup_below, below_trans}
use Rattle.fm_lattice.specs.Maps.{lookup, put, IsBelow, IsRising}

not_below_itself : (t : ℕ) → nat_cmp t t ≡ Less → ⊥
not_below_itself t h = let same : nat_cmp t t ≡ Equal = tied_itself nat_cmp_total t in let no : ⊥ = cc in no

module _ {V : Type 0} where
  -- the sum of what the rows weigh whose keys pass the test
  abbrev pub weight : (V → ℕ) → (ℕ → Bool) → List (ℕ × V) → ℕ
  weight f test es = sum_by (λ e. cond (test e.0) (f e.1) 0) es

  weight_cons : (f : V → ℕ) (test : ℕ → Bool) (e : ℕ × V) (es : List (ℕ × V)) → weight f test (e ∷ es) ≡ cond (test e.0) (f e.1) 0 + weight f test es
  weight_cons f test e es = sum_by-cons (λ x. cond (test x.0) (f x.1) 0) e es

  -- the sum over the rows that pass, and their count
  pub picked : (f : V → ℕ) (test : ℕ → Bool) (es : List (ℕ × V)) → sum_by (λ e. f e.1) (filter (λ e. test e.0) es) ≡ weight f test es
  picked f test [] = refl
  picked f test (e ∷ es) =
      let rest = picked f test es in
      elim (test e.0) as (λ b. sum_by (λ x. f x.1) (cond b (e ∷ filter (λ x. test x.0) es) (filter (λ x. test x.0) es)) ≡ cond b (f e.1) 0 + weight f test es) [
        | true ↦ sum_by-cons (λ x. f x.1) e (filter (λ x. test x.0) es) ∙ ap (λ n. f e.1 + n) rest
        | false ↦ omega (arith, rest)
      ] ∙ sym (weight_cons f test e es)

  pub counted : (test : ℕ → Bool) (es : List (ℕ × V)) → length (filter (λ e. test e.0) es) ≡ weight (λ v. 1) test es
  counted test [] = refl
  counted test (e ∷ es) =
      let rest = counted test es in
      elim (test e.0) as (λ b. length (cond b (e ∷ filter (λ x. test x.0) es) (filter (λ x. test x.0) es)) ≡ cond b 1 0 + weight (λ v. 1) test es) [
        | true ↦ omega (arith, rest)
        | false ↦ omega (arith, rest)
      ] ∙ sym (weight_cons (λ v. 1) test e es)

  -- tests that agree except for a key that is below all
  agree_above : (f : V → ℕ) (test more : ℕ → Bool) (t : ℕ) (es : List (ℕ × V)) → ((q : ℕ) → (q ≡ t → ⊥) → more q ≡ test q) → IsBelow nat_cmp t es → weight f more es ≡ weight f test es
  agree_above f test more t [] agree below = refl
  agree_above f test more t (e ∷ es) agree below =
      let here : more e.0 ≡ test e.0 = agree e.0 (λ is. not_below_itself t (subst (λ z. nat_cmp t z ≡ Less) is below.0)) in
      let rest = agree_above f test more t es agree below.1 in
      weight_cons f more e es ∙ (λ i. cond (here i) (f e.1) 0 + rest i) ∙ sym (weight_cons f test e es)

  -- tests that agree except for one key, which has a value
  pub moved : (f : V → ℕ) (test more : ℕ → Bool) (t : ℕ) (v : V) (es : List (ℕ × V)) → IsRising nat_cmp es → ((q : ℕ) → (q ≡ t → ⊥) → more q ≡ test q) → lookup nat_cmp t es ≡ Some v → weight f more es + cond (test t) (f v) 0 ≡ weight f test es + cond (more t) (f v) 0
  moved f test more t v [] rising agree found = absurd (let no : ⊥ = cc in no)
  moved f test more t v (e ∷ es) rising agree found =
      let a = weight_cons f more e es in
      let b = weight_cons f test e es in
      elim (is_eq (nat_cmp t e.0)) as (λ c. is_eq (nat_cmp t e.0) ≡ c → cond c (Some e.1) (lookup nat_cmp t es) ≡ Some v → weight f more (e ∷ es) + cond (test t) (f v) 0 ≡ weight f test (e ∷ es) + cond (more t) (f v) 0) [
        | true ↦ λ yes is.
            let same : t ≡ e.0 = nat_same t e.0 ((Equal-is (nat_cmp t e.0)).0 yes) in
            let value : e.1 ≡ v = cc in
            let rest = agree_above f test more t es agree (subst (λ z. IsBelow nat_cmp z es) (sym same) rising.0) in
            let x : cond (more e.0) (f e.1) 0 ≡ cond (more t) (f v) 0 = λ i. cond (more (sym same i)) (f (value i)) 0 in
            let y : cond (test e.0) (f e.1) 0 ≡ cond (test t) (f v) 0 = λ i. cond (test (sym same i)) (f (value i)) 0 in
            omega (arith, a, b, rest, x, y)
        | false ↦ λ not is.
            let here : more e.0 ≡ test e.0 = agree e.0 (λ is. let back : is_eq (nat_cmp t e.0) ≡ true = subst (λ z. is_eq (nat_cmp t z) ≡ true) (sym is) (ap is_eq (tied_itself nat_cmp_total t)) in let no : ⊥ = cc in no) in
            let x : cond (more e.0) (f e.1) 0 ≡ cond (test e.0) (f e.1) 0 = ap (λ c. cond c (f e.1) 0) here in
            let rest = moved f test more t v es rising.1 agree is in
            omega (arith, a, b, rest, x)
      ] refl found

  nowhere : (t : ℕ) (e : ℕ × V) (es : List (ℕ × V)) (v : V) → nat_cmp t e.0 ≡ Less → IsBelow nat_cmp e.0 es → lookup nat_cmp t (e ∷ es) ≡ Some v → ⊥
  nowhere t e es v less below found =
      let none = lookup_below nat_cmp nat_cmp_total nat_same t es (below_trans nat_cmp nat_cmp_total nat_same t e.0 es less below) in
      let is : lookup nat_cmp t es ≡ Some v = ap (λ o. cond (is_eq o) (Some e.1) (lookup nat_cmp t es)) (sym less) ∙ found in
      let no : ⊥ = cc in no

  -- a value joined in at a key that is there, which weighs as much as before
  pub put_weighs : (join : V → V → V) (f : V → ℕ) (test : ℕ → Bool) (t : ℕ) (v w : V) (es : List (ℕ × V)) → IsRising nat_cmp es → lookup nat_cmp t es ≡ Some v → f (join v w) ≡ f v → weight f test (put nat_cmp join t w es) ≡ weight f test es
  put_weighs join f test t v w [] rising found same = absurd (let no : ⊥ = cc in no)
  put_weighs join f test t v w (e ∷ es) rising found same =
      by_cases (nat_cmp t e.0) (λ o. nat_cmp t e.0 ≡ o → weight f test (by_order o ((t, w) ∷ e ∷ es) ((e.0, join e.1 w) ∷ es) (e ∷ put nat_cmp join t w es)) ≡ weight f test (e ∷ es))
      (λ less _. absurd (nowhere t e es v less rising.0 found))
      (λ equal _.
      let value : e.1 ≡ v = (let is : Some e.1 ≡ Some v = ap (λ o. cond (is_eq o) (Some e.1) (lookup nat_cmp t es)) (sym equal) ∙ found in let s : e.1 ≡ v = cc in s) in
      let here : f (join e.1 w) ≡ f e.1 = ap (λ z. f (join z w)) value ∙ same ∙ ap f (sym value) in
      weight_cons f test (e.0, join e.1 w) es ∙ ap (λ n. cond (test e.0) n 0 + weight f test es) here ∙ sym (weight_cons f test e es))
      (λ greater _.
      let later : lookup nat_cmp t es ≡ Some v = ap (λ o. cond (is_eq o) (Some e.1) (lookup nat_cmp t es)) (sym greater) ∙ found in
      weight_cons f test e (put nat_cmp join t w es) ∙ ap (λ n. cond (test e.0) (f e.1) 0 + n) (put_weighs join f test t v w es rising.1 later same) ∙ sym (weight_cons f test e es))
      refl
