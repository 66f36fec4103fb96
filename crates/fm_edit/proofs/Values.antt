-- Values at keys that are set one by one, and lists that are walked over.
use Rattle.std.proofs.Common.{◌≡◌, ◌∙◌, ℕ, ◌+◌, ◌-◌, ◌^◌, ◌<◌, arith, Bool, true, false, cond, ◌||◌, ◌⊎◌, inl, inr, List, [], ◌∷◌, length, drop, get_or, suc, add-one, Option, refl, sym, ap, subst}
use Rattle.std.proofs.Math.Seq.{drop-cons}
use Rattle.std.specs.Prelude.{min}
use Rattle.std.specs.List.{AllByRecursion}
use Rattle.std.proofs.lemmas.List.Folds.{list_any_at}
use Rattle.std.specs.List.Sorted.{IsStrictlySortedBy}
use Rattle.std.specs.Ordering.{nat_cmp, is_eq}
use Rattle.std.specs.Cmp.{Equal-is, nat_cmp_total}
use Rattle.std.proofs.lemmas.Cmp.{tied_itself}
use Rattle.std.specs.declared.cmp.Ordering.{Ordering}
use Rattle.std.specs.declared.cmp.Ordering.TheVariants.{Less}
use Rattle.fm_lattice.specs.laws.ChainLaws.{nat_same}
use Rattle.std.specs.Map.{keys_of}
use Rattle.fm_lattice.specs.Maps.{lookup, IsBelow, IsRising}
use Rattle.fm_lattice.specs.laws.MapLaws.{same_map}
use Rattle.fm_records.specs.Rising.{IsBelowAll, Rises}
use Rattle.fm_edit.specs.Dirty.{has_id}
use Rattle.fm_edit.specs.inner.CachedValues.{values_at, has_value, AreValuesOf}

pub drop_next : {X : Type 0} (xs : List X) (i : ℕ) (x : X) → i < length xs → x ≡ get_or xs i x → drop i xs ≡ x ∷ drop (i + 1) xs
drop_next xs i x h e = drop-cons xs i x h ∙ ap (λ z. z ∷ drop (suc i) xs) (sym e) ∙ ap (λ n. x ∷ drop n xs) (sym (add-one i))

-- what a collection says of its order
module _ {K : Type 0} (cmp : K → K → Ordering) where
  below_all : (n : K) (ns : List K) → AllByRecursion (λ m. cmp n m ≡ Less) ns → IsBelowAll cmp n ns
  below_all n [] h = tt
  below_all n (m ∷ ns) h = (h.0, below_all n ns h.1)

  pub rises_said : (ns : List K) → IsStrictlySortedBy cmp ns → Rises cmp ns
  unfolding IsStrictlySortedBy
  rises_said [] h = tt
  rises_said (n ∷ ns) h = (below_all n ns h.0, rises_said ns h.1)

module _ {V : Type 0} (f : ℕ → Option V) where
  pub are_values : (qs : List ℕ) → AreValuesOf f (values_at f qs)
  are_values [] = tt
  are_values (q ∷ qs) = (refl, are_values qs)

  pub has_values : (qs : List ℕ) (q : ℕ) → has_value (values_at f qs) q ≡ has_id qs q
  has_values [] q = refl
  has_values (x ∷ qs) q = ap (λ b. is_eq (nat_cmp q x) || b) (has_values qs q)

  -- one more value is set
  module _ (vs : List (ℕ × Option V)) (i : ℕ) (v : ℕ × Option V) (here : i < length vs) (is : v ≡ get_or vs i v) (old new : ℕ → Option V) where
    pub value_set : AreValuesOf f (drop i vs) × ((q : ℕ) → has_value (drop i vs) q ≡ false → old q ≡ f q)
        → new v.0 ≡ v.1 → ((q : ℕ) → (is_eq (nat_cmp q v.0) || false) ≡ false → new q ≡ old q)
        → AreValuesOf f (drop (i + 1) vs) × ((q : ℕ) → has_value (drop (i + 1) vs) q ≡ false → new q ≡ f q)
    value_set before seen others =
        let split = drop_next vs i v here is in
        let are : AreValuesOf f (v ∷ drop (i + 1) vs) = subst (AreValuesOf f) split before.0 in (
          are.1,
          λ q h. elim (is_eq (nat_cmp q v.0)) as (λ b. is_eq (nat_cmp q v.0) ≡ b → new q ≡ f q) [
            | true ↦ λ e. let same : v.0 ≡ q = sym (nat_same q v.0 ((Equal-is (nat_cmp q v.0)).0 e)) in subst (λ z. new z ≡ f z) same (seen ∙ are.0)
            | false ↦ λ e. others q (ap (λ b. b || false) e) ∙ before.1 q (ap (λ xs. has_value xs q) split ∙ ap (λ b. b || has_value (drop (i + 1) vs) q) e ∙ h)
          ] refl,
        )

-- what holds of each id that was walked over
pub walked : (xs : List ℕ) (i x : ℕ) → i < length xs → x ≡ get_or xs i x → (P Q : ℕ → Type 0) → ((t : ℕ) → P t → Q t) → Q x
    → ((t : ℕ) → has_id xs t ≡ true → has_id (drop i xs) t ≡ false → P t) → (t : ℕ) → has_id xs t ≡ true → has_id (drop (i + 1) xs) t ≡ false → Q t
walked xs i x here is P Q keep new before t told rest =
    let split = drop_next xs i x here is in
    elim (is_eq (nat_cmp t x)) as (λ b. is_eq (nat_cmp t x) ≡ b → Q t) [
      | true ↦ λ e. subst Q (sym (nat_same t x ((Equal-is (nat_cmp t x)).0 e))) new
      | false ↦ λ e. keep t (before t told (ap (λ ys. has_id ys t) split ∙ ap (λ b. b || has_id (drop (i + 1) xs) t) e ∙ rest))
    ] refl

-- what was walked over is one of the ids
pub has_item : (xs : List ℕ) (i x : ℕ) → i < length xs → x ≡ get_or xs i x → has_id xs x ≡ true
has_item xs i x here is = list_any_at (λ y. is_eq (nat_cmp x y)) xs i x here (ap (λ y. is_eq (nat_cmp x y)) (sym is) ∙ ap is_eq (tied_itself nat_cmp_total x))

-- what is in after one was put was in before, or is that one
pub came_from : {P : Type 0} (b a v : Bool) → v ≡ cond b true a → v ≡ true → (a ≡ true → P) → (b ≡ true → P) → P
came_from true a v e h stayed put = put refl
came_from false a v e h stayed put = stayed (sym e ∙ h)

pub came_by : (P : ℕ → Type 0) (x t : ℕ) (a v : Bool) → v ≡ cond (is_eq (nat_cmp x t)) true a → v ≡ true → (a ≡ true → P t) → P x → P t
came_by P x t a v e h stayed put = came_from (is_eq (nat_cmp x t)) a v e h stayed (λ same. subst P (nat_same x t ((Equal-is (nat_cmp x t)).0 same)) put)

pub kept_true : (b a v : Bool) → v ≡ cond b true a → a ≡ true → v ≡ true
kept_true true a v e h = e
kept_true false a v e h = e ∙ h

pub put_true : (b a v : Bool) → b ≡ true → v ≡ cond b true a → v ≡ true
put_true true a v h e = e
put_true false a v h e = absurd (let no : ⊥ = cc in no)

pub put_itself : (x : ℕ) (a v : Bool) → v ≡ cond (is_eq (nat_cmp x x)) true a → v ≡ true
put_itself x a v e = put_true (is_eq (nat_cmp x x)) a v (ap is_eq (tied_itself nat_cmp_total x)) e

-- what was to come is in, once nothing is to come
pub came_in : (now before to_come all : Bool) → (now || to_come) ≡ (before || all) → to_come ≡ false → all ≡ true → now ≡ true
came_in true before to_come all e f g = refl
came_in false before to_come all e f g = sym f ∙ e ∙ ap (λ b. before || b) g ∙ elim before as (λ b. (b || true) ≡ true) [ true ↦ refl | false ↦ refl ]

-- what is in was in before, or was to come
pub came_of : (now before to_come all : Bool) → (now || to_come) ≡ (before || all) → now ≡ true → (before ≡ true) ⊎ (all ≡ true)
came_of now true to_come all e h = inl refl
came_of now false to_come all e h = inr (sym e ∙ ap (λ b. b || to_come) h)

-- a map that answers as a list with rising keys does is as long
module _ {V : Type 0} where
  below_entries : (n : ℕ) (es : List (ℕ × V)) → AllByRecursion (λ m. nat_cmp n m ≡ Less) (keys_of es) → IsBelow nat_cmp n es
  below_entries n [] h = tt
  below_entries n (e ∷ es) h = (h.0, below_entries n es h.1)

  rising_entries : (es : List (ℕ × V)) → IsStrictlySortedBy nat_cmp (keys_of es) → IsRising nat_cmp es
  unfolding IsStrictlySortedBy
  rising_entries [] h = tt
  rising_entries (e ∷ es) h = (below_entries e.0 es h.0, rising_entries es h.1)

  pub as_many : (es fs : List (ℕ × V)) → IsStrictlySortedBy nat_cmp (keys_of es) → IsRising nat_cmp fs → ((q : ℕ) → lookup nat_cmp q es ≡ lookup nat_cmp q fs) → length es ≡ length fs
  as_many es fs sorted rise alike = ap length (same_map nat_cmp nat_cmp_total nat_same es fs (rising_entries es sorted) rise alike)

-- a count that stops at its end, after one more
pub also_counted : (first i now : ℕ) → now ≡ min (first + i) (2 ^ 64 - 1) → min (now + 1) (2 ^ 64 - 1) ≡ min (first + (i + 1)) (2 ^ 64 - 1)
also_counted first i now is = omega (arith, is)
