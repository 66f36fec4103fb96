-- The laws of the join of maps.
use Rattle.std.specs.Prelude.{◌≡◌, true, false, cond, List, [], ◌∷◌, Option, Some, None, option_map, map, refl}
use Rattle.std.specs.Ordering.{is_eq}
use Rattle.std.specs.Cmp.{IsTotalOrder}
use Rattle.std.proofs.lemmas.Cmp.{tied_itself, tied_back}
use Rattle.std.specs.declared.cmp.Ordering.{Ordering}
use Rattle.std.specs.declared.cmp.Ordering.TheVariants.{Less, Equal, Greater}
use Rattle.std.proofs.Common.{sym, ap, ◌∙◌, subst}
use Rattle.fm_lattice.specs.Chains.{TellsApart, by_order}
use Rattle.fm_lattice.specs.laws.ChainLaws.{by_cases, less_greater, greater_less}
use Rattle.fm_lattice.specs.Joins.{JoinLaws, option_join, IsOptionOf}
use Rattle.fm_lattice.specs.laws.PlainLaws.{option_laws}
use Rattle.fm_lattice.specs.Maps.{lookup, IsBelow, IsRising, AreValues, IsMap, put, map_join, keep_new}
use Rattle.fm_lattice.specs.inner.JoinedPairs.{joined_onto, joined_pair}

join_none : {V : Type 0} (join : V → V → V) (o : Option V) → option_join join o None ≡ o
join_none join None = refl
join_none join (Some v) = refl

module _ {K V : Type 0} (cmp : K → K → Ordering) (total : IsTotalOrder cmp) (same : TellsApart cmp) where
  -- what is below a key is below what that key is below
  pub below_trans : (k q : K) (es : List (K × V)) → cmp k q ≡ Less → IsBelow cmp q es → IsBelow cmp k es
  below_trans k q [] e b = tt
  below_trans k q (x ∷ es) e b = (total.trans k q x.0 e b.0, below_trans k q es e b.1)

  -- a key below all is not there
  pub lookup_below : (q : K) (es : List (K × V)) → IsBelow cmp q es → lookup cmp q es ≡ None
  lookup_below q [] b = refl
  lookup_below q (e ∷ es) b = rw b.0 (lookup_below q es b.1)

  pub lookup_value : (is_value : V → Type 0) (q : K) (es : List (K × V)) → AreValues is_value es → IsOptionOf is_value (lookup cmp q es)
  lookup_value is_value q [] p = tt
  lookup_value is_value q (e ∷ es) p = elim (is_eq (cmp q e.0)) as (λ b. IsOptionOf is_value (cond b (Some e.1) (lookup cmp q es))) [ true ↦ p.0 | false ↦ lookup_value is_value q es p.1 ]

  -- maps that answer alike are the same
  same_tail : (e : K × V) (xs ys : List (K × V)) → IsBelow cmp e.0 xs → IsBelow cmp e.0 ys → ((q : K) → lookup cmp q (e ∷ xs) ≡ lookup cmp q (e ∷ ys)) → (q : K) → lookup cmp q xs ≡ lookup cmp q ys
  same_tail e xs ys bx by alike q =
      by_cases (cmp q e.0) (λ r. cond (is_eq r) (Some e.1) (lookup cmp q xs) ≡ cond (is_eq r) (Some e.1) (lookup cmp q ys) → lookup cmp q xs ≡ lookup cmp q ys)
      (λ _ h. h)
      (λ t h. let is : q ≡ e.0 = same q e.0 t in rw (is, lookup_below e.0 xs bx, lookup_below e.0 ys by) refl)
      (λ _ h. h)
      (alike q)

  some_none : (v : V) → Some v ≡ None → ⊥
  some_none v e = cc

  inside : (v w : V) → Some v ≡ Some w → v ≡ w
  inside v w e = cc

  pub same_map : (xs ys : List (K × V)) → IsRising cmp xs → IsRising cmp ys → ((q : K) → lookup cmp q xs ≡ lookup cmp q ys) → xs ≡ ys
  same_map [] [] p r alike = refl
  same_map [] (y ∷ ys) p r alike = absurd (some_none y.1 (sym (rw (tied_itself total y.0) at (alike y.0))))
  same_map (x ∷ xs) [] p r alike = absurd (some_none x.1 (rw (tied_itself total x.0) at (alike x.0)))
  same_map (x ∷ xs) (y ∷ ys) p r alike =
      by_cases (cmp x.0 y.0) (λ o. cmp x.0 y.0 ≡ o → x ∷ xs ≡ y ∷ ys)
      (λ _ e. absurd (some_none x.1 (rw (tied_itself total x.0, lookup_below x.0 (y ∷ ys) (e, below_trans x.0 y.0 ys e r.0)) at (alike x.0))))
      (λ _ e.
      let key : x.0 ≡ y.0 = same x.0 y.0 e in
      let value : x.1 ≡ y.1 = inside x.1 y.1 (rw (tied_itself total x.0, e) at (alike x.0)) in
      let pair : x ≡ y = λ i. (key i, value i) in
      let alike2 : (q : K) → lookup cmp q (x ∷ xs) ≡ lookup cmp q (x ∷ ys) = subst (λ z. (q : K) → lookup cmp q (x ∷ xs) ≡ lookup cmp q (z ∷ ys)) (sym pair) alike in
      let tails = same_map xs ys p.1 r.1 (same_tail x xs ys p.0 (subst (λ z. IsBelow cmp z ys) (sym key) r.0) alike2) in
      λ i. pair i ∷ tails i)
      (λ _ e. let f = greater_less cmp total x.0 y.0 e in absurd (some_none y.1 (sym (rw (tied_itself total y.0, lookup_below y.0 (x ∷ xs) (f, below_trans y.0 x.0 xs f p.0)) at (alike y.0)))))
      refl

  module _ (join : V → V → V) where
    pub below_put : (k q : K) (v : V) (es : List (K × V)) → cmp k q ≡ Less → IsBelow cmp k es → IsBelow cmp k (put cmp join q v es)
    below_put k q v [] e b = (e, tt)
    below_put k q v (x ∷ es) e b =
        by_cases (cmp q x.0) (λ o. IsBelow cmp k (by_order o ((q, v) ∷ x ∷ es) ((x.0, join x.1 v) ∷ es) (x ∷ put cmp join q v es)))
        (λ _. (e, b)) (λ _. b) (λ _. (b.0, below_put k q v es e b.1))

    pub rising_put : (q : K) (v : V) (es : List (K × V)) → IsRising cmp es → IsRising cmp (put cmp join q v es)
    rising_put q v [] r = (tt, tt)
    rising_put q v (x ∷ es) r =
        by_cases (cmp q x.0) (λ o. IsRising cmp (by_order o ((q, v) ∷ x ∷ es) ((x.0, join x.1 v) ∷ es) (x ∷ put cmp join q v es)))
        (λ e. ((e, below_trans q x.0 es e r.0), r)) (λ _. r) (λ e. (below_put x.0 q v es (greater_less cmp total q x.0 e) r.0, rising_put q v es r.1))

    pub lookup_put : (q k : K) (v : V) (es : List (K × V)) → IsRising cmp es → lookup cmp q (put cmp join k v es) ≡ option_join join (lookup cmp q es) (cond (is_eq (cmp q k)) (Some v) None)
    lookup_put q k v [] r = refl
    lookup_put q k v (x ∷ es) r =
        by_cases (cmp k x.0) (λ o. lookup cmp q (by_order o ((k, v) ∷ x ∷ es) ((x.0, join x.1 v) ∷ es) (x ∷ put cmp join k v es)) ≡ option_join join (lookup cmp q (x ∷ es)) (cond (is_eq (cmp q k)) (Some v) None))
        (λ e.
        by_cases (cmp q k) (λ o. cond (is_eq o) (Some v) (lookup cmp q (x ∷ es)) ≡ option_join join (lookup cmp q (x ∷ es)) (cond (is_eq o) (Some v) None))
        (λ _. sym (join_none join (lookup cmp q (x ∷ es))))
        (λ t. let is : q ≡ k = same q k t in
        let none : lookup cmp q (x ∷ es) ≡ None = subst (λ z. lookup cmp z (x ∷ es) ≡ None) (sym is) (lookup_below k (x ∷ es) (e, below_trans k x.0 es e r.0)) in
        sym (ap (λ z. option_join join z (Some v)) none))
        (λ _. sym (join_none join (lookup cmp q (x ∷ es)))))
        (λ e.
        let is : k ≡ x.0 = same k x.0 e in
        subst (λ z. cond (is_eq (cmp q x.0)) (Some (join x.1 v)) (lookup cmp q es) ≡ option_join join (cond (is_eq (cmp q x.0)) (Some x.1) (lookup cmp q es)) (cond (is_eq (cmp q z)) (Some v) None)) (sym is)
        (elim (is_eq (cmp q x.0)) as (λ b. cond b (Some (join x.1 v)) (lookup cmp q es) ≡ option_join join (cond b (Some x.1) (lookup cmp q es)) (cond b (Some v) None)) [
          | true ↦ refl
          | false ↦ sym (join_none join (lookup cmp q es))
        ]))
        (λ e.
        let rest = lookup_put q k v es r.1 in
        by_cases (cmp q x.0) (λ o. cond (is_eq o) (Some x.1) (lookup cmp q (put cmp join k v es)) ≡ option_join join (cond (is_eq o) (Some x.1) (lookup cmp q es)) (cond (is_eq (cmp q k)) (Some v) None))
        (λ _. rest)
        (λ t. let apart : cmp q k ≡ Less = total.congr q x.0 k t ∙ greater_less cmp total k x.0 e in rw apart refl)
        (λ _. rest))

    pub rising_join : (a b : List (K × V)) → IsRising cmp a → IsRising cmp (map_join cmp join a b)
    rising_join a [] r = r
    rising_join a (e ∷ es) r = rising_join (put cmp join e.0 e.1 a) es (rising_put e.0 e.1 a r)

    pub lookup_join : (q : K) (a b : List (K × V)) → IsRising cmp a → IsRising cmp b → lookup cmp q (map_join cmp join a b) ≡ option_join join (lookup cmp q a) (lookup cmp q b)
    lookup_join q a [] ra rb = sym (join_none join (lookup cmp q a))
    lookup_join q a (e ∷ es) ra rb =
        lookup_join q (put cmp join e.0 e.1 a) es (rising_put e.0 e.1 a ra) rb.1
        ∙ ap (λ o. option_join join o (lookup cmp q es)) (lookup_put q e.0 e.1 a ra)
        ∙ by_cases (cmp q e.0) (λ o. option_join join (option_join join (lookup cmp q a) (cond (is_eq o) (Some e.1) None)) (lookup cmp q es) ≡ option_join join (lookup cmp q a) (cond (is_eq o) (Some e.1) (lookup cmp q es)))
        (λ _. ap (λ o. option_join join o (lookup cmp q es)) (join_none join (lookup cmp q a)))
        (λ t. let is : q ≡ e.0 = same q e.0 t in
        let none : lookup cmp q es ≡ None = rw is (lookup_below e.0 es rb.0) in
        rw none (join_none join (option_join join (lookup cmp q a) (Some e.1))))
        (λ _. ap (λ o. option_join join o (lookup cmp q es)) (join_none join (lookup cmp q a)))

  module _ (join : V → V → V) (is_value : V → Type 0) (laws : JoinLaws is_value join) where
    values_put : (q : K) (v : V) (es : List (K × V)) → is_value v → AreValues is_value es → AreValues is_value (put cmp join q v es)
    values_put q v [] p r = (p, tt)
    values_put q v (x ∷ es) p r =
        by_cases (cmp q x.0) (λ o. AreValues is_value (by_order o ((q, v) ∷ x ∷ es) ((x.0, join x.1 v) ∷ es) (x ∷ put cmp join q v es)))
        (λ _. (p, r)) (λ _. (laws.closed x.1 v r.0 p, r.1)) (λ _. (r.0, values_put q v es p r.1))

    values_join : (a b : List (K × V)) → AreValues is_value a → AreValues is_value b → AreValues is_value (map_join cmp join a b)
    values_join a [] p q = p
    values_join a (e ∷ es) p q = values_join (put cmp join e.0 e.1 a) es (values_put e.0 e.1 a q.0 p) q.1

    abbrev Is : List (K × V) → Type 0
    Is es = IsMap cmp is_value es

    abbrev union : List (K × V) → List (K × V) → List (K × V)
    union a b = map_join cmp join a b

    pub is_map_put : (q : K) (v : V) (es : List (K × V)) → is_value v → Is es → Is (put cmp join q v es)
    is_map_put q v es p m = record { rising = rising_put join q v es m.rising; values = values_put q v es p m.values }

    pub is_map_join : (a b : List (K × V)) → Is a → Is b → Is (union a b)
    is_map_join a b p q = record { rising = rising_join join a b p.rising; values = values_join a b p.values q.values }

    pub map_laws : JoinLaws (IsMap {K = K} {V = V} cmp is_value) (map_join cmp join)
    map_laws =
        let optional = option_laws is_value join laws in
        let at = λ (q : K) (es : List (K × V)). lookup cmp q es in
        let fine = λ (q : K) (es : List (K × V)) (m : Is es). lookup_value is_value q es m.values in
        record {
          closed = is_map_join;
          assoc = λ x y z p q r.
              let xy = is_map_join x y p q in
              let yz = is_map_join y z q r in
              same_map _ _ (is_map_join (union x y) z xy r).rising (is_map_join x (union y z) p yz).rising
              (λ k. lookup_join join k (union x y) z xy.rising r.rising
              ∙ ap (λ o. option_join join o (at k z)) (lookup_join join k x y p.rising q.rising)
              ∙ optional.assoc (at k x) (at k y) (at k z) (fine k x p) (fine k y q) (fine k z r)
              ∙ sym (ap (λ o. option_join join (at k x) o) (lookup_join join k y z q.rising r.rising))
              ∙ sym (lookup_join join k x (union y z) p.rising yz.rising));
          comm = λ x y p q.
              same_map _ _ (is_map_join x y p q).rising (is_map_join y x q p).rising
              (λ k. lookup_join join k x y p.rising q.rising
              ∙ optional.comm (at k x) (at k y) (fine k x p) (fine k y q)
              ∙ sym (lookup_join join k y x q.rising p.rising));
          idem = λ x p.
              same_map _ _ (is_map_join x x p p).rising p.rising
              (λ k. lookup_join join k x x p.rising p.rising ∙ optional.idem (at k x) (fine k x p));
        }

-- how a join goes from the front
module _ {K V : Type 0} (cmp : K → K → Ordering) (total : IsTotalOrder cmp) (same : TellsApart cmp) (join : V → V → V) where
  prepended : (x : K × V) (xs es : List (K × V)) → IsBelow cmp x.0 es → map_join cmp join (x ∷ xs) es ≡ x ∷ map_join cmp join xs es
  prepended x xs [] b = refl
  prepended x xs (e ∷ es) b = rw (less_greater cmp total x.0 e.0 b.0) (prepended x (put cmp join e.0 e.1 xs) es b.1)

  pub join_less : (x y : K × V) (xs ys : List (K × V)) → IsRising cmp (y ∷ ys) → cmp x.0 y.0 ≡ Less → map_join cmp join (x ∷ xs) (y ∷ ys) ≡ x ∷ map_join cmp join xs (y ∷ ys)
  join_less x y xs ys r e = prepended x xs (y ∷ ys) (e, below_trans cmp total same x.0 y.0 ys e r.0)

  pub join_greater : (x y : K × V) (xs ys : List (K × V)) → IsRising cmp (y ∷ ys) → cmp x.0 y.0 ≡ Greater → map_join cmp join (x ∷ xs) (y ∷ ys) ≡ y ∷ map_join cmp join (x ∷ xs) ys
  join_greater x y xs ys r e = rw (greater_less cmp total x.0 y.0 e) (prepended y (x ∷ xs) ys r.0)

  pub join_equal : (x y : K × V) (xs ys : List (K × V)) → IsRising cmp (y ∷ ys) → cmp x.0 y.0 ≡ Equal → map_join cmp join (x ∷ xs) (y ∷ ys) ≡ (x.0, join x.1 y.1) ∷ map_join cmp join xs ys
  join_equal x y xs ys r e =
      let key : y.0 ≡ x.0 = sym (same x.0 y.0 e) in
      rw (tied_back total x.0 y.0 e) (prepended (x.0, join x.1 y.1) xs ys (subst (λ z. IsBelow cmp z ys) key r.0))

  pub join_from_none : (ys : List (K × V)) → IsRising cmp ys → map_join cmp join [] ys ≡ ys
  join_from_none [] r = refl
  join_from_none (y ∷ ys) r = prepended y [] ys r.0 ∙ ap (λ z. y ∷ z) (join_from_none ys r.1)

-- A join in place: the joined values are written over what is there.
module _ {K V : Type 0} (cmp : K → K → Ordering) (total : IsTotalOrder cmp) (same : TellsApart cmp) (join : V → V → V) where
  abbrev onto : List (K × V) → K × V → K × V
  onto a = joined_pair cmp join a

  below_onto : (a : List (K × V)) (k : K) (b : List (K × V)) → IsBelow cmp k b → IsBelow cmp k (map (onto a) b)
  below_onto a k [] below = tt
  below_onto a k (e ∷ es) below = (below.0, below_onto a k es below.1)

  pub rising_onto : (a b : List (K × V)) → IsRising cmp b → IsRising cmp (map (onto a) b)
  rising_onto a [] r = tt
  rising_onto a (e ∷ es) r = (below_onto a e.0 es r.0, rising_onto a es r.1)

  lookup_onto : (a : List (K × V)) (q : K) (b : List (K × V)) → lookup cmp q (map (onto a) b) ≡ option_map (joined_onto join (lookup cmp q a)) (lookup cmp q b)
  lookup_onto a q [] = refl
  lookup_onto a q (e ∷ es) =
      let rest = lookup_onto a q es in
      by_cases (cmp q e.0) (λ o. cond (is_eq o) (Some (onto a e).1) (lookup cmp q (map (onto a) es)) ≡ option_map (joined_onto join (lookup cmp q a)) (cond (is_eq o) (Some e.1) (lookup cmp q es)))
      (λ _. rest)
      (λ t. let is : e.0 ≡ q = sym (same q e.0 t) in ap (λ z. Some (joined_onto join (lookup cmp z a) e.1)) is)
      (λ _. rest)

  written_over : (x y : Option V) → option_join keep_new x (option_map (joined_onto join x) y) ≡ option_join join x y
  written_over None None = refl
  written_over None (Some w) = refl
  written_over (Some v) None = refl
  written_over (Some v) (Some w) = refl

  pub overwritten : (a b : List (K × V)) → IsRising cmp a → IsRising cmp b → map_join cmp keep_new a (map (onto a) b) ≡ map_join cmp join a b
  overwritten a b ra rb =
      same_map cmp total same _ _ (rising_join cmp total same keep_new a (map (onto a) b) ra) (rising_join cmp total same join a b ra) (λ q.
      lookup_join cmp total same keep_new q a (map (onto a) b) ra (rising_onto a b rb)
      ∙ ap (option_join keep_new (lookup cmp q a)) (lookup_onto a q b)
      ∙ written_over (lookup cmp q a) (lookup cmp q b)
      ∙ sym (lookup_join cmp total same join q a b ra rb))
