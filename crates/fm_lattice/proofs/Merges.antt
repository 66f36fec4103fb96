-- Steps of a merge from the front, and what it is for one map to be below another.
use Rattle.std.proofs.Common.{◌≡◌, ℕ, zero, suc, List, [], ◌∷◌, ◌++◌, drop, sym, ◌∙◌, ap, subst, append_assoc, append-nil}
use Rattle.std.specs.Cmp.{IsTotalOrder}
use Rattle.std.specs.declared.cmp.Ordering.{Ordering}
use Rattle.std.specs.declared.cmp.Ordering.TheVariants.{Less, Equal, Greater}
use Rattle.std.proofs.lemmas.Cmp.{tied_itself}
use Rattle.fm_lattice.specs.Chains.{TellsApart}
use Rattle.fm_lattice.specs.Maps.{IsRising, map_join}
use Rattle.fm_lattice.specs.laws.MapLaws.{join_less, join_equal, join_greater, join_from_none}

-- the head of what is left moves to the end of what is done
pub moved : {X : Type 0} (out now rest whole : List X) (head : X) → now ≡ head ∷ rest → out ++ now ≡ whole → (out ++ head ∷ []) ++ rest ≡ whole
moved out now rest whole head e f = rw append_assoc (rw e at f)

less_equal_apart : Less ≡ Equal → ⊥
less_equal_apart e = cc

pub some_none : {X : Type 0} (x : X) (xs : List X) → x ∷ xs ≡ [] → ⊥
some_none x xs e = cc

first_key : {K V : Type 0} (x y : K × V) (xs ys : List (K × V)) → x ∷ xs ≡ y ∷ ys → x.0 ≡ y.0
first_key x y xs ys e = cc

module _ {K V : Type 0} (cmp : K → K → Ordering) (total : IsTotalOrder cmp) (same : TellsApart cmp) (join : V → V → V) where
  pub rising_drop : (i : ℕ) (es : List (K × V)) → IsRising cmp es → IsRising cmp (drop i es)
  rising_drop zero es r = r
  rising_drop (suc i) [] r = r
  rising_drop (suc i) (e ∷ es) r = rising_drop i es r.1

  module _ (a b out whole : List (K × V)) (x y : K × V) (rb : IsRising cmp b) (ea : a ≡ x ∷ drop 1 a) (eb : b ≡ y ∷ drop 1 b) (so_far : out ++ map_join cmp join a b ≡ whole) where
    rest_rises : IsRising cmp (y ∷ drop 1 b)
    rest_rises = subst (IsRising cmp) eb rb

    fronts : map_join cmp join a b ≡ map_join cmp join (x ∷ drop 1 a) (y ∷ drop 1 b)
    fronts = λ t. map_join cmp join (ea t) (eb t)

    pub step_less : cmp x.0 y.0 ≡ Less → (out ++ x ∷ []) ++ map_join cmp join (drop 1 a) b ≡ whole
    step_less e = moved out _ _ _ x (fronts ∙ join_less cmp total same join x y _ _ rest_rises e ∙ ap (λ z. x ∷ map_join cmp join (drop 1 a) z) (sym eb)) so_far

    pub step_greater : cmp x.0 y.0 ≡ Greater → (out ++ y ∷ []) ++ map_join cmp join a (drop 1 b) ≡ whole
    step_greater e = moved out _ _ _ y (fronts ∙ join_greater cmp total same join x y _ _ rest_rises e ∙ ap (λ z. y ∷ map_join cmp join z (drop 1 b)) (sym ea)) so_far

    pub step_equal : cmp x.0 y.0 ≡ Equal → (out ++ (x.0, join x.1 y.1) ∷ []) ++ map_join cmp join (drop 1 a) (drop 1 b) ≡ whole
    step_equal e = moved out _ _ _ (x.0, join x.1 y.1) (fronts ∙ join_equal cmp total same join x y _ _ rest_rises e) so_far

  -- if one side is at its end, the other is what is left
  pub ended_left : (a b out whole : List (K × V)) → IsRising cmp b → a ≡ [] → out ++ map_join cmp join a b ≡ whole → (out ++ a) ++ b ≡ whole
  ended_left a b out whole rb e so_far =
      let left : map_join cmp join [] b ≡ b = join_from_none cmp total same join b rb in
      rw (append_assoc, e) (rw (e, left) at so_far)

  pub ended_right : (a b out whole : List (K × V)) → b ≡ [] → out ++ map_join cmp join a b ≡ whole → (out ++ a) ++ b ≡ whole
  ended_right a b out whole e so_far = rw (append_assoc, e, append-nil) (rw e at so_far)

  -- Whether a join is its right side, from the front.
  inside_pair : (x y : K × V) (v : V) (xs ys : List (K × V)) → (x.0, v) ∷ xs ≡ y ∷ ys → (v ≡ y.1) × (xs ≡ ys)
  inside_pair x y v xs ys e = (cc, cc)

  abbrev pub IsUnder : List (K × V) → List (K × V) → Type 0
  IsUnder a b = map_join cmp join a b ≡ b

  module _ (a b : List (K × V)) (x y : K × V) (rb : IsRising cmp b) (ea : a ≡ x ∷ drop 1 a) (eb : b ≡ y ∷ drop 1 b) where
    behind_rises : IsRising cmp (y ∷ drop 1 b)
    behind_rises = subst (IsRising cmp) eb rb

    opened : IsUnder a b → IsUnder (x ∷ drop 1 a) (y ∷ drop 1 b)
    opened e = subst (λ z. IsUnder z (y ∷ drop 1 b)) ea (subst (λ z. IsUnder a z) eb e)

    closed : IsUnder (x ∷ drop 1 a) (y ∷ drop 1 b) → IsUnder a b
    closed e = subst (λ z. IsUnder z b) (sym ea) (subst (λ z. IsUnder (x ∷ drop 1 a) z) (sym eb) e)

    pub under_less : cmp x.0 y.0 ≡ Less → IsUnder a b → ⊥
    under_less e under =
        let heads : x ∷ map_join cmp join (drop 1 a) (y ∷ drop 1 b) ≡ y ∷ drop 1 b = sym (join_less cmp total same join x y _ _ behind_rises e) ∙ opened under in
        let key : x.0 ≡ y.0 = first_key x y _ _ heads in
        less_equal_apart (sym e ∙ ap (cmp x.0) (sym key) ∙ tied_itself total x.0)

    pub under_equal : cmp x.0 y.0 ≡ Equal → IsUnder a b → (join x.1 y.1 ≡ y.1) × IsUnder (drop 1 a) (drop 1 b)
    under_equal e under = inside_pair x y (join x.1 y.1) _ _ (sym (join_equal cmp total same join x y _ _ behind_rises e) ∙ opened under)

    pub under_both : cmp x.0 y.0 ≡ Equal → join x.1 y.1 ≡ y.1 → IsUnder (drop 1 a) (drop 1 b) → IsUnder a b
    under_both e value rest =
        let key : x.0 ≡ y.0 = same x.0 y.0 e in
        let pair : (x.0, join x.1 y.1) ≡ y = λ i. (key i, value i) in
        closed (join_equal cmp total same join x y _ _ behind_rises e ∙ (λ i. pair i ∷ rest i))

    pub under_behind : cmp x.0 y.0 ≡ Greater → IsUnder a b → IsUnder a (drop 1 b)
    under_behind e under =
        let tails : map_join cmp join (x ∷ drop 1 a) (drop 1 b) ≡ drop 1 b = ap (drop 1) (sym (join_greater cmp total same join x y _ _ behind_rises e) ∙ opened under) in
        subst (λ z. IsUnder z (drop 1 b)) (sym ea) tails

    pub under_later : cmp x.0 y.0 ≡ Greater → IsUnder a (drop 1 b) → IsUnder a b
    under_later e under = closed (join_greater cmp total same join x y _ _ behind_rises e ∙ ap (λ z. y ∷ z) (subst (λ z. IsUnder z (drop 1 b)) ea under))

  pub under_none : (a b : List (K × V)) → IsRising cmp b → a ≡ [] → IsUnder a b
  under_none a b rb e = rw e (join_from_none cmp total same join b rb)

  pub none_under : (a b : List (K × V)) → b ≡ [] → IsUnder a b → a ≡ []
  none_under a b e under = subst (λ z. map_join cmp join a z ≡ z) e under
