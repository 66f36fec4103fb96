-- The greatest of a list is a member of it that none is greater than, and the least one that none is less than.
use Rattle.std.specs.Prelude.{◌≡◌, false, cond, List, [], ◌∷◌, Option, Some, None, refl}
use Rattle.std.specs.Ordering.{is_gt, is_lt, ordering_reverse}
use Rattle.std.specs.Cmp.{IsTotalOrder}
use Rattle.std.specs.declared.cmp.Ordering.{Ordering}
use Rattle.std.specs.declared.cmp.Ordering.TheVariants.{Less, Equal, Greater}
use Rattle.std.proofs.Common.{sym, ap, ◌∙◌, subst, inl, inr}
use Rattle.std.proofs.lemmas.Cmp.{upto, tied_itself, tied_back}
use Rattle.fm_records.specs.Sets.{greatest, least}
use Rattle.fm_records.specs.Characterized.{IsGreatest, IsGreatestOf, IsLeastMember, IsLeastOf}
use Rattle.fm_lattice.specs.laws.ChainLaws.{by_cases, less_greater, greater_less}
use Rattle.fm_lattice.specs.Joins.{max_join, min_join, option_join}

turned : (o : Ordering) → is_lt (ordering_reverse o) ≡ is_gt o
turned Less = refl
turned Equal = refl
turned Greater = refl

module _ {R : Type 0} (cmp : R → R → Ordering) (total : IsTotalOrder cmp) where
  itself : (x : R) → is_gt (cmp x x) ≡ false
  itself x = rw (tied_itself total x) refl

  longer : (x m : R) (xs : List R) → IsGreatest cmp xs m → IsGreatest cmp (x ∷ xs) (max_join cmp x m)
  longer x m xs g =
      by_cases (cmp m x) (λ o. cmp m x ≡ o → IsGreatest cmp (x ∷ xs) (cond (is_lt o) x m))
      (λ _ e. record {
        is_member = inl refl;
        none_above = λ y h. elim h [ inl is ↦ subst (λ z. is_gt (cmp z x) ≡ false) is (itself x) | inr later ↦ upto total y m x (g.none_above y later) (ap is_gt e) ];
      })
      (λ _ e. record {
        is_member = inr g.is_member;
        none_above = λ y h. elim h [ inl is ↦ subst (λ z. is_gt (cmp z m) ≡ false) is (rw (total.antisymm x m, e) refl) | inr later ↦ g.none_above y later ];
      })
      (λ _ e. record {
        is_member = inr g.is_member;
        none_above = λ y h. elim h [ inl is ↦ subst (λ z. is_gt (cmp z m) ≡ false) is (rw (greater_less cmp total m x e) refl) | inr later ↦ g.none_above y later ];
      })
      refl

  longer_by : (x : R) (xs : List R) (o : Option R) → IsGreatestOf cmp xs o → IsGreatestOf cmp (x ∷ xs) (option_join (max_join cmp) (Some x) o)
  longer_by x xs None g = subst (λ z. IsGreatest cmp (x ∷ z) x) (sym g) (record { is_member = inl refl; none_above = λ y h. elim h [ inl is ↦ subst (λ z. is_gt (cmp z x) ≡ false) is (itself x) | inr later ↦ absurd later ] })
  longer_by x xs (Some m) g = longer x m xs g

  pub greatest_is : (xs : List R) → IsGreatestOf cmp xs (greatest cmp xs)
  greatest_is [] = refl
  greatest_is (x ∷ xs) = longer_by x xs (greatest cmp xs) (greatest_is xs)

  -- y is below x if x is above y
  below_above : (x y : R) → is_lt (cmp y x) ≡ is_gt (cmp x y)
  below_above x y = ap is_lt (total.antisymm y x) ∙ turned (cmp x y)

  not_below_itself : (x : R) → is_lt (cmp x x) ≡ false
  not_below_itself x = rw (tied_itself total x) refl

  shorter : (x m : R) (xs : List R) → IsLeastMember cmp xs m → IsLeastMember cmp (x ∷ xs) (min_join cmp x m)
  shorter x m xs l =
      by_cases (cmp m x) (λ o. cmp m x ≡ o → IsLeastMember cmp (x ∷ xs) (cond (is_lt o) m x))
      (λ _ e. record {
        is_member = inr l.is_member;
        none_below = λ y h. elim h [ inl is ↦ subst (λ z. is_lt (cmp z m) ≡ false) is (rw (less_greater cmp total m x e) refl) | inr later ↦ l.none_below y later ];
      })
      (λ _ e. record {
        is_member = inl refl;
        none_below = λ y h. elim h [ inl is ↦ subst (λ z. is_lt (cmp z x) ≡ false) is (not_below_itself x) | inr later ↦ below_above x y ∙ upto total x m y (ap is_gt (tied_back total m x e)) (sym (below_above m y) ∙ l.none_below y later) ];
      })
      (λ _ e. record {
        is_member = inl refl;
        none_below = λ y h. elim h [ inl is ↦ subst (λ z. is_lt (cmp z x) ≡ false) is (not_below_itself x) | inr later ↦ below_above x y ∙ upto total x m y (ap is_gt (greater_less cmp total m x e)) (sym (below_above m y) ∙ l.none_below y later) ];
      })
      refl

  shorter_by : (x : R) (xs : List R) (o : Option R) → IsLeastOf cmp xs o → IsLeastOf cmp (x ∷ xs) (option_join (min_join cmp) (Some x) o)
  shorter_by x xs None l = subst (λ z. IsLeastMember cmp (x ∷ z) x) (sym l) (record { is_member = inl refl; none_below = λ y h. elim h [ inl is ↦ subst (λ z. is_lt (cmp z x) ≡ false) is (not_below_itself x) | inr later ↦ absurd later ] })
  shorter_by x xs (Some m) l = shorter x m xs l

  pub least_is : (xs : List R) → IsLeastOf cmp xs (least cmp xs)
  least_is [] = refl
  least_is (x ∷ xs) = shorter_by x xs (least cmp xs) (least_is xs)
