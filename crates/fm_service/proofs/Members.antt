-- Members of unions, and sets of which each holds the other.
use Rattle.std.proofs.Common.{◌≡◌, ◌⊎◌, ◌≤◌, ℕ, List, [], ◌∷◌, ◌++◌, length, drop, sym, ap, ◌∙◌, inl, inr, arith, append_assoc}
use Rattle.std.specs.List.{slice_range}
use Rattle.std.proofs.lemmas.List.{append-nil, drop_all}
use Rattle.std.proofs.lemmas.List.Folds.{drop_split}
use Rattle.fm_records.specs.Sets.{IsMember, HaveSameMembers, union}
use Rattle.fm_net.proofs.ListLaws.{member_before, member_behind}

module _ {X : Type 0} where
  pub member_either : (x : X) (xs ys : List X) → IsMember x (xs ++ ys) → IsMember x xs ⊎ IsMember x ys
  member_either x [] ys m = inr m
  member_either x (y ∷ xs) ys (inl e) = inl (inl e)
  member_either x (y ∷ xs) ys (inr m) = elim (member_either x xs ys m) [ inl a ↦ inl (inr a) | inr b ↦ inr b ]

  -- what holds of the members of both holds of their members together
  pub from_both : {P : Type 0} (x : X) (xs ys : List X) → (IsMember x xs → P) → (IsMember x ys → P) → IsMember x (xs ++ ys) → P
  from_both x xs ys f g m = elim (member_either x xs ys m) [ inl a ↦ f a | inr b ↦ g b ]

  -- equal sets, with the same at the end of each
  with_more : (xs ys zs : List X) → ((x : X) → IsMember x xs → IsMember x ys) → (x : X) → IsMember x (xs ++ zs) → IsMember x (ys ++ zs)
  with_more xs ys zs within x = from_both x xs zs (λ m. member_before x ys zs (within x m)) (λ m. member_behind x ys zs m)

  pub same_with : (xs ys zs : List X) → HaveSameMembers xs ys → HaveSameMembers (xs ++ zs) (ys ++ zs)
  same_with xs ys zs same = (with_more xs ys zs same.0, with_more ys xs zs same.1)

  -- a set that another holds adds nothing to it
  pub held : (xs ys : List X) → ((x : X) → IsMember x xs → IsMember x ys) → HaveSameMembers (xs ++ ys) ys
  held xs ys within = (λ x. from_both x xs ys (within x) (λ m. m), λ x m. member_behind x xs ys m)

  pub union_last : (xss : List (List X)) (xs : List X) → union (xss ++ xs ∷ []) ≡ union xss ++ xs
  union_last [] xs = append-nil xs
  union_last (ys ∷ xss) xs = ap (λ zs. ys ++ zs) (union_last xss xs) ∙ sym (append_assoc ys (union xss) xs)

  -- all from a place on
  pub to_the_end : (xs : List X) (at : ℕ) → at ≤ length xs → slice_range xs at (length xs) ≡ drop at xs
  to_the_end xs at le =
      sym (drop_split xs at (length xs) le ∙ ap (λ ys. slice_range xs at (length xs) ++ ys) (drop_all (length xs) xs (omega arith)) ∙ append-nil (slice_range xs at (length xs)))
