-- The joins of the members of lists.
use Rattle.std.specs.Prelude.{◌≡◌, List, [], ◌∷◌, ◌++◌, Option, Some, None, refl}
use Rattle.std.specs.List.{filter_map, cons_option}
use Rattle.std.proofs.Common.{sym, ap, ◌∙◌, subst, inl, inr}
use Rattle.fm_lattice.specs.Joins.{option_join, Any, IsOptionOf, JoinLaws}
use Rattle.fm_lattice.specs.laws.PlainLaws.{option_laws}
use Rattle.fm_records.specs.Sets.{IsMember, HaveSameMembers, all_of}

module _ {R : Type 0} (join : R → R → R) (laws : JoinLaws Any join) where
  fine : (o : Option R) → IsOptionOf Any o
  fine None = tt
  fine (Some x) = tt

  abbrev both : Option R → Option R → Option R
  both = option_join join

  assoc : (a b c : Option R) → both (both a b) c ≡ both a (both b c)
  assoc a b c = (option_laws Any join laws).assoc a b c (fine a) (fine b) (fine c)

  comm : (a b : Option R) → both a b ≡ both b a
  comm a b = (option_laws Any join laws).comm a b (fine a) (fine b)

  idem : (a : Option R) → both a a ≡ a
  idem a = (option_laws Any join laws).idem a (fine a)

  pub all_of-append : (xs ys : List R) → all_of join (xs ++ ys) ≡ option_join join (all_of join xs) (all_of join ys)
  all_of-append [] ys = refl
  all_of-append (x ∷ xs) ys = ap (both (Some x)) (all_of-append xs ys) ∙ sym (assoc (Some x) (all_of join xs) (all_of join ys))

  pub absorbs : (x : R) (xs : List R) → IsMember x xs → both (Some x) (all_of join xs) ≡ all_of join xs
  absorbs x [] h = absurd h
  absorbs x (y ∷ ys) h =
      let rest = all_of join ys in
      elim h [
        | inl e ↦ subst (λ z. both (Some z) (both (Some y) rest) ≡ both (Some y) rest) e (sym (assoc (Some y) (Some y) rest) ∙ ap (λ o. both o rest) (idem (Some y)))
        | inr later ↦ sym (assoc (Some x) (Some y) rest) ∙ ap (λ o. both o rest) (comm (Some x) (Some y)) ∙ assoc (Some y) (Some x) rest ∙ ap (both (Some y)) (absorbs x ys later)
      ]

  within : (xs ys : List R) → ((x : R) → IsMember x xs → IsMember x ys) → both (all_of join xs) (all_of join ys) ≡ all_of join ys
  within [] ys h = refl
  within (x ∷ xs) ys h = assoc (Some x) (all_of join xs) (all_of join ys) ∙ ap (both (Some x)) (within xs ys (λ z m. h z (inr m))) ∙ absorbs x ys (h x (inl refl))

  pub all_of_same : (xs ys : List R) → HaveSameMembers xs ys → all_of join xs ≡ all_of join ys
  all_of_same xs ys same = sym (within ys xs same.1) ∙ comm (all_of join ys) (all_of join xs) ∙ within xs ys same.0

-- a member of what a filter keeps comes from a member
pub member_from : {X Y : Type 0} (f : X → Option Y) (xs : List X) (y : Y) → IsMember y (filter_map f xs) → (x : X) × IsMember x xs × (f x ≡ Some y)
member_from f [] y h = absurd h
member_from f (x ∷ xs) y h =
    elim (f x) as (λ o. f x ≡ o → IsMember y (cons_option o (filter_map f xs)) → (z : _) × IsMember z (x ∷ xs) × (f z ≡ Some y)) [
      | None ↦ λ e g. let rest = member_from f xs y g in (rest.0, inr rest.1, rest.2)
      | Some w ↦ λ e g. elim g [
        | inl is ↦ (x, inl refl, e ∙ ap Some is)
        | inr later ↦ let rest = member_from f xs y later in (rest.0, inr rest.1, rest.2)
      ]
    ] refl h

pub member_kept : {X Y : Type 0} (f : X → Option Y) (x : X) (y : Y) (xs : List X) → f x ≡ Some y → IsMember x xs → IsMember y (filter_map f xs)
member_kept f x y [] e h = absurd h
member_kept f x y (z ∷ xs) e h = elim h [
  | inl is ↦ rw (is, e) (inl refl)
  | inr later ↦ elim (f z) as (λ o. IsMember y (cons_option o (filter_map f xs))) [ None ↦ member_kept f x y xs e later | Some w ↦ inr (member_kept f x y xs e later) ]
]

kept_members : {X Y : Type 0} (f : X → Option Y) (xs ys : List X) → ((x : X) → IsMember x xs → IsMember x ys) → (y : Y) → IsMember y (filter_map f xs) → IsMember y (filter_map f ys)
kept_members f xs ys same y h = let from = member_from f xs y h in member_kept f from.0 y ys from.2 (same from.0 from.1)

pub same_members_kept : {X Y : Type 0} (f : X → Option Y) (xs ys : List X) → HaveSameMembers xs ys → HaveSameMembers (filter_map f xs) (filter_map f ys)
same_members_kept f xs ys same = (kept_members f xs ys same.0, kept_members f ys xs same.1)
