-- Laws of lists of keys that rise, of what a list has, and of the members of lists.
use Rattle.std.specs.Prelude.{◌≡◌, Bool, true, false, cond, ◌||◌, List, [], ◌∷◌, ◌++◌, Some, filter, flat_map, map, refl}
use Rattle.std.specs.List.{list_any}
use Rattle.std.specs.Ordering.{is_eq}
use Rattle.std.specs.Cmp.{IsTotalOrder}
use Rattle.std.specs.declared.cmp.Ordering.{Ordering}
use Rattle.std.specs.declared.cmp.Ordering.TheVariants.{Less, Equal, Greater}
use Rattle.std.proofs.Common.{sym, ap, ◌∙◌, subst, inl, inr}
use Rattle.std.proofs.lemmas.Cmp.{tied_itself}
use Rattle.fm_lattice.specs.Chains.{TellsApart}
use Rattle.fm_lattice.specs.laws.ChainLaws.{by_cases, greater_less}
use Rattle.fm_lattice.specs.Maps.{lookup}
use Rattle.fm_records.specs.Sets.{IsMember}
use Rattle.fm_records.specs.Rising.{IsBelowAll, Rises}

apart : {P : Type 0} → true ≡ false → P
apart e = absurd (let no : ⊥ = cc in no)

module _ {X : Type 0} where
  pub member_before : (x : X) (xs ys : List X) → IsMember x xs → IsMember x (xs ++ ys)
  member_before x [] ys h = absurd h
  member_before x (z ∷ xs) ys h = elim h [ inl e ↦ inl e | inr later ↦ inr (member_before x xs ys later) ]

  pub member_behind : (x : X) (xs ys : List X) → IsMember x ys → IsMember x (xs ++ ys)
  member_behind x [] ys h = h
  member_behind x (z ∷ xs) ys h = inr (member_behind x xs ys h)

  -- a test that a member passes, and a member that passes a test
  pub any_of : (p : X → Bool) (x : X) (xs : List X) → IsMember x xs → p x ≡ true → list_any p xs ≡ true
  any_of p x [] h e = absurd h
  any_of p x (z ∷ xs) h e = elim h [
    | inl is ↦ let first : p z ≡ true = ap p is ∙ e in rw first refl
    | inr later ↦ let rest : list_any p xs ≡ true = any_of p x xs later e in elim (p z) as (λ b. (b || list_any p xs) ≡ true) [ true ↦ refl | false ↦ rest ]
  ]

  pub some_member : (p : X → Bool) (xs : List X) → list_any p xs ≡ true → (x : X) × IsMember x xs × (p x ≡ true)
  some_member p [] h = apart (sym h)
  some_member p (z ∷ xs) h =
      let rest = some_member p xs in
      elim (p z) as (λ b. p z ≡ b → (b || list_any p xs) ≡ true → (x : X) × IsMember x (z ∷ xs) × (p x ≡ true)) [
        | true ↦ λ e _. (z, inl refl, e)
        | false ↦ λ _ g. let r = rest g in (r.0, inr r.1, r.2)
      ] refl h

  pub member_passing : (p : X → Bool) (x : X) (xs : List X) → IsMember x xs → p x ≡ true → IsMember x (filter p xs)
  member_passing p x [] h e = absurd h
  member_passing p x (z ∷ xs) h e =
      let rest = member_passing p x xs in
      elim (p z) as (λ b. p z ≡ b → IsMember x (cond b (z ∷ filter p xs) (filter p xs))) [
        | true ↦ λ _. elim h [ inl is ↦ inl is | inr later ↦ inr (rest later e) ]
        | false ↦ λ f. elim h [ inl is ↦ apart (sym (ap p is ∙ e) ∙ f) | inr later ↦ rest later e ]
      ] refl

  pub passes_kept : (p : X → Bool) (x : X) (xs : List X) → IsMember x (filter p xs) → p x ≡ true
  passes_kept p x [] h = absurd h
  passes_kept p x (z ∷ xs) h =
      let rest = passes_kept p x xs in
      elim (p z) as (λ b. p z ≡ b → IsMember x (cond b (z ∷ filter p xs) (filter p xs)) → p x ≡ true) [
        | true ↦ λ e g. elim g [ inl is ↦ ap p (sym is) ∙ e | inr later ↦ rest later ]
        | false ↦ λ _ g. rest g
      ] refl h

module _ {X Y : Type 0} where
  pub member_mapped : (f : X → Y) (x : X) (xs : List X) → IsMember x xs → IsMember (f x) (map f xs)
  member_mapped f x [] h = absurd h
  member_mapped f x (z ∷ xs) h = elim h [ inl is ↦ inl (ap f is) | inr later ↦ inr (member_mapped f x xs later) ]

  pub member_of_one : (f : X → List Y) (x : X) (y : Y) (xs : List X) → IsMember x xs → IsMember y (f x) → IsMember y (flat_map f xs)
  member_of_one f x y [] h g = absurd h
  member_of_one f x y (z ∷ xs) h g = elim h [
    | inl is ↦ member_before y (f z) (flat_map f xs) (subst (λ w. IsMember y (f w)) (sym is) g)
    | inr later ↦ member_behind y (f z) (flat_map f xs) (member_of_one f x y xs later g)
  ]

-- what is looked up is in the list
pub entry_member : {K V : Type 0} (cmp : K → K → Ordering) → TellsApart cmp → (k : K) (v : V) (es : List (K × V)) → lookup cmp k es ≡ Some v → IsMember (k, v) es
entry_member cmp same k v [] e = absurd (let no : ⊥ = cc in no)
entry_member {K} {V} cmp same k v (x ∷ es) e =
    let rest = entry_member cmp same k v es in
    by_cases (cmp k x.0) (λ o. cond (is_eq o) (Some x.1) (lookup cmp k es) ≡ Some v → IsMember (k, v) (x ∷ es))
    (λ _ g. inr (rest g))
    (λ t g. let key : x.0 ≡ k = sym (same k x.0 t) in let value : x.1 ≡ v = cc in inl (λ i. (key i, value i)))
    (λ _ g. inr (rest g))
    e

-- whether a key is in a list
module _ {K : Type 0} (cmp : K → K → Ordering) (total : IsTotalOrder cmp) (same : TellsApart cmp) where
  abbrev has : List K → K → Bool
  has xs k = list_any (λ x. is_eq (cmp k x)) xs

  pub has_member : (k : K) (xs : List K) → IsMember k xs → has xs k ≡ true
  has_member k xs h = any_of (λ x. is_eq (cmp k x)) k xs h (rw (tied_itself total k) refl)

  tied : (o : Ordering) → is_eq o ≡ true → o ≡ Equal
  tied Less e = absurd (let no : ⊥ = cc in no)
  tied Equal e = refl
  tied Greater e = absurd (let no : ⊥ = cc in no)

  pub member_has : (k : K) (xs : List K) → has xs k ≡ true → IsMember k xs
  member_has k xs h = let m = some_member (λ x. is_eq (cmp k x)) xs h in subst (λ x. IsMember x xs) (sym (same k m.0 (tied (cmp k m.0) m.2))) m.1

  below_trans : (k q : K) (xs : List K) → cmp k q ≡ Less → IsBelowAll cmp q xs → IsBelowAll cmp k xs
  below_trans k q [] e b = tt
  below_trans k q (x ∷ xs) e b = (total.trans k q x e b.0, below_trans k q xs e b.1)

  below_kept : (p : K → Bool) (k : K) (xs : List K) → IsBelowAll cmp k xs → IsBelowAll cmp k (filter p xs)
  below_kept p k [] b = tt
  below_kept p k (x ∷ xs) b = elim (p x) as (λ c. IsBelowAll cmp k (cond c (x ∷ filter p xs) (filter p xs))) [ true ↦ (b.0, below_kept p k xs b.1) | false ↦ below_kept p k xs b.1 ]

  pub rises_kept : (p : K → Bool) (xs : List K) → Rises cmp xs → Rises cmp (filter p xs)
  rises_kept p [] r = tt
  rises_kept p (x ∷ xs) r = elim (p x) as (λ c. Rises cmp (cond c (x ∷ filter p xs) (filter p xs))) [ true ↦ (below_kept p x xs r.0, rises_kept p xs r.1) | false ↦ rises_kept p xs r.1 ]

  has_not : (k : K) (xs : List K) → IsBelowAll cmp k xs → has xs k ≡ false
  has_not k [] b = refl
  has_not k (x ∷ xs) b = rw b.0 (has_not k xs b.1)

  has_first : (k : K) (xs : List K) → has (k ∷ xs) k ≡ true
  has_first k xs = rw (tied_itself total k) refl

  same_tail : (x : K) (xs ys : List K) → IsBelowAll cmp x xs → IsBelowAll cmp x ys → ((k : K) → has (x ∷ xs) k ≡ has (x ∷ ys) k) → (k : K) → has xs k ≡ has ys k
  same_tail x xs ys bx by alike k =
      by_cases (cmp k x) (λ o. (is_eq o || has xs k) ≡ (is_eq o || has ys k) → has xs k ≡ has ys k)
      (λ _ h. h)
      (λ t h. let is : k ≡ x = same k x t in rw (is, has_not x xs bx, has_not x ys by) refl)
      (λ _ h. h)
      (alike k)

  -- lists that rise and have the same keys are the same
  pub same_rising : (xs ys : List K) → Rises cmp xs → Rises cmp ys → ((k : K) → has xs k ≡ has ys k) → xs ≡ ys
  same_rising [] [] p r alike = refl
  same_rising [] (y ∷ ys) p r alike = apart (sym (has_first y ys) ∙ sym (alike y))
  same_rising (x ∷ xs) [] p r alike = apart (sym (has_first x xs) ∙ alike x)
  same_rising (x ∷ xs) (y ∷ ys) p r alike =
      by_cases (cmp x y) (λ o. cmp x y ≡ o → x ∷ xs ≡ y ∷ ys)
      (λ _ e. apart (sym (has_first x xs) ∙ alike x ∙ has_not x (y ∷ ys) (e, below_trans x y ys e r.0)))
      (λ _ e.
      let is : x ≡ y = same x y e in
      let alike2 : (k : K) → has (x ∷ xs) k ≡ has (x ∷ ys) k = subst (λ z. (k : K) → has (x ∷ xs) k ≡ has (z ∷ ys) k) (sym is) alike in
      let tails = same_rising xs ys p.1 r.1 (same_tail x xs ys p.0 (subst (λ z. IsBelowAll cmp z ys) (sym is) r.0) alike2) in
      λ i. is i ∷ tails i)
      (λ _ e. let f = greater_less cmp total x y e in apart (sym (has_first y ys) ∙ sym (alike y) ∙ has_not y (x ∷ xs) (f, below_trans y x xs f p.0)))
      refl
