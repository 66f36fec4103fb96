-- Tables of values at keys: their keys rise, and a lookup gives the key's value.
use Rattle.std.specs.Prelude.{◌≡◌, cond, List, [], ◌∷◌, Option, Some, None, option_map, refl}
use Rattle.std.specs.List.{filter_map, cons_option}
use Rattle.std.specs.Ordering.{is_eq}
use Rattle.std.specs.Cmp.{IsTotalOrder}
use Rattle.std.specs.declared.cmp.Ordering.{Ordering}
use Rattle.std.specs.declared.cmp.Ordering.TheVariants.{Less, Equal, Greater}
use Rattle.std.proofs.Common.{sym, ap, ◌∙◌, subst, inl, inr}
use Rattle.std.proofs.lemmas.Cmp.{tied_itself}
use Rattle.fm_lattice.specs.Chains.{by_order, TellsApart}
use Rattle.fm_lattice.specs.laws.ChainLaws.{by_cases, greater_less}
use Rattle.fm_lattice.specs.Maps.{lookup, IsBelow, IsRising}
use Rattle.fm_records.specs.Rising.{IsBelowAll, Rises}
use Rattle.fm_records.specs.Sets.{IsMember, insert_once, rising, with_value, table}

pub some_none : {A B : Type 0} (a : A) → Some a ≡ None → B
some_none a e = absurd (let no : ⊥ = cc in no)

module _ {K : Type 0} (cmp : K → K → Ordering) (total : IsTotalOrder cmp) (same : TellsApart cmp) where
  below_all_trans : (k q : K) (xs : List K) → cmp k q ≡ Less → IsBelowAll cmp q xs → IsBelowAll cmp k xs
  below_all_trans k q [] e b = tt
  below_all_trans k q (x ∷ xs) e b = (total.trans k q x e b.0, below_all_trans k q xs e b.1)

  below_insert : (k q : K) (xs : List K) → cmp k q ≡ Less → IsBelowAll cmp k xs → IsBelowAll cmp k (insert_once cmp q xs)
  below_insert k q [] e b = (e, tt)
  below_insert k q (x ∷ xs) e b =
      by_cases (cmp q x) (λ o. IsBelowAll cmp k (by_order o (q ∷ x ∷ xs) (x ∷ xs) (x ∷ insert_once cmp q xs)))
      (λ _. (e, b)) (λ _. b) (λ _. (b.0, below_insert k q xs e b.1))

  pub rises_insert : (q : K) (xs : List K) → Rises cmp xs → Rises cmp (insert_once cmp q xs)
  rises_insert q [] r = (tt, tt)
  rises_insert q (x ∷ xs) r =
      by_cases (cmp q x) (λ o. Rises cmp (by_order o (q ∷ x ∷ xs) (x ∷ xs) (x ∷ insert_once cmp q xs)))
      (λ e. ((e, below_all_trans q x xs e r.0), r)) (λ _. r) (λ e. (below_insert x q xs (greater_less cmp total q x e) r.0, rises_insert q xs r.1))

  pub rises_rising : (xs : List K) → Rises cmp (rising cmp xs)
  rises_rising [] = tt
  rises_rising (x ∷ xs) = rises_insert x (rising cmp xs) (rises_rising xs)

  member_new : (k : K) (xs : List K) → IsMember k (insert_once cmp k xs)
  member_new k [] = inl refl
  member_new k (x ∷ xs) =
      by_cases (cmp k x) (λ o. IsMember k (by_order o (k ∷ x ∷ xs) (x ∷ xs) (x ∷ insert_once cmp k xs)))
      (λ _. inl refl) (λ e. inl (sym (same k x e))) (λ _. inr (member_new k xs))

  member_still : (q k : K) (xs : List K) → IsMember q xs → IsMember q (insert_once cmp k xs)
  member_still q k [] h = absurd h
  member_still q k (x ∷ xs) h =
      by_cases (cmp k x) (λ o. IsMember q (by_order o (k ∷ x ∷ xs) (x ∷ xs) (x ∷ insert_once cmp k xs)))
      (λ _. inr h) (λ _. h) (λ _. elim h [ inl e ↦ inl e | inr later ↦ inr (member_still q k xs later) ])

  pub member_rising : (q : K) (xs : List K) → IsMember q xs → IsMember q (rising cmp xs)
  member_rising q [] h = absurd h
  member_rising q (x ∷ xs) h = elim h [
    | inl e ↦ subst (λ z. IsMember z (insert_once cmp x (rising cmp xs))) e (member_new x (rising cmp xs))
    | inr later ↦ member_still q x (rising cmp xs) (member_rising q xs later)
  ]

  module _ {V : Type 0} (f : K → Option V) where
    abbrev rows : List K → List (K × V)
    rows xs = filter_map (with_value f) xs

    abbrev row : K → Option V → List K → List (K × V)
    row x o xs = cons_option (option_map (λ v. (x, v)) o) (rows xs)

    below_rows : (k : K) (xs : List K) → IsBelowAll cmp k xs → IsBelow cmp k (rows xs)
    below_rows k [] b = tt
    below_rows k (x ∷ xs) b = elim (f x) as (λ o. IsBelow cmp k (row x o xs)) [ None ↦ below_rows k xs b.1 | Some v ↦ (b.0, below_rows k xs b.1) ]

    rising_rows : (xs : List K) → Rises cmp xs → IsRising cmp (rows xs)
    rising_rows [] r = tt
    rising_rows (x ∷ xs) r = elim (f x) as (λ o. IsRising cmp (row x o xs)) [ None ↦ rising_rows xs r.1 | Some v ↦ (below_rows x xs r.0, rising_rows xs r.1) ]

    pub rising_table : (ks : List K) → IsRising cmp (table cmp ks f)
    rising_table ks = rising_rows (rising cmp ks) (rises_rising ks)

    absent : (q : K) (xs : List K) → f q ≡ None → lookup cmp q (rows xs) ≡ None
    absent q [] e = refl
    absent q (x ∷ xs) e =
        let rest = absent q xs e in
        elim (f x) as (λ o. f x ≡ o → lookup cmp q (row x o xs) ≡ None) [
          | None ↦ λ _. rest
          | Some v ↦ λ g. by_cases (cmp q x) (λ r. cond (is_eq r) (Some v) (lookup cmp q (rows xs)) ≡ None) (λ _. rest) (λ t. some_none v (sym g ∙ ap f (sym (same q x t)) ∙ e)) (λ _. rest)
        ] refl

    present : (q : K) (v : V) (xs : List K) → IsMember q xs → f q ≡ Some v → lookup cmp q (rows xs) ≡ Some v
    present q v [] m e = absurd m
    present q v (x ∷ xs) m e =
        elim (f x) as (λ o. f x ≡ o → lookup cmp q (row x o xs) ≡ Some v) [
          | None ↦ λ g. elim m [ inl is ↦ some_none v (sym e ∙ ap f (sym is) ∙ g) | inr later ↦ present q v xs later e ]
          | Some w ↦ λ g. by_cases (cmp q x) (λ r. cond (is_eq r) (Some w) (lookup cmp q (rows xs)) ≡ Some v)
              (λ l. elim m [ inl is ↦ let no : Less ≡ Equal = sym l ∙ ap (cmp q) is ∙ tied_itself total q in cc | inr later ↦ present q v xs later e ])
              (λ t. sym g ∙ ap f (sym (same q x t)) ∙ e)
              (λ l. elim m [ inl is ↦ let no : Greater ≡ Equal = sym l ∙ ap (cmp q) is ∙ tied_itself total q in cc | inr later ↦ present q v xs later e ])
        ] refl

    pub lookup_table : (ks : List K) (q : K) → ((v : V) → f q ≡ Some v → IsMember q ks) → lookup cmp q (table cmp ks f) ≡ f q
    lookup_table ks q named = elim (f q) as (λ o. f q ≡ o → lookup cmp q (table cmp ks f) ≡ o) [
      | None ↦ λ e. absent q (rising cmp ks) e
      | Some v ↦ λ e. present q v (rising cmp ks) (member_rising q ks (named v e)) e
    ] refl
