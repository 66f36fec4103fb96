-- What holds of all of a list.
use Rattle.std.proofs.Common.{◌≡◌, sym, subst, refl, inl, inr, ℕ, ◌+◌, ◌≤◌, Bool, true, false, cond, List, [], ◌∷◌, Some, None, count_by, arith}
use Rattle.std.specs.Ordering.{nat_cmp, is_eq}
use Rattle.std.proofs.lemmas.List.Sums.{sum_by-cons}
use Rattle.fm_lattice.specs.laws.ChainLaws.{by_cases, nat_same}
use Rattle.fm_lattice.specs.Maps.{lookup}
use Rattle.fm_records.specs.Sets.{IsMember}
use Rattle.fm_planner.specs.inner.Slackness.{AllOf}

no_some : {A P : Type 0} {a : A} → None ≡ Some a → P
no_some e = absurd (let no : ⊥ = cc in no)

some_is : {A : Type 0} {a b : A} → Some a ≡ Some b → a ≡ b
some_is e = cc

pub all_member : {A : Type 0} (P : A → Type 0) (xs : List A) (x : A) → AllOf P xs → IsMember x xs → P x
all_member P [] x all m = absurd m
all_member P (y ∷ ys) x all m = elim m [ inl is ↦ subst P is all.0 | inr later ↦ all_member P ys x all.1 later ]

-- and so of what is looked up
pub all_at : {V : Type 0} (P : ℕ × V → Type 0) (es : List (ℕ × V)) → AllOf P es → (q : ℕ) (v : V) → lookup nat_cmp q es ≡ Some v → P (q, v)
all_at P [] all q v e = no_some e
all_at P (x ∷ es) all q v e =
    let rest = all_at P es all.1 q v in
    by_cases (nat_cmp q x.0) (λ o. cond (is_eq o) (Some x.1) (lookup nat_cmp q es) ≡ Some v → P (q, v))
    (λ _ g. rest g)
    (λ t g. let key : x.0 ≡ q = sym (nat_same q x.0 t) in let value : x.1 ≡ v = some_is g in subst P (λ i. (key i, value i)) all.0)
    (λ _ g. rest g)
    e

-- where some are counted, one passes the test
pub counted_member : {A : Type 0} (p : A → Bool) (xs : List A) → 1 ≤ count_by p xs → (x : A) × IsMember x xs × (p x ≡ true)
counted_member p [] h = absurd (omega arith)
counted_member p (x ∷ xs) h =
    let split : count_by p (x ∷ xs) ≡ cond (p x) 1 0 + count_by p xs = sum_by-cons (λ y. cond (p y) 1 0) x xs in
    let rest = counted_member p xs in
    elim (p x) as (λ b. p x ≡ b → 1 ≤ cond b 1 0 + count_by p xs → (y : _) × IsMember y (x ∷ xs) × (p y ≡ true)) [
      | true ↦ λ e _. (x, inl refl, e)
      | false ↦ λ _ g. let r = rest (omega (arith, g)) in (r.0, inr r.1, r.2)
    ] refl (subst (λ n. 1 ≤ n) split h)
