-- The keys of a table's lists, and walks over them.
use Rattle.std.proofs.Common.{◌≡◌, ◌⊎◌, ℕ, zero, suc, ◌<◌, ◌≤◌, true, false, cond, List, [], ◌∷◌, Some, None, length, get_or, take, refl, sym, ◌∙◌, ap, subst, inl, inr, arith}
use Rattle.std.specs.Ordering.{nat_cmp, is_eq}
use Rattle.std.specs.Cmp.{Equal-is}
use Rattle.fm_lattice.specs.laws.ChainLaws.{nat_same}
use Rattle.fm_lattice.specs.Maps.{lookup}
use Rattle.fm_records.specs.Options.{or_else}
use Rattle.fm_tally.specs.JobCounts.{job_count}

-- the list has the key
abbrev pub HasKey : {V : Type 0} → ℕ → List (ℕ × V) → Type 0
HasKey q [] = ⊥
HasKey q (e ∷ es) = (e.0 ≡ q) ⊎ HasKey q es

module _ {V : Type 0} where
  pub listed : (q : ℕ) (es : List (ℕ × V)) (v : V) → lookup nat_cmp q es ≡ Some v → HasKey q es
  listed q [] v h = absurd (let no : ⊥ = cc in no)
  listed q (e ∷ es) v h =
      elim (is_eq (nat_cmp q e.0)) as (λ b. is_eq (nat_cmp q e.0) ≡ b → cond b (Some e.1) (lookup nat_cmp q es) ≡ Some v → HasKey q (e ∷ es)) [
        | true ↦ λ t _. inl (sym (nat_same q e.0 ((Equal-is (nat_cmp q e.0)).0 t)))
        | false ↦ λ _ found. inr (listed q es v found)
      ] refl h

  key_more : (q : ℕ) (es : List (ℕ × V)) (i : ℕ) (d : ℕ × V) → i < length es → HasKey q (take (suc i) es) → HasKey q (take i es) ⊎ ((get_or es i d).0 ≡ q)
  key_more q [] i d h has = absurd (omega arith)
  key_more q (e ∷ es) zero d h has = elim has [ inl is ↦ inr is | inr later ↦ absurd later ]
  key_more q (e ∷ es) (suc i) d h has = elim has [
    | inl is ↦ inl (inl is)
    | inr later ↦ elim (key_more q es i d (omega arith) later) [ inl before ↦ inl (inr before) | inr is ↦ inr is ]
  ]

  -- what holds of the keys so far holds of one more
  pub one_more : (P Q : ℕ → Type 0) (es : List (ℕ × V)) (i : ℕ) (e : ℕ × V) → i < length es → e ≡ get_or es i e
      → ((q : ℕ) → P q → Q q) → Q e.0 → ((q : ℕ) → HasKey q (take i es) → P q) → (q : ℕ) → HasKey q (take (suc i) es) → Q q
  one_more P Q es i e h is keeps here so_far q has = elim (key_more q es i e h has) [
    | inl before ↦ keeps q (so_far q before)
    | inr same ↦ subst Q (ap (λ (x : ℕ × V). x.0) is ∙ same) here
  ]

-- a job that counts has a count
pub counted_listed : (j : ℕ) (counts : List (ℕ × ℕ)) → 1 ≤ job_count counts j → HasKey j counts
counted_listed j counts some = elim (lookup nat_cmp j counts) as (λ o. lookup nat_cmp j counts ≡ o → 1 ≤ or_else 0 o → HasKey j counts) [
  | None ↦ λ _ no. absurd (omega (arith, no))
  | Some n ↦ λ is _. listed j counts n is
] refl some
