-- Sets of the numbers that are listed.
use Rattle.std.proofs.Common.{◌≡◌, ℕ, ◌<◌, ◌≤◌, Bool, true, false, List, [], ◌∷◌, ◌++◌, refl, sym, ◌∙◌, ap, subst, arith, length, replicate, slice_index_or, slice_set, zero, suc, zero-add, inl, inr}
use Rattle.std.specs.Prelude.{◌==◌, ◌||◌}
use Rattle.std.proofs.lemmas.Bool.{cases_eq, eq-eqb, ne_eqb}
use Rattle.std.proofs.lemmas.List.{get_or-set_same, get_or-set_other}
use Rattle.std.proofs.lemmas.List.Folds.{list_any-append}
use Rattle.std.proofs.lemmas.List.FromFn.{get_or-map-range_with_len, fill_by_all}
use Rattle.fm_share.specs.Shares.{is_in, is_writer, writers_of}

or_true : (b : Bool) → (b || true) ≡ true
or_true true = refl
or_true false = refl

or_false : (b : Bool) → (b || false) ≡ b
or_false true = refl
or_false false = refl

-- at first nothing is marked
pub nothing_marked : (k n : ℕ) → slice_index_or (replicate k false) n false ≡ false
nothing_marked zero n = refl
nothing_marked (suc k) zero = refl
nothing_marked (suc k) (suc n) = nothing_marked k n

-- one more number is listed
listed_more : (ns : List ℕ) (x n : ℕ) → is_in n (ns ++ x ∷ []) ≡ (is_in n ns || (x == n))
listed_more ns x n = list_any-append (λ m. m == n) ns (x ∷ []) ∙ ap (λ b. is_in n ns || b) (or_false (x == n))

-- and it is marked
pub marked_more : (marks : List Bool) (ns : List ℕ) (x : ℕ) → x < length marks
    → ((n : ℕ) → slice_index_or marks n false ≡ is_in n ns)
    → (n : ℕ) → slice_index_or (slice_set marks x true) n false ≡ is_in n (ns ++ x ∷ [])
marked_more marks ns x fits was n =
    elim (cases_eq x n) [
      | inl same ↦
          let there : slice_index_or (slice_set marks x true) n false ≡ true = subst (λ z. slice_index_or (slice_set marks x true) z false ≡ true) same (get_or-set_same marks x true false fits) in
          there ∙ sym (listed_more ns x n ∙ ap (λ b. is_in n ns || b) (eq-eqb x n same) ∙ or_true (is_in n ns))
      | inr other ↦
          get_or-set_other marks x n true false (λ same. other (sym same)) ∙ was n
          ∙ sym (listed_more ns x n ∙ ap (λ b. is_in n ns || b) (ne_eqb x n other) ∙ or_false (is_in n ns))
    ]

-- what the set of the numbers that are listed has
pub is_listed : (listed : List ℕ) (n : ℕ) → n ≤ 64 → is_writer (writers_of listed) n ≡ is_in n listed
unfolding writers_of
is_listed listed n within = get_or-map-range_with_len (λ m. is_in m listed) 0 65 n n false (omega (arith, within)) (zero-add n)

-- the set of them is where just they are marked
pub set_is : (marks : List Bool) (listed : List ℕ) → length marks ≡ 65
    → ((n : ℕ) → slice_index_or marks n false ≡ is_in n listed)
    → record { is_listed = marks } ≡ writers_of listed
unfolding writers_of
set_is marks listed long marked =
    ap (λ (xs : List Bool). record { is_listed = xs }) (fill_by_all (λ n. is_in n listed) marks 65 false long (λ n _. marked n))
