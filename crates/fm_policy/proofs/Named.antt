-- A set into which names are put one by one has, with those still to be put, all of them.
use Rattle.std.proofs.Common.{◌≡◌, ℕ, Bool, true, false, cond, List, [], ◌∷◌, refl, sym, ap, ◌∙◌}
use Rattle.std.specs.Prelude.{◌||◌}
use Rattle.std.specs.List.{list_any, AllByRecursion}
use Rattle.std.specs.List.Sorted.{IsStrictlySortedBy}
use Rattle.std.specs.Ordering.{nat_cmp, is_eq, ordering_reverse}
use Rattle.std.specs.declared.cmp.Ordering.{Ordering}
use Rattle.std.specs.declared.cmp.Ordering.TheVariants.{Less, Equal, Greater}
use Rattle.fm_lattice.specs.Chains.{by_order}
use Rattle.fm_lattice.specs.laws.ChainLaws.{by_cases, nat_same}
use Rattle.fm_records.specs.Sets.{insert_once, rising}
use Rattle.fm_records.proofs.TableLaws.{rises_rising}
use Rattle.fm_records.specs.Rising.{IsBelowAll, Rises}
use Rattle.std.specs.Cmp.{nat_cmp_total}
use Rattle.fm_net.proofs.ListLaws.{same_rising}

abbrev pub has : List ℕ → ℕ → Bool
has xs q = list_any (λ x. is_eq (nat_cmp q x)) xs

reversed : (o : Ordering) → is_eq (ordering_reverse o) ≡ is_eq o
reversed Less = refl
reversed Equal = refl
reversed Greater = refl

turned : (x q : ℕ) → is_eq (nat_cmp x q) ≡ is_eq (nat_cmp q x)
turned x q = ap is_eq (nat_cmp_total.antisymm x q) ∙ reversed (nat_cmp q x)

moved : (b c d : Bool) → (cond b true c || d) ≡ (c || (b || d))
moved true true d = refl
moved true false d = refl
moved false c d = refl

pub again : (b c : Bool) → (b || c) ≡ (b || (b || c))
again true c = refl
again false c = refl

pub swapped : (b c d : Bool) → (b || (c || d)) ≡ (c || (b || d))
swapped true true d = refl
swapped true false d = refl
swapped false true d = refl
swapped false false d = refl

-- the names that stand, and those still to come, are all
abbrev pub AllNamed : List ℕ → List ℕ → List ℕ → Type 0
AllNamed all keys rest = (q : ℕ) → (has keys q || has rest q) ≡ has all q

-- one more is put
pub named_more : (all keys new rest : List ℕ) (x : ℕ) → AllNamed all keys (x ∷ rest) → ((q : ℕ) → has new q ≡ cond (is_eq (nat_cmp x q)) true (has keys q)) → AllNamed all new rest
named_more all keys new rest x before put q =
    ap (λ b. b || has rest q) (put q) ∙ moved (is_eq (nat_cmp x q)) (has keys q) (has rest q)
    ∙ ap (λ b. has keys q || (b || has rest q)) (turned x q) ∙ before q

has_insert : (x : ℕ) (zs : List ℕ) (q : ℕ) → has (insert_once nat_cmp x zs) q ≡ (is_eq (nat_cmp q x) || has zs q)
has_insert x [] q = refl
has_insert x (z ∷ zs) q =
    by_cases (nat_cmp x z) (λ o. nat_cmp x z ≡ o → has (by_order o (x ∷ z ∷ zs) (z ∷ zs) (z ∷ insert_once nat_cmp x zs)) q ≡ (is_eq (nat_cmp q x) || has (z ∷ zs) q))
    (λ _ _. refl)
    (λ _ e. again (is_eq (nat_cmp q z)) (has zs q) ∙ ap (λ w. is_eq (nat_cmp q w) || has (z ∷ zs) q) (sym (nat_same x z e)))
    (λ _ _. ap (λ b. is_eq (nat_cmp q z) || b) (has_insert x zs q) ∙ swapped (is_eq (nat_cmp q z)) (is_eq (nat_cmp q x)) (has zs q))
    refl

pub has_rising : (xs : List ℕ) (q : ℕ) → has (rising nat_cmp xs) q ≡ has xs q
has_rising [] q = refl
has_rising (x ∷ xs) q = has_insert x (rising nat_cmp xs) q ∙ ap (λ b. is_eq (nat_cmp q x) || b) (has_rising xs q)

below_all : (n : ℕ) (ns : List ℕ) → AllByRecursion (λ m. nat_cmp n m ≡ Less) ns → IsBelowAll nat_cmp n ns
below_all n [] h = tt
below_all n (m ∷ ns) h = (h.0, below_all n ns h.1)

pub rises_said : (ns : List ℕ) → IsStrictlySortedBy nat_cmp ns → Rises nat_cmp ns
unfolding IsStrictlySortedBy
rises_said [] h = tt
rises_said (n ∷ ns) h = (below_all n ns h.0, rises_said ns h.1)

ended : (b c : Bool) → (b || false) ≡ c → b ≡ c
ended true c h = h
ended false c h = h

-- once none is still to come, the names that stand, in order, are all, rising
pub named_all : (all keys : List ℕ) → AllNamed all keys [] → IsStrictlySortedBy nat_cmp keys → keys ≡ rising nat_cmp all
named_all all keys named sorted =
    same_rising nat_cmp nat_cmp_total nat_same keys (rising nat_cmp all) (rises_said keys sorted) (rises_rising nat_cmp nat_cmp_total nat_same all)
    (λ q. ended (has keys q) (has all q) (named q) ∙ sym (has_rising all q))
