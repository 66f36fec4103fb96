-- A node's ID is its place among nodes that rise.
use Rattle.std.proofs.Common.{◌≡◌, ℕ, zero, suc, ◌+◌, ◌<◌, ◌≤◌, List, [], ◌∷◌, length, get_or, Ok, Err, refl, sym, ◌∙◌, ap, subst, inl, inr, arith}
use Rattle.std.specs.List.Sorted.{IsSearchInRange, IsBinarySearchResult, IsNonDecreasingBy}
use Rattle.std.specs.Ordering.{ordering_index}
use Rattle.std.specs.declared.cmp.Ordering.{Ordering}
use Rattle.std.specs.declared.cmp.Ordering.TheVariants.{Less, Equal, Greater}
use Rattle.std.proofs.lemmas.List.{get_or_default}
use Rattle.std.proofs.lemmas.Cmp.{alike_right}
use Rattle.std.proofs.lemmas.Bool.{cases_order}
use Rattle.fm_lattice.specs.laws.ChainLaws.{by_cases}
use Rattle.fm_records.specs.Rising.{IsBelowAll, Rises}
use Rattle.fm_net.specs.declared.node.Node.{Node}
use Rattle.fm_net.specs.Nodes.{node_cmp}
use Rattle.fm_net.specs.laws.NodeOrder.{node_total}
use Rattle.fm_dimacs.specs.Text.{id_from}

index_le_two : (o : Ordering) → ordering_index o ≤ 2
index_le_two Less = omega arith
index_le_two Equal = omega arith
index_le_two Greater = omega arith

steps_up : (x y n : Node) → node_cmp x y ≡ Less → ordering_index (node_cmp x n) ≤ ordering_index (node_cmp y n)
steps_up x y n e =
    by_cases (node_cmp y n) (λ o. ordering_index (node_cmp x n) ≤ ordering_index o)
    (λ t. rw (node_total.trans x y n e t) (omega arith))
    (λ t. rw (sym (alike_right node_total y n x t) ∙ e) (omega arith))
    (λ t. index_le_two (node_cmp x n))

below_at : (n : Node) (ns : List Node) (j : ℕ) (d : Node) → IsBelowAll node_cmp n ns → j < length ns → node_cmp n (get_or ns j d) ≡ Less
below_at n [] j d b h = absurd (omega arith)
below_at n (m ∷ ns) zero d b h = b.0
below_at n (m ∷ ns) (suc j) d b h = below_at n ns j d b.1 (omega arith)

rising_at : (ns : List Node) (i j : ℕ) (d : Node) → Rises node_cmp ns → i < j → j < length ns → node_cmp (get_or ns i d) (get_or ns j d) ≡ Less
rising_at [] i j d r h g = absurd (omega arith)
rising_at (m ∷ ns) i zero d r h g = absurd (omega arith)
rising_at (m ∷ ns) zero (suc j) d r h g = below_at m ns j d r.0 (omega arith)
rising_at (m ∷ ns) (suc i) (suc j) d r h g = rising_at ns i j d r.1 (omega arith) (omega arith)

searchable : (ns : List Node) (n : Node) → Rises node_cmp ns → IsNonDecreasingBy (λ m. ordering_index (node_cmp m n)) ns
searchable ns n r i j d le h =
    elim (cases_order i j) [
      | inl e ↦ subst (λ z. ordering_index (node_cmp (get_or ns i d) n) ≤ ordering_index (node_cmp (get_or ns z d) n)) e (omega arith)
      | inr (inl less) ↦ steps_up (get_or ns i d) (get_or ns j d) n (rising_at ns i j d r less h)
      | inr (inr more) ↦ absurd (omega arith)
    ]

pub id_at : (id : ℕ) (ns : List Node) (n : Node) (i : ℕ) → Rises node_cmp ns → i < length ns → ((d : Node) → node_cmp (get_or ns i d) n ≡ Equal) → id_from id ns n ≡ id + i
id_at id [] n i r h at = absurd (omega arith)
id_at id (m ∷ ns) n zero r h at = rw (at n) (omega arith)
id_at id (m ∷ ns) n (suc i) r h at =
    let less : node_cmp m n ≡ Less = sym (alike_right node_total (get_or ns i m) n m (at m)) ∙ below_at m ns i m r.0 (omega arith) in
    rw less (id_at (id + 1) ns n i r.1 (omega arith) at ∙ omega arith)

id_absent : (id : ℕ) (ns : List Node) (n : Node) → ((j : ℕ) (d : Node) → j < length ns → (node_cmp (get_or ns j d) n ≡ Equal) → ⊥) → id_from id ns n ≡ 0
id_absent id [] n none = refl
id_absent id (m ∷ ns) n none =
    let rest = id_absent (id + 1) ns n (λ j d h e. none (suc j) d (omega arith) e) in
    by_cases (node_cmp m n) (λ o. node_cmp m n ≡ o → id_from id (m ∷ ns) n ≡ 0)
    (λ _ e. rw e rest) (λ _ e. absurd (none 0 m (omega arith) e)) (λ _ e. rw e rest) refl

-- the place of the node gives its ID
pub at_place : (ns : List Node) (n m : Node) (i : ℕ) → Rises node_cmp ns → i < length ns → m ≡ get_or ns i m → node_cmp m n ≡ Equal → i + 1 ≡ id_from 1 ns n
at_place ns n m i r h is e = sym (id_at 1 ns n i r h (λ d. ap (λ x. node_cmp x n) (get_or_default ns i d m h ∙ sym is) ∙ e) ∙ omega arith)

-- what a search finds gives the ID
pub found : (ns : List Node) (n : Node) (i : ℕ) → Rises node_cmp ns → IsSearchInRange (Ok i) (length ns) → IsBinarySearchResult (λ m. node_cmp m n) ns (Ok i) → i + 1 ≡ id_from 1 ns n
found ns n i r h at = sym (id_at 1 ns n i r h at ∙ omega arith)

-- a search that finds nothing says that there is no such node
pub not_found : (ns : List Node) (n : Node) (i : ℕ) → Rises node_cmp ns → IsBinarySearchResult (λ m. node_cmp m n) ns (Err i) → 0 ≡ id_from 1 ns n
not_found ns n i r parted =
    let parts = parted (searchable ns n r) in
    sym (id_absent 1 ns n (λ j d h e.
    elim (cases_order j i) [
      | inl is ↦ let no : Equal ≡ Greater = sym e ∙ parts.1 j d (omega arith) h in cc
      | inr (inl less) ↦ let no : Equal ≡ Less = sym e ∙ parts.0 j d (omega arith) less in cc
      | inr (inr more) ↦ let no : Equal ≡ Greater = sym e ∙ parts.1 j d (omega arith) h in cc
    ]))
