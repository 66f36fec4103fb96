-- Sums over lists: of functions that agree on the members, of two functions, and of one member's part.
use Rattle.std.proofs.Common.{◌≡◌, ◌∙◌, ap, sym, refl, inl, inr, ℕ, ◌+◌, ◌*◌, cond, List, [], ◌∷◌, arith}
use Rattle.std.specs.List.{sum_by}
use Rattle.std.proofs.Math.Nat.{mul-zero}
use Rattle.std.proofs.lemmas.List.Sums.{sum_by-cons}
use Rattle.std.proofs.lemmas.Cmp.{tied_itself}
use Rattle.std.specs.declared.cmp.Ordering.TheVariants.{Less, Equal}
use Rattle.fm_records.specs.Sets.{IsMember}
use Rattle.fm_records.specs.Rising.{IsBelowAll, Rises}
use Rattle.fm_net.specs.declared.node.Node.{Node}
use Rattle.fm_net.specs.Nodes.{node_cmp}
use Rattle.fm_net.specs.laws.NodeOrder.{node_total}
use Rattle.fm_net.specs.NetworkEquality.{same_node}
use Rattle.fm_certificate.proofs.Alike.{same_itself, other_node}

module _ {X : Type 0} where
  pub sum_same : (f g : X → ℕ) (xs : List X) → ((x : X) → IsMember x xs → f x ≡ g x) → sum_by f xs ≡ sum_by g xs
  sum_same f g [] h = refl
  sum_same f g (x ∷ xs) h =
      let rest = sum_same f g xs (λ y m. h y (inr m)) in
      let first = h x (inl refl) in
      omega (arith, sum_by-cons f x xs, sum_by-cons g x xs)

  pub sum_none : (f : X → ℕ) (xs : List X) → ((x : X) → IsMember x xs → f x ≡ 0) → sum_by f xs ≡ 0
  sum_none f [] h = refl
  sum_none f (x ∷ xs) h =
      let rest = sum_none f xs (λ y m. h y (inr m)) in
      let first = h x (inl refl) in
      omega (arith, sum_by-cons f x xs)

  pub sum_both : (f g : X → ℕ) (xs : List X) → sum_by (λ x. f x + g x) xs ≡ sum_by f xs + sum_by g xs
  sum_both f g [] = refl
  sum_both f g (x ∷ xs) =
      let rest = sum_both f g xs in
      omega (arith, sum_by-cons (λ x. f x + g x) x xs, sum_by-cons f x xs, sum_by-cons g x xs)

-- the part of one node
abbrev pub part : (Node → ℕ) → Node → ℕ → Node → ℕ
part weight m units n = weight n * cond (same_node m n) units 0

part_other : (weight : Node → ℕ) (m : Node) (units : ℕ) (n : Node) → (m ≡ n → ⊥) → part weight m units n ≡ 0
part_other weight m units n h = rw (other_node m n h) (mul-zero (weight n))

part_itself : (weight : Node → ℕ) (m : Node) (units : ℕ) → part weight m units m ≡ weight m * units
part_itself weight m units = rw (same_itself m) refl

-- a node below all of a list is none of it
pub not_below : (m : Node) (ns : List Node) → IsBelowAll node_cmp m ns → (n : Node) → IsMember n ns → m ≡ n → ⊥
not_below m [] b n h is = absurd h
not_below m (k ∷ ns) b n h is = elim h [
  | inl e ↦ let tied : node_cmp m k ≡ Equal = ap (node_cmp m) (e ∙ sym is) ∙ tied_itself node_total m in let no : Less ≡ Equal = sym b.0 ∙ tied in absurd (cc)
  | inr later ↦ not_below m ns b.1 n later is
]

-- over nodes that rise, the parts of a member sum to what it weighs
pub sum_part : (weight : Node → ℕ) (m : Node) (units : ℕ) (ns : List Node) → Rises node_cmp ns → IsMember m ns → sum_by (part weight m units) ns ≡ weight m * units
sum_part weight m units [] r h = absurd h
sum_part weight m units (n ∷ ns) r h = elim h [
  | inl is ↦
      let rest = sum_none (part weight m units) ns (λ k later. part_other weight m units k (λ e. not_below n ns r.0 k later (is ∙ e))) in
      let first : part weight m units n ≡ weight m * units = ap (part weight m units) is ∙ part_itself weight m units in
      omega (arith, sum_by-cons (part weight m units) n ns)
  | inr later ↦
      let rest = sum_part weight m units ns r.1 later in
      let first = part_other weight m units n (λ e. not_below n ns r.0 m later (sym e)) in
      omega (arith, sum_by-cons (part weight m units) n ns)
]

-- if two functions agree on all nodes but one, and their sums agree, they agree there
pub last_alike : (f g : Node → ℕ) (m : Node) (ns : List Node) → Rises node_cmp ns → IsMember m ns → ((n : Node) → IsMember n ns → (m ≡ n → ⊥) → f n ≡ g n) → sum_by f ns ≡ sum_by g ns → f m ≡ g m
last_alike f g m [] r h alike sums = absurd h
last_alike f g m (n ∷ ns) r h alike sums = elim h [
  | inl is ↦
      let rest = sum_same f g ns (λ k later. alike k (inr later) (λ e. not_below n ns r.0 k later (is ∙ e))) in
      let first : f n ≡ g n = omega (arith, sum_by-cons f n ns, sum_by-cons g n ns) in
      ap f (sym is) ∙ first ∙ ap g is
  | inr later ↦
      let first = alike n (inl refl) (λ e. not_below n ns r.0 m later (sym e)) in
      let rest : sum_by f ns ≡ sum_by g ns = omega (arith, sum_by-cons f n ns, sum_by-cons g n ns) in
      last_alike f g m ns r.1 later (λ k l. alike k (inr l)) rest
]
