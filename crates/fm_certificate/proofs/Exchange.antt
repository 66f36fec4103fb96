-- Sums over arcs arcs sums over nodes: what leaves and enters each node, weighed.
use Rattle.std.proofs.Common.{◌≡◌, ◌∙◌, ap, sym, refl, inl, inr, ℕ, ◌+◌, ◌*◌, cond, List, [], ◌∷◌, arith}
use Rattle.std.specs.List.{sum_by}
use Rattle.std.proofs.Math.Nat.{mul-zero, mul-add}
use Rattle.std.proofs.lemmas.List.Sums.{sum_by-cons}
use Rattle.fm_records.specs.Sets.{IsMember}
use Rattle.fm_records.specs.Rising.{Rises}
use Rattle.fm_net.specs.declared.node.Node.{Node}
use Rattle.fm_net.specs.Nodes.{node_cmp}
use Rattle.fm_net.specs.NetworkEquality.{same_node}
use Rattle.fm_certificate.specs.Flows.{Units}
use Rattle.fm_certificate.proofs.Sums.{sum_same, sum_none, sum_both, part, sum_part}

abbrev pub Arc : Type 0
Arc = (Node × Node) × (ℕ × ℕ)

-- the units of an arc
abbrev pub units_at : Units → Arc → ℕ
units_at units a = units a.0.0 a.0.1

-- the units of an arc at one of its ends
abbrev pub units_by : (Arc → Node) → Units → Node → Arc → ℕ
units_by end units n a = cond (same_node (end a) n) (units_at units a) 0

module _ (end : Arc → Node) (weight : Node → ℕ) (units : Units) (ns : List Node) (rises : Rises node_cmp ns) where
  -- what the arcs of the list have at the node
  abbrev at_node : List Arc → Node → ℕ
  at_node arcs n = sum_by (units_by end units n) arcs

  none : (n : Node) → weight n * at_node [] n ≡ 0
  none n = mul-zero (weight n)

  split : (a : Arc) (arcs : List Arc) (n : Node) → weight n * at_node (a ∷ arcs) n ≡ part weight (end a) (units_at units a) n + weight n * at_node arcs n
  split a arcs n = ap (λ k. weight n * k) (sum_by-cons (units_by end units n) a arcs) ∙ mul-add (weight n) (units_by end units n a) (at_node arcs n)

  -- the arcs' units, weighed by one of their ends, are what the nodes have, weighed
  pub exchanged : (arcs : List Arc) → ((a : Arc) → IsMember a arcs → IsMember (end a) ns) → sum_by (λ a. weight (end a) * units_at units a) arcs ≡ sum_by (λ n. weight n * at_node arcs n) ns
  exchanged [] stand = sym (sum_none (λ n. weight n * at_node [] n) ns (λ n _. none n))
  exchanged (a ∷ arcs) stand =
      let rest = exchanged arcs (λ b m. stand b (inr m)) in
      let one = sum_part weight (end a) (units_at units a) ns rises (stand a (inl refl)) in
      let same = sum_same (λ n. weight n * at_node (a ∷ arcs) n) (λ n. part weight (end a) (units_at units a) n + weight n * at_node arcs n) ns (λ n _. split a arcs n) in
      let both = sum_both (part weight (end a) (units_at units a)) (λ n. weight n * at_node arcs n) ns in
      omega (arith, sum_by-cons (λ (b : Arc). weight (end b) * units_at units b) a arcs)
