-- A sum over arcs of what the steps over them weigh is a sum over the steps.
use Rattle.std.proofs.Common.{◌≡◌, ◌∙◌, ap, sym, refl, inl, inr, ℕ, ◌+◌, ◌*◌, Bool, true, false, cond, List, [], ◌∷◌, Some, arith}
use Rattle.std.specs.Bool.{Decides}
use Rattle.std.specs.List.{sum_by}
use Rattle.std.proofs.Math.Nat.{mul-zero, mul-add}
use Rattle.std.proofs.lemmas.List.Sums.{sum_by-cons}
use Rattle.fm_lattice.specs.Maps.{IsRising}
use Rattle.fm_records.specs.laws.RecordEqualityLaws.{pair_Decides}
use Rattle.fm_records.specs.Sets.{IsMember}
use Rattle.fm_net.specs.declared.node.Node.{Node}
use Rattle.fm_net.specs.Nodes.{ends_cmp}
use Rattle.fm_net.specs.laws.NodeOrder.{ends_total, ends_exact}
use Rattle.fm_net.proofs.ListLaws.{entry_member}
use Rattle.fm_net.specs.Net.{Net, arc_at}
use Rattle.fm_net.specs.NetworkEquality.{same_node, same_ends}
use Rattle.fm_net.specs.laws.NetworkEqualityLaws.{node_Decides}
use Rattle.fm_certificate.specs.Flows.{leaving, entering}
use Rattle.fm_certificate.proofs.Sums.{sum_same, sum_none, sum_both}
use Rattle.fm_certificate.proofs.Exchange.{Arc}
use Rattle.fm_paths.specs.TaskPaths.{crossings}
use Rattle.fm_paths.proofs.Single.{single}

pub ends_Decides : (a b : Node × Node) → Decides (same_ends a b) (a ≡ b)
ends_Decides a b = pair_Decides same_node same_node node_Decides node_Decides a b

other_ends : (a b : Node × Node) → (b ≡ a → ⊥) → same_ends a b ≡ false
other_ends a b h = elim (same_ends a b) as (λ s. same_ends a b ≡ s → s ≡ false) [ true ↦ λ e. absurd (h (sym ((ends_Decides a b).0 e))) | false ↦ λ _. refl ] refl

module _ (weight : Node × Node → ℕ) where
  -- what one step weighs at an arc
  abbrev at : Node × Node → Arc → ℕ
  at s a = weight a.0 * cond (same_ends s a.0) 1 0

  abbrev rest_at : List (Node × Node) → Arc → ℕ
  rest_at ss a = weight a.0 * crossings ss a.0

  at_other : (s : Node × Node) (a : Arc) → (a.0 ≡ s → ⊥) → at s a ≡ 0
  at_other s a h = rw (other_ends s a.0 h) (mul-zero (weight a.0))

  at_itself : (s : Node × Node) (v : ℕ × ℕ) → at s (s, v) ≡ weight s
  at_itself s v = rw ((ends_Decides s s).1 refl) (omega arith)

  split : (s : Node × Node) (ss : List (Node × Node)) (a : Arc) → rest_at (s ∷ ss) a ≡ at s a + rest_at ss a
  split s ss a = ap (λ n. weight a.0 * n) (sum_by-cons (λ x. cond (same_ends x a.0) 1 0) s ss) ∙ mul-add (weight a.0) (cond (same_ends s a.0) 1 0) (crossings ss a.0)

  pub crossed : (arcs : List Arc) → IsRising ends_cmp arcs → (ss : List (Node × Node)) → ((s : Node × Node) → IsMember s ss → (v : ℕ × ℕ) × IsMember (s, v) arcs) → sum_by (rest_at ss) arcs ≡ sum_by weight ss
  crossed arcs rises [] stand = sum_none (rest_at []) arcs (λ a _. mul-zero (weight a.0))
  crossed arcs rises (s ∷ ss) stand =
      let rest = crossed arcs rises ss (λ x m. stand x (inr m)) in
      let there = stand s (inl refl) in
      let one = single ends_cmp ends_total (at s) arcs (s, there.0) rises there.1 (λ a _ h. at_other s a h) in
      let same = sum_same (rest_at (s ∷ ss)) (λ a. at s a + rest_at ss a) arcs (λ a _. split s ss a) in
      let both = sum_both (at s) (rest_at ss) arcs in
      omega (arith, at_itself s there.0, sum_by-cons weight s ss)

-- so what leaves a node, and what enters it, are steps at the node

as_part : (b : Bool) (n : ℕ) → cond b n 0 ≡ cond b 1 0 * n
as_part true n = omega arith
as_part false n = omega arith

module _ (net : Net) (rises : IsRising ends_cmp net.arcs) (ss : List (Node × Node)) (stand : (s : Node × Node) → IsMember s ss → (v : ℕ × ℕ) × (arc_at net s.0 s.1 ≡ Some v)) where
  abbrev sent : Node → Node → ℕ
  sent from to = crossings ss (from, to)

  at_end : (end : Node × Node → Node) (n : Node) → sum_by (λ (a : Arc). cond (same_node (end a.0) n) (sent a.0.0 a.0.1) 0) net.arcs ≡ sum_by (λ s. cond (same_node (end s) n) 1 0) ss
  at_end end n =
      sum_same (λ (a : Arc). cond (same_node (end a.0) n) (sent a.0.0 a.0.1) 0) (λ (a : Arc). cond (same_node (end a.0) n) 1 0 * crossings ss a.0) net.arcs (λ a _. as_part (same_node (end a.0) n) (crossings ss a.0))
      ∙ crossed (λ s. cond (same_node (end s) n) 1 0) net.arcs rises ss (λ s m. let there = stand s m in (there.0, entry_member ends_cmp ends_exact s there.0 net.arcs there.1))

  pub leaving_is : (n : Node) → leaving net sent n ≡ sum_by (λ s. cond (same_node s.0 n) 1 0) ss
  leaving_is = at_end (λ s. s.0)

  pub entering_is : (n : Node) → entering net sent n ≡ sum_by (λ s. cond (same_node s.1 n) 1 0) ss
  entering_is = at_end (λ s. s.1)
