-- What single steps add to a network.
use Rattle.std.proofs.Common.{◌≡◌, ◌↔◌, ◌⊎◌, ℕ, Bool, true, false, cond, Option, Some, refl, sym, ◌∙◌, ap, subst, inl, inr, IsTrue, IsSome}
use Rattle.fm_records.specs.Table.{Table}
use Rattle.fm_net.specs.declared.node.Node.{Node}
use Rattle.fm_net.specs.Nodes.{ends_cmp}
use Rattle.fm_net.specs.laws.NodeOrder.{ends_exact, ends_total}
use Rattle.std.specs.Ordering.{is_eq}
use Rattle.std.specs.Cmp.{Equal-is}
use Rattle.std.proofs.lemmas.Cmp.{tied_itself}
use Rattle.fm_net.specs.Net.{Net, has_node, arc_at, are_ends}
use Rattle.fm_net.specs.Network.{is_node, arc_of}
use Rattle.fm_policy.specs.inner.NetworkSoFar.{Stands, HasArcTo, Adds}

pub adds_then : (k : Table) (x y z : Net) → Adds k x y → Adds k y z → Adds k x z
adds_then k x y z p q = record {
  part = λ part. q.part (p.part part);
  grows = record { nodes = λ n s. q.grows.nodes n (p.grows.nodes n s); arcs = λ a b l. q.grows.arcs a b (p.grows.arcs a b l) };
}

pub adds_node : (k : Table) (old new : Net) (node : Node) → IsTrue (is_node k node) → ((n : Node) → Stands new n ↔ ((n ≡ node) ⊎ Stands old n)) → ((a b : Node) → arc_at new a b ≡ arc_at old a b) → Adds k old new
adds_node k old new node is has arcs = record {
  part = λ part. record {
    nodes = λ n s. elim ((has n).0 s) [ inl e ↦ subst (λ z. IsTrue (is_node k z)) (sym e) is | inr before ↦ part.nodes n before ];
    arcs = λ a b l. arcs a b ∙ part.arcs a b (subst IsSome (arcs a b) l);
  };
  grows = record { nodes = λ n s. (has n).1 (inr s); arcs = λ a b l. subst IsSome (sym (arcs a b)) l };
}

pub stands_now : (old new : Net) (node : Node) → ((n : Node) → Stands new n ↔ ((n ≡ node) ⊎ Stands old n)) → Stands new node
stands_now old new node has = (has node).1 (inl refl)

same_ends : (from to : Node) → are_ends from to from to ≡ true
same_ends from to = ap is_eq (tied_itself ends_total (from, to))

-- an arc in its place
abbrev pub HasArc : Net → Net → Node → Node → ℕ × ℕ → Type 0
HasArc old new from to arc = (a b : Node) → arc_at new a b ≡ cond (are_ends from to a b) (Some arc) (arc_at old a b)

placed : (k : Table) (from to : Node) (arc : ℕ × ℕ) → arc_of k from to ≡ Some arc → (a b : Node) (t : Bool) → are_ends from to a b ≡ t → (x : Option (ℕ × ℕ)) → (IsSome x → x ≡ arc_of k a b) → IsSome (cond t (Some arc) x) → cond t (Some arc) x ≡ arc_of k a b
placed k from to arc is a b true same x part s = let e = ends_exact (from, to) (a, b) ((Equal-is (ends_cmp (from, to) (a, b))).0 same) in sym is ∙ (λ i. arc_of k (e i).0 (e i).1)
placed k from to arc is a b false same x part s = part s

some_still : (t : Bool) (arc : ℕ × ℕ) (x : Option (ℕ × ℕ)) → IsSome x → IsSome (cond t (Some arc) x)
some_still true arc x s = refl
some_still false arc x s = s

pub adds_arc : (k : Table) (old new : Net) (from to : Node) (arc : ℕ × ℕ) → arc_of k from to ≡ Some arc → ((n : Node) → has_node new n ≡ has_node old n) → HasArc old new from to arc → Adds k old new
adds_arc k old new from to arc is has arcs = record {
  part = λ part. record {
    nodes = λ n s. part.nodes n (subst (λ b. IsTrue b) (has n) s);
    arcs = λ a b l. arcs a b ∙ placed k from to arc is a b (are_ends from to a b) refl (arc_at old a b) (part.arcs a b) (subst IsSome (arcs a b) l);
  };
  grows = record {
    nodes = λ n s. subst (λ b. IsTrue b) (sym (has n)) s;
    arcs = λ a b l. subst IsSome (sym (arcs a b)) (some_still (are_ends from to a b) arc (arc_at old a b) l);
  };
}

pub leads_now : (old new : Net) (from to : Node) (arc : ℕ × ℕ) → HasArc old new from to arc → HasArcTo new from to
leads_now old new from to arc arcs = subst IsSome (sym (arcs from to)) (subst (λ t. IsSome (cond t (Some arc) (arc_at old from to))) (sym (same_ends from to)) refl)
