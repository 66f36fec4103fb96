-- Each change of a network leaves one that can be.
use Rattle.std.proofs.Common.{◌≡◌, ◌∙◌, ◌↔◌, ◌⊎◌, ap, sym, subst, refl, inl, inr, true, false, cond, Option, Some, None, IsTrue, IsSome, ℕ}
use Rattle.std.specs.Ordering.{is_eq}
use Rattle.std.specs.declared.cmp.Ordering.TheVariants.{Less, Equal, Greater}
use Rattle.std.proofs.lemmas.Cmp.{tied_itself}
use Rattle.fm_lattice.specs.laws.ChainLaws.{by_cases}
use Rattle.fm_lattice.specs.Maps.{lookup, IsRising}
use Rattle.fm_records.specs.Rising.{Rises}
use Rattle.fm_net.specs.declared.node.Node.{Node}
use Rattle.fm_net.specs.declared.node.Node.TheVariants.{Sink}
use Rattle.fm_net.specs.Nodes.{node_cmp, ends_cmp, IsInRange}
use Rattle.fm_net.specs.laws.NodeOrder.{node_exact, node_total, ends_exact}
use Rattle.fm_net.specs.Net.{Net, CanBeNet, IsArc, IsTouched, has_node, arc_at, are_ends}

-- an arc is unchanged if its ends are
arc_kept : (old new : Net) (from to : Node) (arc : ℕ × ℕ) → IsArc old from to arc → has_node new from ≡ true → has_node new to ≡ true → IsArc new from to arc
arc_kept old new from to arc a f t = record {
  from_stands = f;
  to_stands = t;
  kinds = a.kinds;
  capacity_above = a.capacity_above;
  capacity_fits = a.capacity_fits;
  cost_within = a.cost_within;
}

-- which nodes there are, after one was put and after one was dropped
module _ (old new : Net) (n : Node) where
  module _ (has : (q : Node) → has_node new q ≡ cond (is_eq (node_cmp n q)) true (has_node old q)) (q : Node) where
    put_or_old : IsTrue (has_node new q) → (q ≡ n) ⊎ IsTrue (has_node old q)
    put_or_old h =
        by_cases (node_cmp n q) (λ o. cond (is_eq o) true (has_node old q) ≡ true → (q ≡ n) ⊎ IsTrue (has_node old q))
        (λ _ g. inr g) (λ e _. inl (sym (node_exact n q e))) (λ _ g. inr g) (sym (has q) ∙ h)

    has_put_or_old : (q ≡ n) ⊎ IsTrue (has_node old q) → IsTrue (has_node new q)
    has_put_or_old s = has q ∙ elim s [
      | inl is ↦ let tied : node_cmp n q ≡ Equal = ap (node_cmp n) is ∙ tied_itself node_total n in rw tied refl
      | inr h ↦ elim (is_eq (node_cmp n q)) as (λ b. cond b true (has_node old q) ≡ true) [ true ↦ refl | false ↦ h ]
    ]

    pub put_has : IsTrue (has_node new q) ↔ ((q ≡ n) ⊎ IsTrue (has_node old q))
    put_has = (put_or_old, has_put_or_old)

  module _ (has : (q : Node) → has_node new q ≡ cond (is_eq (node_cmp n q)) false (has_node old q)) (q : Node) where
    abbrev Left : Type 0
    Left = (q ≡ n → ⊥) × IsTrue (has_node old q)

    is_left : IsTrue (has_node new q) → Left
    is_left h =
        by_cases (node_cmp n q) (λ o. node_cmp n q ≡ o → cond (is_eq o) false (has_node old q) ≡ true → Left)
        (λ _ e g. (λ is. let no : Less ≡ Equal = sym e ∙ ap (node_cmp n) is ∙ tied_itself node_total n in cc, g))
        (λ _ _ g. absurd (cc))
        (λ _ e g. (λ is. let no : Greater ≡ Equal = sym e ∙ ap (node_cmp n) is ∙ tied_itself node_total n in cc, g))
        refl (sym (has q) ∙ h)

    has_left : Left → IsTrue (has_node new q)
    has_left p =
        has q ∙ by_cases (node_cmp n q) (λ o. cond (is_eq o) false (has_node old q) ≡ true)
        (λ _. p.1) (λ e. absurd (p.0 (sym (node_exact n q e)))) (λ _. p.1)

    pub drop_has : IsTrue (has_node new q) ↔ Left
    drop_has = (is_left, has_left)

module _ (old new : Net) (p : CanBeNet old) where
  module _ (n : Node) (rises : Rises node_cmp new.nodes) (arcs : new.arcs ≡ old.arcs) where
    stood : (from to : Node) (arc : ℕ × ℕ) → arc_at new from to ≡ Some arc → arc_at old from to ≡ Some arc
    stood from to arc h = sym (ap (lookup ends_cmp (from, to)) arcs) ∙ h

    -- after a node was put
    module _ (in_range : IsInRange n) (has : (q : Node) → has_node new q ≡ cond (is_eq (node_cmp n q)) true (has_node old q)) where
      stays : (q : Node) → has_node old q ≡ true → has_node new q ≡ true
      stays q h = has q ∙ elim (is_eq (node_cmp n q)) as (λ b. cond b true (has_node old q) ≡ true) [ true ↦ refl | false ↦ h ]

      pub after_put_node : CanBeNet new
      after_put_node = record {
        has_sink = stays Sink p.has_sink;
        nodes_rise = rises;
        arcs_rise = subst (IsRising ends_cmp) (sym arcs) p.arcs_rise;
        in_range = λ q h.
            by_cases (node_cmp n q) (λ o. cond (is_eq o) true (has_node old q) ≡ true → IsInRange q)
            (λ _ g. p.in_range q g) (λ e _. subst IsInRange (node_exact n q e) in_range) (λ _ g. p.in_range q g)
            (sym (has q) ∙ h);
        are_arcs = λ from to arc h.
            let a = p.are_arcs from to arc (stood from to arc h) in
            arc_kept old new from to arc a (stays from a.from_stands) (stays to a.to_stands);
      }

    -- after a node was dropped
    module _ (not_sink : ¬ (n ≡ Sink)) (not_touched : ¬ (IsTouched old n)) (has : (q : Node) → has_node new q ≡ cond (is_eq (node_cmp n q)) false (has_node old q)) where
      others : (q : Node) → ¬ (n ≡ q) → has_node new q ≡ has_node old q
      others q apart =
          has q ∙ by_cases (node_cmp n q) (λ o. cond (is_eq o) false (has_node old q) ≡ has_node old q)
          (λ _. refl) (λ e. absurd (apart (node_exact n q e))) (λ _. refl)

      left : (q : Node) → has_node new q ≡ true → has_node old q ≡ true
      left q h = elim (is_eq (node_cmp n q)) as (λ b. cond b false (has_node old q) ≡ true → has_node old q ≡ true) [ true ↦ λ g. absurd (cc) | false ↦ λ g. g ] (sym (has q) ∙ h)

      some : (o : Option (ℕ × ℕ)) (arc : ℕ × ℕ) → o ≡ Some arc → IsSome o
      some o arc e = rw e refl

      pub after_drop_node : CanBeNet new
      after_drop_node = record {
        has_sink = others Sink not_sink ∙ p.has_sink;
        nodes_rise = rises;
        arcs_rise = subst (IsRising ends_cmp) (sym arcs) p.arcs_rise;
        in_range = λ q h. p.in_range q (left q h);
        are_arcs = λ from to arc h.
            let was = stood from to arc h in
            let a = p.are_arcs from to arc was in
            arc_kept old new from to arc a
            (others from (λ e. not_touched (to, inl (some (arc_at old n to) arc (ap (λ m. arc_at old m to) e ∙ was)))) ∙ a.from_stands)
            (others to (λ e. not_touched (from, inr (some (arc_at old from n) arc (ap (λ m. arc_at old from m) e ∙ was)))) ∙ a.to_stands);
      }

  module _ (from to : Node) (nodes : new.nodes ≡ old.nodes) (rising : IsRising ends_cmp new.arcs) where
    has_same : (q : Node) → has_node new q ≡ has_node old q
    has_same q = ap (λ ns. has_node (record { nodes = ns; arcs = old.arcs }) q) nodes

    -- the arcs of the new network are those of the old, and what holds of the one put
    with_arcs : ((a b : Node) (arc : ℕ × ℕ) → arc_at new a b ≡ Some arc → IsArc old a b arc) → CanBeNet new
    with_arcs each = record {
      has_sink = has_same Sink ∙ p.has_sink;
      nodes_rise = subst (Rises node_cmp) (sym nodes) p.nodes_rise;
      arcs_rise = rising;
      in_range = λ q h. p.in_range q (sym (has_same q) ∙ h);
      are_arcs = λ a b arc h. let is = each a b arc h in arc_kept old new a b arc is (has_same a ∙ is.from_stands) (has_same b ∙ is.to_stands);
    }

    -- after an arc was put
    pub after_put_arc : (arc : ℕ × ℕ) → IsArc old from to arc → ((a b : Node) → arc_at new a b ≡ cond (are_ends from to a b) (Some arc) (arc_at old a b)) → CanBeNet new
    after_put_arc arc is at =
        with_arcs (λ a b v h.
        by_cases (ends_cmp (from, to) (a, b)) (λ o. cond (is_eq o) (Some arc) (arc_at old a b) ≡ Some v → IsArc old a b v)
        (λ _ g. p.are_arcs a b v g)
        (λ e g.
        let same = ends_exact (from, to) (a, b) e in
        let value : arc ≡ v = cc in
        subst (λ (w : ℕ × ℕ). IsArc old a b w) value (subst (λ (k : Node × Node). IsArc old k.0 k.1 arc) same is))
        (λ _ g. p.are_arcs a b v g)
        (sym (at a b) ∙ h))

    -- after an arc was dropped
    pub after_drop_arc : ((a b : Node) → arc_at new a b ≡ cond (are_ends from to a b) None (arc_at old a b)) → CanBeNet new
    after_drop_arc at =
        with_arcs (λ a b v h.
        elim (are_ends from to a b) as (λ c. cond c None (arc_at old a b) ≡ Some v → IsArc old a b v)
        [ true ↦ λ g. absurd (cc) | false ↦ λ g. p.are_arcs a b v g ]
        (sym (at a b) ∙ h))
