-- An arc touches a node if a search of the arcs' ends finds it.
use Rattle.std.proofs.Common.{◌≡◌, ◌⊎◌, ◌↔◌, ◌||◌, inl, inr, sym, ap, refl, Bool, true, false, cond, List, [], ◌∷◌, Some, IsTrue, IsSome, ℕ}
use Rattle.std.specs.List.{list_any}
use Rattle.std.specs.Ordering.{is_eq}
use Rattle.std.proofs.lemmas.Cmp.{tied_itself}
use Rattle.fm_lattice.specs.laws.ChainLaws.{by_cases}
use Rattle.fm_lattice.specs.Maps.{lookup}
use Rattle.fm_net.specs.declared.node.Node.{Node}
use Rattle.fm_net.specs.Nodes.{ends_cmp}
use Rattle.fm_net.specs.laws.NodeOrder.{ends_exact, ends_total}
use Rattle.fm_net.specs.Net.{Net, IsTouched}
use Rattle.fm_net.specs.inner.Ends.{is_end}
use Rattle.fm_net.specs.NetworkEquality.{same_node}
use Rattle.fm_net.specs.laws.NetworkEqualityLaws.{node_Decides}

abbrev Arcs : Type 0
Arcs = List ((Node × Node) × (ℕ × ℕ))

or_true : (b : Bool) → (b || true) ≡ true
or_true true = refl
or_true false = refl

at_first : (k : Node × Node) (e : (Node × Node) × (ℕ × ℕ)) (es : Arcs) → k ≡ e.0 → IsSome (lookup ends_cmp k (e ∷ es))
at_first k e es is = rw (is, tied_itself ends_total e.0) refl

at_later : (k : Node × Node) (e : (Node × Node) × (ℕ × ℕ)) (es : Arcs) → IsSome (lookup ends_cmp k es) → IsSome (lookup ends_cmp k (e ∷ es))
at_later k e es h = elim (is_eq (ends_cmp k e.0)) as (λ b. IsSome (cond b (Some e.1) (lookup ends_cmp k es))) [ true ↦ refl | false ↦ h ]

abbrev Touches : Node → Arcs → Type 0
Touches n es = (m : Node) × (IsSome (lookup ends_cmp (n, m) es) ⊎ IsSome (lookup ends_cmp (m, n) es))

further : (n : Node) (e : (Node × Node) × (ℕ × ℕ)) (es : Arcs) → Touches n es → Touches n (e ∷ es)
further n e es h = (h.0, elim h.1 [ inl s ↦ inl (at_later (n, h.0) e es s) | inr s ↦ inr (at_later (h.0, n) e es s) ])

found : (n : Node) (es : Arcs) → list_any (λ a. is_end n a.0) es ≡ true → Touches n es
found n [] h = absurd (cc)
found n (e ∷ es) h =
    let rest = found n es in
    elim (same_node e.0.0 n) as (λ a. same_node e.0.0 n ≡ a → ((a || same_node e.0.1 n) || list_any (λ a. is_end n a.0) es) ≡ true → Touches n (e ∷ es)) [
      | true ↦ λ is _. let same : e.0.0 ≡ n = (node_Decides e.0.0 n).0 is in (e.0.1, inl (at_first (n, e.0.1) e es (λ i. (sym same i, e.0.1))))
      | false ↦ λ _ g.
          elim (same_node e.0.1 n) as (λ b. same_node e.0.1 n ≡ b → (b || list_any (λ a. is_end n a.0) es) ≡ true → Touches n (e ∷ es)) [
            | true ↦ λ is _. let same : e.0.1 ≡ n = (node_Decides e.0.1 n).0 is in (e.0.0, inr (at_first (e.0.0, n) e es (λ i. (e.0.0, sym same i))))
            | false ↦ λ _ r. further n e es (rest r)
          ] refl g
    ] refl h

left : (n m : Node) (es : Arcs) → IsSome (lookup ends_cmp (n, m) es) → list_any (λ a. is_end n a.0) es ≡ true
left n m [] h = absurd (cc)
left n m (e ∷ es) h =
    let rest = left n m es in
    by_cases (ends_cmp (n, m) e.0) (λ o. IsSome (cond (is_eq o) (Some e.1) (lookup ends_cmp (n, m) es)) → list_any (λ a. is_end n a.0) (e ∷ es) ≡ true)
    (λ _ s. rw (rest s) (or_true (is_end n e.0)))
    (λ t _. let same = ends_exact (n, m) e.0 t in let is : same_node e.0.0 n ≡ true = (node_Decides e.0.0 n).1 (sym (ap (λ (k : Node × Node). k.0) same)) in rw is refl)
    (λ _ s. rw (rest s) (or_true (is_end n e.0)))
    h

entered : (n m : Node) (es : Arcs) → IsSome (lookup ends_cmp (m, n) es) → list_any (λ a. is_end n a.0) es ≡ true
entered n m [] h = absurd (cc)
entered n m (e ∷ es) h =
    let rest = entered n m es in
    by_cases (ends_cmp (m, n) e.0) (λ o. IsSome (cond (is_eq o) (Some e.1) (lookup ends_cmp (m, n) es)) → list_any (λ a. is_end n a.0) (e ∷ es) ≡ true)
    (λ _ s. rw (rest s) (or_true (is_end n e.0)))
    (λ t _. let same = ends_exact (m, n) e.0 t in let is : same_node e.0.1 n ≡ true = (node_Decides e.0.1 n).1 (sym (ap (λ (k : Node × Node). k.1) same)) in rw (is, or_true (same_node e.0.0 n)) refl)
    (λ _ s. rw (rest s) (or_true (is_end n e.0)))
    h

pub touches_said : (net : Net) (n : Node) → IsTrue (list_any (λ a. is_end n a.0) net.arcs) ↔ IsTouched net n
touches_said net n = (found n net.arcs, λ h. elim h.1 [ inl s ↦ left n h.0 net.arcs s | inr s ↦ entered n h.0 net.arcs s ])
