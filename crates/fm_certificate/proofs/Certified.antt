-- What the checker's walks find is that the flow is certified, and nothing less.
use Rattle.std.proofs.Common.{◌≡◌, ◌∙◌, ◌≤◌, sym, subst, refl, inl, inr, ℕ, ◌^◌, Bool, true, false, cond, List, [], ◌∷◌, Some, IsTrue}
use Rattle.std.specs.Prelude.{ℤ}
use Rattle.std.specs.Int.RustNames.{unsigned_abs}
use Rattle.std.specs.List.{list_all}
use Rattle.std.specs.Map.{keys_of}
use Rattle.std.specs.Ordering.{is_eq}
use Rattle.std.specs.Cmp.{unsigned_Decides}
use Rattle.fm_lattice.specs.laws.ChainLaws.{by_cases}
use Rattle.fm_lattice.specs.Maps.{lookup, IsRising}
use Rattle.fm_records.specs.Options.{or_else}
use Rattle.fm_records.specs.Sets.{IsMember}
use Rattle.fm_net.specs.declared.node.Node.{Node}
use Rattle.fm_net.specs.declared.node.Node.TheVariants.{Sink, Unscheduled, Request, Machine, Task}
use Rattle.fm_net.specs.Nodes.{node_cmp, ends_cmp}
use Rattle.fm_net.specs.laws.NodeOrder.{node_exact, node_total, ends_exact, ends_total}
use Rattle.fm_net.proofs.ListLaws.{has_member}
use Rattle.fm_net.specs.Net.{Net, CanBeNet}
use Rattle.fm_certificate.specs.Flows.{units_in, is_between}
use Rattle.fm_certificate.specs.Certificates.{AreSmall, IsCertified}
use Rattle.fm_certificate.specs.Totals.{Entry, source, target, units_at}
use Rattle.fm_certificate.specs.inner.Checks.{PricedArc, AreOf, IsComplementary, FitAll, reduced_at, sends}
use Rattle.fm_certificate.proofs.Members.{member_lookup}
use Rattle.fm_certificate.proofs.Balanced.{first_key, other_keys, no_keys, entry_units, leaves, enters, feasible_by}

-- Nodes beside potentials.

of_keys : (ps : List (Node × ℤ)) (ns : List Node) → AreOf ps ns → keys_of ps ≡ ns
of_keys [] [] h = refl
of_keys [] (n ∷ ns) h = absurd h
of_keys (p ∷ ps) [] h = absurd h
of_keys (p ∷ ps) (n ∷ ns) h = let rest = of_keys ps ns h.2 in λ i. h.0 i ∷ rest i

pub of_small : (ps : List (Node × ℤ)) (ns : List Node) → AreOf ps ns → AreSmall ps
of_small [] ns h n z e = absurd (let no : ⊥ = cc in no)
of_small (p ∷ ps) [] h n z e = absurd h
of_small (p ∷ ps) (m ∷ ns) h n z e =
    let rest = of_small ps ns h.2 n z in
    elim (is_eq (node_cmp n p.0)) as (λ b. cond b (Some p.1) (lookup node_cmp n ps) ≡ Some z → unsigned_abs z ≤ 2 ^ 100) [
      | true ↦ λ g. let is : p.1 ≡ z = cc in subst (λ w. unsigned_abs w ≤ 2 ^ 100) is h.1
      | false ↦ λ g. rest g
    ] e

are_of : (ps : List (Node × ℤ)) (ns : List Node) → keys_of ps ≡ ns → ((p : Node × ℤ) → IsMember p ps → unsigned_abs p.1 ≤ 2 ^ 100) → AreOf ps ns
are_of [] [] e small = tt
are_of [] (n ∷ ns) e small = no_keys n ns e
are_of (p ∷ ps) [] e small = no_keys p.0 (keys_of ps) (sym e)
are_of (p ∷ ps) (n ∷ ns) e small = (first_key p.0 n (keys_of ps) ns e, small p (inl refl), are_of ps ns (other_keys p.0 n (keys_of ps) ns e) (λ q m. small q (inr m)))

-- Arcs beside units.

module _ (potentials : List (Node × ℤ)) where
  fit_keys : (es : List Entry) (arcs : List PricedArc) → FitAll potentials es arcs → keys_of es ≡ keys_of arcs
  fit_keys [] [] h = refl
  fit_keys [] (a ∷ arcs) h = absurd h
  fit_keys (e ∷ es) [] h = absurd h
  fit_keys (e ∷ es) (a ∷ arcs) h = let rest = fit_keys es arcs h.2 in λ i. h.0 i ∷ rest i

  fit_at : (es : List Entry) (arcs : List PricedArc) → FitAll potentials es arcs → (k : Node × Node) (arc : ℕ × ℕ) → lookup ends_cmp k arcs ≡ Some arc → IsComplementary (or_else 0 (lookup ends_cmp k es)) arc.0 (reduced_at potentials (k, arc))
  fit_at es [] h k arc found = absurd (let no : ⊥ = cc in no)
  fit_at [] (a ∷ arcs) h k arc found = absurd h
  fit_at (e ∷ es) (a ∷ arcs) h k arc found =
      let rest = fit_at es arcs h.2 k arc in
      rw h.0
      (by_cases (ends_cmp k a.0) (λ o. cond (is_eq o) (Some a.1) (lookup ends_cmp k arcs) ≡ Some arc → IsComplementary (or_else 0 (cond (is_eq o) (Some e.1) (lookup ends_cmp k es))) arc.0 (reduced_at potentials (k, arc)))
      (λ _ g. rest g)
      (λ same g.
      let key : a.0 ≡ k = sym (ends_exact k a.0 same) in
      let value : a.1 ≡ arc = cc in
      subst (λ (b : PricedArc). IsComplementary e.1 b.1.0 (reduced_at potentials b)) (λ i. (key i, value i)) h.1)
      (λ _ g. rest g)
      found)

  fit_all : (es : List Entry) (arcs : List PricedArc) → keys_of es ≡ keys_of arcs → ((e : Entry) (a : PricedArc) → IsMember e es → IsMember a arcs → e.0 ≡ a.0 → IsComplementary e.1 a.1.0 (reduced_at potentials a)) → FitAll potentials es arcs
  fit_all [] [] keys fit = tt
  fit_all [] (a ∷ arcs) keys fit = no_keys a.0 (keys_of arcs) keys
  fit_all (e ∷ es) [] keys fit = no_keys e.0 (keys_of es) (sym keys)
  fit_all (e ∷ es) (a ∷ arcs) keys fit =
      let first = first_key e.0 a.0 (keys_of es) (keys_of arcs) keys in
      (first, fit e a (inl refl) (inl refl) first, fit_all es arcs (other_keys e.0 a.0 (keys_of es) (keys_of arcs) keys) (λ d b m l. fit d b (inr m) (inr l)))

all_of : (test : Node → Bool) (ns : List Node) → ((n : Node) → IsMember n ns → test n ≡ true) → list_all test ns ≡ true
all_of test [] h = refl
all_of test (n ∷ ns) h = let rest = all_of test ns (λ k m. h k (inr m)) in let first = h n (inl refl) in rw first rest

module _ (net : Net) (can : CanBeNet net) (flow : List Entry) (rises : IsRising ends_cmp flow) (potentials : List (Node × ℤ)) (nodes_rise : IsRising node_cmp potentials) where
  module _ (of : AreOf potentials net.nodes) (fit : FitAll potentials flow net.arcs) (sent : list_all (sends flow) net.nodes ≡ true) where
    keys : keys_of flow ≡ keys_of net.arcs
    keys = fit_keys potentials flow net.arcs fit

    pub certified : IsCertified net flow potentials
    certified = record {
      feasible = feasible_by net flow rises keys (λ from to arc h. (fit_at potentials flow net.arcs fit (from, to) arc h).within) sent;
      arcs = keys;
      nodes = of_keys potentials net.nodes of;
      small = of_small potentials net.nodes of;
      no_gain = λ from to arc h below. (fit_at potentials flow net.arcs fit (from, to) arc h).no_gain below;
      no_waste = λ from to arc h above. (fit_at potentials flow net.arcs fit (from, to) arc h).no_waste above;
    }

  module _ (cert : IsCertified net flow potentials) where
    pub certified_of : AreOf potentials net.nodes
    certified_of = are_of potentials net.nodes cert.nodes (λ p m. cert.small p.0 p.1 (member_lookup node_cmp node_total node_exact p potentials nodes_rise m))

    pub certified_fit : FitAll potentials flow net.arcs
    certified_fit =
        fit_all potentials flow net.arcs cert.arcs (λ e a m l same.
        let arc = member_lookup ends_cmp ends_total ends_exact a net.arcs can.arcs_rise l in
        let units : units_in flow a.0.0 a.0.1 ≡ e.1 = subst (λ (k : Node × Node). units_in flow k.0 k.1 ≡ e.1) same (entry_units net flow rises cert.arcs e m) in
        subst (λ u. IsComplementary u a.1.0 (reduced_at potentials a)) units
        (record { within = cert.feasible.within a.0.0 a.0.1 a.1 arc; no_gain = cert.no_gain a.0.0 a.0.1 a.1 arc; no_waste = cert.no_waste a.0.0 a.0.1 a.1 arc }))

    balanced : (n : Node) → IsMember n net.nodes → IsTrue (is_between n) → units_at target flow n ≡ units_at source flow n
    balanced n m b = sym (enters net flow rises cert.arcs n) ∙ cert.feasible.kept n (has_member node_cmp node_total node_exact n net.nodes m) b ∙ leaves net flow rises cert.arcs n

    sends_all : (n : Node) → IsMember n net.nodes → sends flow n ≡ true
    sends_all Sink m = refl
    sends_all (Unscheduled j) m = (unsigned_Decides _ _).1 (balanced (Unscheduled j) m refl)
    sends_all (Request r) m = (unsigned_Decides _ _).1 (balanced (Request r) m refl)
    sends_all (Machine q) m = (unsigned_Decides _ _).1 (balanced (Machine q) m refl)
    sends_all (Task t) m = (unsigned_Decides _ _).1 (sym (leaves net flow rises cert.arcs (Task t)) ∙ cert.feasible.sent t (has_member node_cmp node_total node_exact (Task t) net.nodes m))

    pub certified_sends : list_all (sends flow) net.nodes ≡ true
    certified_sends = all_of (sends flow) net.nodes sends_all
