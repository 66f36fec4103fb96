-- What the walks over arcs and nodes find is that the flow is feasible.
use Rattle.std.proofs.Common.{◌≡◌, ◌∙◌, ◌≤◌, ap, sym, refl, inl, inr, ℕ, Bool, true, false, cond, ◌&&◌, List, [], ◌∷◌, Some, IsTrue, arith}
use Rattle.std.specs.List.{sum_by, list_all}
use Rattle.std.specs.Map.{keys_of}
use Rattle.std.specs.Ordering.{is_eq}
use Rattle.std.specs.Cmp.{unsigned_Decides}
use Rattle.std.proofs.lemmas.List.Sums.{sum_by-cons}
use Rattle.fm_lattice.specs.laws.ChainLaws.{by_cases}
use Rattle.fm_lattice.specs.Maps.{lookup, IsRising}
use Rattle.fm_records.specs.Options.{or_else}
use Rattle.fm_records.specs.Sets.{IsMember}
use Rattle.fm_net.specs.declared.node.Node.{Node}
use Rattle.fm_net.specs.declared.node.Node.TheVariants.{Sink, Unscheduled, Request, Machine, Task}
use Rattle.fm_net.specs.Nodes.{node_cmp, ends_cmp}
use Rattle.fm_net.specs.laws.NodeOrder.{node_exact, node_total, ends_exact, ends_total}
use Rattle.fm_net.proofs.ListLaws.{member_has}
use Rattle.fm_net.specs.Net.{Net, has_node, arc_at}
use Rattle.fm_net.specs.NetworkEquality.{same_node}
use Rattle.fm_certificate.specs.Flows.{units_in, leaving, entering, is_between, IsFeasible}
use Rattle.fm_certificate.specs.Totals.{Entry, source, target, units_at}
use Rattle.fm_certificate.specs.inner.Checks.{PricedArc, AreUnitsWithin, sends}
use Rattle.fm_certificate.proofs.Members.{member_lookup}
use Rattle.fm_certificate.proofs.Sums.{sum_same}

pub first_key : {K : Type 0} (j k : K) (js ks : List K) → j ∷ js ≡ k ∷ ks → j ≡ k
first_key j k js ks e = cc

pub other_keys : {K : Type 0} (j k : K) (js ks : List K) → j ∷ js ≡ k ∷ ks → js ≡ ks
other_keys j k js ks e = cc

pub no_keys : {K P : Type 0} (k : K) (ks : List K) → [] ≡ k ∷ ks → P
no_keys k ks e = absurd (let no : ⊥ = cc in no)

-- a sum over keys
same_sum : (h : Node × Node → ℕ) (es : List Entry) (arcs : List PricedArc) → keys_of es ≡ keys_of arcs → sum_by (λ (a : PricedArc). h a.0) arcs ≡ sum_by (λ (e : Entry). h e.0) es
same_sum h [] [] keys = refl
same_sum h [] (a ∷ arcs) keys = no_keys a.0 (keys_of arcs) keys
same_sum h (e ∷ es) [] keys = no_keys e.0 (keys_of es) (sym keys)
same_sum h (e ∷ es) (a ∷ arcs) keys =
    let first = ap h (first_key e.0 a.0 (keys_of es) (keys_of arcs) keys) in
    let rest = same_sum h es arcs (other_keys e.0 a.0 (keys_of es) (keys_of arcs) keys) in
    omega (arith, sum_by-cons (λ (b : PricedArc). h b.0) a arcs, sum_by-cons (λ (d : Entry). h d.0) e es)

-- what a test says of members
all_member : (test : Node → Bool) (n : Node) (ns : List Node) → list_all test ns ≡ true → IsMember n ns → test n ≡ true
all_member test n [] h m = absurd m
all_member test n (k ∷ ns) h m =
    elim (test k) as (λ b. test k ≡ b → (b && list_all test ns) ≡ true → test n ≡ true) [
      | true ↦ λ e g. elim m [ inl is ↦ ap test (sym is) ∙ e | inr later ↦ all_member test n ns g later ]
      | false ↦ λ _ g. absurd (let no : ⊥ = cc in no)
    ] refl h

module _ (net : Net) (flow : List Entry) (rises : IsRising ends_cmp flow) (keys : keys_of flow ≡ keys_of net.arcs) where
  -- the units of the flow's map are its entries
  pub entry_units : (e : Entry) → IsMember e flow → units_in flow e.0.0 e.0.1 ≡ e.1
  entry_units e m = ap (or_else 0) (member_lookup ends_cmp ends_total ends_exact e flow rises m)

  -- what the arcs have at a node is what the entries have
  flow_sum : (end : Node × Node → Node) (n : Node) → sum_by (λ (a : PricedArc). cond (same_node (end a.0) n) (units_in flow a.0.0 a.0.1) 0) net.arcs ≡ units_at end flow n
  flow_sum end n =
      same_sum (λ k. cond (same_node (end k) n) (units_in flow k.0 k.1) 0) flow net.arcs keys
      ∙ sum_same _ _ flow (λ e m. ap (λ units. cond (same_node (end e.0) n) units 0) (entry_units e m))

  pub leaves : (n : Node) → leaving net (units_in flow) n ≡ units_at source flow n
  leaves n = flow_sum source n

  pub enters : (n : Node) → entering net (units_in flow) n ≡ units_at target flow n
  enters n = flow_sum target n

  module _ (within : (from to : Node) (arc : ℕ × ℕ) → arc_at net from to ≡ Some arc → units_in flow from to ≤ arc.0) (sent : list_all (sends flow) net.nodes ≡ true) where
    sends_at : (n : Node) → IsTrue (has_node net n) → sends flow n ≡ true
    sends_at n h = all_member (sends flow) n net.nodes sent (member_has node_cmp node_total node_exact n net.nodes h)

    passed : (n : Node) → units_at target flow n ≡ units_at source flow n → entering net (units_in flow) n ≡ leaving net (units_in flow) n
    passed n h = enters n ∙ h ∙ sym (leaves n)

    kept : (n : Node) → IsTrue (has_node net n) → IsTrue (is_between n) → entering net (units_in flow) n ≡ leaving net (units_in flow) n
    kept Sink h b = absurd (let no : ⊥ = cc in no)
    kept (Unscheduled j) h b = passed (Unscheduled j) ((unsigned_Decides _ _).0 (sends_at (Unscheduled j) h))
    kept (Request r) h b = passed (Request r) ((unsigned_Decides _ _).0 (sends_at (Request r) h))
    kept (Machine m) h b = passed (Machine m) ((unsigned_Decides _ _).0 (sends_at (Machine m) h))
    kept (Task t) h b = absurd (let no : ⊥ = cc in no)

    pub feasible_by : IsFeasible net (units_in flow)
    feasible_by = record {
      within = within;
      sent = λ t h. leaves (Task t) ∙ (unsigned_Decides _ _).0 (sends_at (Task t) h);
      kept = kept;
    }

within_keys : (es : List Entry) (arcs : List PricedArc) → AreUnitsWithin es arcs → keys_of es ≡ keys_of arcs
within_keys [] [] h = refl
within_keys [] (a ∷ arcs) h = absurd h
within_keys (e ∷ es) [] h = absurd h
within_keys (e ∷ es) (a ∷ arcs) h = let rest = within_keys es arcs h.2 in λ i. h.0 i ∷ rest i

within_at : (es : List Entry) (arcs : List PricedArc) → AreUnitsWithin es arcs → (k : Node × Node) (arc : ℕ × ℕ) → lookup ends_cmp k arcs ≡ Some arc → or_else 0 (lookup ends_cmp k es) ≤ arc.0
within_at es [] h k arc found = absurd (let no : ⊥ = cc in no)
within_at [] (a ∷ arcs) h k arc found = absurd h
within_at (e ∷ es) (a ∷ arcs) h k arc found =
    let rest = within_at es arcs h.2 k arc in
    rw h.0
    (by_cases (ends_cmp k a.0) (λ o. cond (is_eq o) (Some a.1) (lookup ends_cmp k arcs) ≡ Some arc → or_else 0 (cond (is_eq o) (Some e.1) (lookup ends_cmp k es)) ≤ arc.0)
    (λ _ g. rest g)
    (λ same g. let value : a.1 ≡ arc = cc in omega (arith, h.1, ap (λ (v : ℕ × ℕ). v.0) value))
    (λ _ g. rest g)
    found)

pub feasible : (net : Net) (flow : List Entry) → IsRising ends_cmp flow → AreUnitsWithin flow net.arcs → list_all (sends flow) net.nodes ≡ true → IsFeasible net (units_in flow)
feasible net flow rises all sent = feasible_by net flow rises (within_keys flow net.arcs all) (λ from to arc h. within_at flow net.arcs all (from, to) arc h) sent
