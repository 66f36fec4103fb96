-- A flow by number with potentials that fit is certified by its names.
use Rattle.std.proofs.Common.{◌≡◌, ◌∙◌, ap, sym, subst, refl, inl, inr, ℕ, zero, suc, ◌<◌, ◌≤◌, ◌^◌, Bool, true, false, cond, List, [], ◌∷◌, Some, None, length, nat_eq, arith}
use Rattle.std.specs.Prelude.{ℤ, pos, negsuc, neg_ℤ, ◌+ℤ◌, ◌-ℤ◌, ◌≤ℤ◌, slice_get, slice_index}
use Rattle.std.specs.Int.RustNames.{unsigned_abs}
use Rattle.std.specs.List.{list_all}
use Rattle.std.specs.Cmp.{unsigned_Decides}
use Rattle.std.specs.declared.cmp.Ordering.TheVariants.{Less, Greater}
use Rattle.std.proofs.lemmas.Int.{ints}
use Rattle.std.proofs.lemmas.Cmp.{tied_itself}
use Rattle.std.proofs.lemmas.Option.{slice_get_within}
use Rattle.std.proofs.lemmas.List.Sums.{sum_by-cons}
use Rattle.fm_lattice.specs.laws.ChainLaws.{less_greater}
use Rattle.fm_lattice.specs.Maps.{IsRising}
use Rattle.fm_records.specs.Sets.{IsMember}
use Rattle.fm_records.specs.Rising.{Rises}
use Rattle.fm_net.specs.declared.node.Node.{Node}
use Rattle.fm_net.specs.declared.node.Node.TheVariants as node
use Rattle.fm_net.specs.Nodes.{node_cmp, ends_cmp}
use Rattle.fm_net.specs.laws.NodeOrder.{node_total}
use Rattle.fm_net.specs.Net.{Net, CanBeNet}
use Rattle.fm_net.specs.NetworkEquality.{same_node}
use Rattle.fm_certificate.specs.Certificates.{potential_in, IsCertified}
use Rattle.fm_certificate.specs.Totals.{Entry, source, target, units_at}
use Rattle.fm_certificate.specs.inner.Checks.{AreOf, IsComplementary, FitAll, reduced_at, sends}
use Rattle.fm_certificate.proofs.Certified.{certified}
use Rattle.fm_cycles.specs.declared.indexed_arcs.IndexedArc.{IndexedArc}
use Rattle.fm_cycles.specs.declared.indexed_arcs.ResidualArc.{ResidualArc}
use Rattle.fm_cycles.specs.Walks.{AreBounded, ArePotentials}
use Rattle.fm_cycles.specs.Residual.{residual, start_of, head_of, cost_by, CanBeTaken}
use Rattle.fm_cycles.specs.Found.{costs_in}
use Rattle.fm_cycles.specs.Units.{inflow_at, outflow_at, units_with_end as numbered_at}
use Rattle.fm_indexed.specs.declared.node_ranges.NodeRanges.{NodeRanges}
use Rattle.fm_indexed.specs.Numbered.{NetArc, IsArcOf, AreArcsOf, IsNumbered}
use Rattle.fm_indexed.specs.Feasible.{IsConserved, IsFlowOf}
use Rattle.fm_indexed.specs.inner.Named.{named_units, named_potentials}
use Rattle.fm_indexed.proofs.Placed.{one_place, place_of_member, earlier_less}
use Rattle.fm_indexed.proofs.KindsAt.{kind_is, kind_there}
use Rattle.fm_indexed.proofs.Formed.{number_at_place, as_many}
use Rattle.fm_indexed.proofs.Summed.{within_at_place}

none_there : {A P : Type 0} {x : A} → None ≡ Some x → P
none_there e = absurd (let no : ⊥ = cc in no)

small_size : (z : ℤ) → (neg_ℤ (pos (2 ^ 100)) ≤ℤ z) × (z ≤ℤ pos (2 ^ 100)) → unsigned_abs z ≤ 2 ^ 100
small_size (pos n) h = let a = h.0 in let b = h.1 in omega (arith, ints)
small_size (negsuc n) h = let a = h.0 in let b = h.1 in omega (arith, ints)

-- potentials by name are of the nodes
are_of : (nodes : List Node) (values : List ℤ) → AreBounded (2 ^ 100) (costs_in values) → AreOf (named_potentials nodes values) nodes
are_of [] values b = tt
are_of (n ∷ nodes) [] b = (refl, small_size (pos 0) (b 0), are_of nodes [] b)
are_of (n ∷ nodes) (p ∷ values) b = (refl, small_size p (b 0), are_of nodes values (λ v. b (suc v)))

-- and a node's is the one at its place
found_first : (n : Node) (z : ℤ) (es : List (Node × ℤ)) → potential_in ((n, z) ∷ es) n ≡ z
found_first n z es = rw (tied_itself node_total n) refl

found_later : (n m : Node) (z : ℤ) (es : List (Node × ℤ)) → node_cmp m n ≡ Less → potential_in ((m, z) ∷ es) n ≡ potential_in es n
found_later n m z es less = let greater : node_cmp n m ≡ Greater = less_greater node_cmp node_total m n less in rw greater refl

potential_there : (nodes : List Node) (values : List ℤ) (v : ℕ) (n : Node) → Rises node_cmp nodes → slice_get nodes v ≡ Some n → potential_in (named_potentials nodes values) n ≡ costs_in values v
potential_there [] values v n rises at = none_there at
potential_there (m ∷ nodes) [] zero n rises at = let is : m ≡ n = cc in ap (λ k. potential_in ((k, pos 0) ∷ named_potentials nodes []) n) is ∙ found_first n (pos 0) (named_potentials nodes [])
potential_there (m ∷ nodes) (p ∷ values) zero n rises at = let is : m ≡ n = cc in ap (λ k. potential_in ((k, p) ∷ named_potentials nodes values) n) is ∙ found_first n p (named_potentials nodes values)
potential_there (m ∷ nodes) [] (suc v) n rises at = found_later n m (pos 0) (named_potentials nodes []) (earlier_less (m ∷ nodes) 0 (suc v) m n rises refl at (omega arith)) ∙ potential_there nodes [] v n rises.1 at
potential_there (m ∷ nodes) (p ∷ values) (suc v) n rises at = found_later n m p (named_potentials nodes values) (earlier_less (m ∷ nodes) 0 (suc v) m n rises refl at (omega arith)) ∙ potential_there nodes values v n rises.1 at

-- if each arc's units fit, all do
fit_all : (potentials : List (Node × ℤ)) (arcs : List NetArc) (units : List ℕ) → length units ≡ length arcs → ((i : ℕ) (b : NetArc) → slice_get arcs i ≡ Some b → IsComplementary (slice_index units i) b.1.0 (reduced_at potentials b)) → FitAll potentials (named_units arcs units) arcs
fit_all potentials [] units sized each = tt
fit_all potentials (b ∷ arcs) [] sized each = absurd (omega arith)
fit_all potentials (b ∷ arcs) (u ∷ units) sized each = (refl, each 0 b refl, fit_all potentials arcs units (omega arith) (λ i c at. each (suc i) c at))

-- the units that leave, or enter, a node
module _ (end : Node × Node → Node) (n : Node) where
  abbrev part : Entry → ℕ
  part e = cond (same_node (end e.0) n) e.1 0

  no_part : (k : Node × Node) → part (k, 0) ≡ 0
  no_part k = let none : ℕ = 0 in elim (same_node (end k) n) as (λ t. cond t none none ≡ none) [ true ↦ refl | false ↦ refl ]

  no_units : (arcs : List NetArc) → units_at end (named_units arcs []) n ≡ 0
  no_units [] = refl
  no_units (b ∷ arcs) = let rest = no_units arcs in omega (arith, no_part b.0, sum_by-cons part (b.0, 0) (named_units arcs []))

module _ (nodes : List Node) (rises : Rises node_cmp nodes) (end : Node × Node → Node) (place : IndexedArc → ℕ) (there : (b : NetArc) (a : IndexedArc) → IsArcOf nodes b a → slice_get nodes (place a) ≡ Some (end b.0)) (v : ℕ) (n : Node) (at : slice_get nodes v ≡ Some n) where
  pub same_sum : (arcs : List NetArc) (numbers : List IndexedArc) (units : List ℕ) → AreArcsOf nodes arcs numbers → units_at end (named_units arcs units) n ≡ numbered_at place numbers units v
  same_sum [] [] units are = refl
  same_sum [] (a ∷ numbers) units are = absurd are
  same_sum (b ∷ arcs) [] units are = absurd are
  same_sum (b ∷ arcs) (a ∷ numbers) [] are = no_units end n (b ∷ arcs)
  same_sum (b ∷ arcs) (a ∷ numbers) (u ∷ units) are =
      let rest = same_sum arcs numbers units are.1 in
      let one : cond (same_node (end b.0) n) u 0 ≡ cond (nat_eq (place a) v) u 0 = ap (λ t. cond t u 0) (one_place nodes (place a) v (end b.0) n rises (there b a are.0) at) in
      omega (arith, sum_by-cons (part end n) (b.0, u) (named_units arcs units))

all_pass : (test : Node → Bool) (ns : List Node) → ((n : Node) → IsMember n ns → test n ≡ true) → list_all test ns ≡ true
all_pass test [] h = refl
all_pass test (n ∷ ns) h = let rest = all_pass test ns (λ k m. h k (inr m)) in let first = h n (inl refl) in rw first rest

module _ (net : Net) (can : CanBeNet net) (places : NodeRanges) (numbers : List IndexedArc) (is : IsNumbered net places numbers) (units : List ℕ) (flow : IsFlowOf places numbers units) (values : List ℤ) (fit : ArePotentials (residual numbers units) (costs_in values)) where
  abbrev potentials : List (Node × ℤ)
  potentials = named_potentials net.nodes values

  sized : length units ≡ length net.arcs
  sized = flow.sized ∙ as_many net.nodes net.arcs numbers is.of_arcs

  potential_is : (v : ℕ) (n : Node) → slice_get net.nodes v ≡ Some n → potential_in potentials n ≡ costs_in values v
  potential_is v n at = potential_there net.nodes values v n can.nodes_rise at

  fits : (i : ℕ) (b : NetArc) → slice_get net.arcs i ≡ Some b → IsComplementary (slice_index units i) b.1.0 (reduced_at potentials b)
  fits i b at =
      let a = number_at_place net.nodes net.arcs numbers i b is.of_arcs at in
      let number = a.2 in
      let row = costs_in values in
      let from = potential_is a.0.from b.0.0 number.from in
      let to = potential_is a.0.to b.0.1 number.to in
      let cost : pos b.1.1 ≡ pos a.0.cost = ap pos (sym number.cost) in
      let capacity = number.capacity in
      let ahead : ResidualArc = record { arc = i; forward = true } in
      let back : ResidualArc = record { arc = i; forward = false } in
      let forth : slice_index units i < a.0.capacity → pos 0 ≤ℤ ((pos a.0.cost +ℤ row a.0.from) -ℤ row a.0.to) =
      subst (λ o. CanBeTaken o true (slice_index units i) → pos 0 ≤ℤ ((cost_by o true +ℤ row (start_of o true)) -ℤ row (head_of o true))) a.1 (λ can_go. fit.fit ahead can_go) in
      let backwards : 0 < slice_index units i → pos 0 ≤ℤ ((neg_ℤ (pos a.0.cost) +ℤ row a.0.to) -ℤ row a.0.from) =
      subst (λ o. CanBeTaken o false (slice_index units i) → pos 0 ≤ℤ ((cost_by o false +ℤ row (start_of o false)) -ℤ row (head_of o false))) a.1 (λ can_go. fit.fit back can_go) in
      record {
        within = let most = within_at_place numbers units i a.0 flow.sized a.1 flow.within in omega arith;
        no_gain = λ less. let h = forth (omega arith) in omega (arith, ints);
        no_waste = λ some. let h = backwards some in omega (arith, ints);
      }

  enters : (v : ℕ) (n : Node) → slice_get net.nodes v ≡ Some n → units_at target (named_units net.arcs units) n ≡ inflow_at numbers units v
  enters v n at = same_sum net.nodes can.nodes_rise target (λ a. a.to) (λ b a of. of.to) v n at net.arcs numbers units is.of_arcs

  leaves : (v : ℕ) (n : Node) → slice_get net.nodes v ≡ Some n → units_at source (named_units net.arcs units) n ≡ outflow_at numbers units v
  leaves v n at = same_sum net.nodes can.nodes_rise source (λ a. a.from) (λ b a of. of.from) v n at net.arcs numbers units is.of_arcs

  within_end : (v : ℕ) (n : Node) → slice_get net.nodes v ≡ Some n → v < places.end
  within_end v n at = let e = is.at_places.end in let less = slice_get_within net.nodes v n at in omega arith

  sends_there : (v : ℕ) (n : Node) → slice_get net.nodes v ≡ Some n → IsConserved (kind_there places v n) (inflow_at numbers units v) (outflow_at numbers units v)
  sends_there v n at = subst (λ k. IsConserved k (inflow_at numbers units v) (outflow_at numbers units v)) (kind_is net.nodes places can.nodes_rise is.at_places v n at) (flow.sends v (within_end v n at))

  sends_at : (v : ℕ) (n : Node) → slice_get net.nodes v ≡ Some n → sends (named_units net.arcs units) n ≡ true
  sends_at v (node.Sink) at = refl
  sends_at v (node.Unscheduled j) at = (unsigned_Decides _ _).1 (enters v (node.Unscheduled j) at ∙ sends_there v (node.Unscheduled j) at ∙ sym (leaves v (node.Unscheduled j) at))
  sends_at v (node.Request r) at = (unsigned_Decides _ _).1 (enters v (node.Request r) at ∙ sends_there v (node.Request r) at ∙ sym (leaves v (node.Request r) at))
  sends_at v (node.Machine m) at = (unsigned_Decides _ _).1 (enters v (node.Machine m) at ∙ sends_there v (node.Machine m) at ∙ sym (leaves v (node.Machine m) at))
  sends_at v (node.Task t) at = (unsigned_Decides _ _).1 (leaves v (node.Task t) at ∙ sends_there v (node.Task t) at)

  sends_all : list_all (sends (named_units net.arcs units)) net.nodes ≡ true
  sends_all = all_pass (sends (named_units net.arcs units)) net.nodes (λ n m. let at = place_of_member n net.nodes m in sends_at at.0 n at.1)

  pub is_certified : IsRising ends_cmp (named_units net.arcs units) → IsRising node_cmp potentials → IsCertified net (named_units net.arcs units) potentials
  is_certified rises nodes_rise = certified net can (named_units net.arcs units) rises potentials nodes_rise (are_of net.nodes values fit.bounded) (fit_all potentials net.arcs units sized fits) sends_all
