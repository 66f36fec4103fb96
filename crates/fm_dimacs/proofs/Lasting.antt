-- The text of each network is read to its end.
use Rattle.std.proofs.Common.{◌≡◌, ℕ, zero, suc, ◌+◌, ◌^◌, ◌<◌, List, [], ◌∷◌, ◌++◌, Some, length, refl, sym, ap, subst, ◌∙◌, inl, inr, append_assoc, arith}
use Rattle.std.specs.List.{flat_map}
use Rattle.std.specs.Ordering.{on}
use Rattle.std.specs.declared.cmp.Ordering.{Ordering}
use Rattle.std.specs.declared.cmp.Ordering.TheVariants.{Less, Equal, Greater}
use Rattle.std.proofs.lemmas.Cmp.{tied_itself}
use Rattle.std.proofs.lemmas.List.{append-nil, length-append}
use Rattle.fm_lattice.specs.laws.ChainLaws.{less_greater}
use Rattle.fm_lattice.specs.Maps.{lookup, IsBelow, IsRising}
use Rattle.fm_records.specs.Sets.{IsMember}
use Rattle.fm_records.specs.Rising.{IsBelowAll, Rises}
use Rattle.fm_net.specs.declared.node.Node.{Node}
use Rattle.fm_net.specs.declared.node.Node.TheVariants.{Sink, Unscheduled, Request, Machine, Task}
use Rattle.fm_net.specs.Nodes.{node_cmp, ends_cmp, IsInRange}
use Rattle.fm_net.specs.laws.NodeOrder.{node_total, node_exact, ends_total}
use Rattle.fm_net.specs.Net.{Net, CanBeNet, IsArc}
use Rattle.fm_net.proofs.ListLaws.{has_member, member_has}
use Rattle.fm_dimacs.specs.Text.{node_line, problem_line, arc_line, lines_from, dump_text}
use Rattle.fm_dimacs.specs.Syntax.{LineState, Comments, Body, Allows, Reaches, IsAfterLast, IsNextNode, IsNextArc, unit_lines}
use Rattle.fm_dimacs.proofs.Leading.{Arc}
use Rattle.fm_dimacs.proofs.Whole.{text_of, body_text, dump_is}

-- ---- lines behind lines

pub leads_on : (j k : ℕ) (p q r : LineState) (text b c : List ℕ) → Reaches j p text q b → Reaches k q b r c → Reaches (j + k) p text r c
leads_on zero k p q r text b c h g =
    let same : k ≡ 0 + k = omega arith in
    subst (λ m. Reaches m p text r c) same (subst (λ z. Reaches k z text r c) (sym h.0) (subst (λ t. Reaches k q t r c) (sym h.1) g))
leads_on (suc j) k p q r text b c h g =
    let next : suc (j + k) ≡ suc j + k = omega arith in
    subst (λ m. Reaches m p text r c) next (h.0, h.1, h.2, h.3, h.4, leads_on j k h.1 q r h.2 b c h.5 g)

pub leads_one : (p q : LineState) (text line behind : List ℕ) → text ≡ line ++ behind → Allows p line q → Reaches 1 p text q behind
leads_one p q text line behind e h = (line, q, behind, e, h, (refl, refl))

-- one more line at the end
pub leads_more : (j : ℕ) (p q r : LineState) (text b line c : List ℕ) → Reaches j p text q b → b ≡ line ++ c → Allows q line r → Reaches (j + 1) p text r c
leads_more j p q r text b line c h e g = leads_on j 1 p q r text b c h (leads_one q r b line c e g)

-- ---- what comes after a last one

pub after_last : {X : Type 0} (cmp : X → X → Ordering) (xs : List X) (x n : X) → cmp x n ≡ Less → IsAfterLast cmp (xs ++ (x ∷ [])) n
after_last cmp [] x n e = e
after_last cmp (y ∷ []) x n e = e
after_last cmp (y ∷ z ∷ ys) x n e = after_last cmp (z ∷ ys) x n e

-- ---- nodes

abbrev AreNextNodes : List Node → List Node → Type 0
AreNextNodes before [] = Unit {0}
AreNextNodes before (n ∷ ns) = IsNextNode before n × AreNextNodes (before ++ (n ∷ [])) ns

leads_nodes : (before more : List Node) (rest : List ℕ) → AreNextNodes before more → Reaches (length more) (Comments before) (lines_from node_line (length before + 1) more ++ rest) (Comments (before ++ more)) rest
leads_nodes before [] rest h = (ap Comments (sym (append-nil before)), refl)
leads_nodes before (n ∷ ns) rest h =
    let line = node_line (length before + 1) n in
    let here = before ++ (n ∷ []) in
    let count : length here ≡ length before + 1 = length-append before (n ∷ []) in
    let later = leads_nodes here ns rest h.1 in
    let counted = subst (λ id. Reaches (length ns) (Comments here) (lines_from node_line (id + 1) ns ++ rest) (Comments (here ++ ns)) rest) count later in
    let whole = subst (λ all. Reaches (length ns) (Comments here) (lines_from node_line (length before + 1 + 1) ns ++ rest) (Comments all) rest) (append_assoc before (n ∷ []) ns) counted in
    (line, Comments here, lines_from node_line (length before + 1 + 1) ns ++ rest, append_assoc line (lines_from node_line (length before + 1 + 1) ns) rest, inl (n, h.0, refl, refl), whole)

next_node : (before : List Node) (x n : Node) → node_cmp x n ≡ Less → IsInRange n → IsNextNode (before ++ (x ∷ [])) n
next_node [] x n e r = (e, r)
next_node (b ∷ bs) x n e r = (after_last node_cmp (b ∷ bs) x n e, r)

next_nodes : (before : List Node) (x : Node) (ns : List Node) → IsBelowAll node_cmp x ns → Rises node_cmp ns → ((n : Node) → IsMember n ns → IsInRange n) → AreNextNodes (before ++ (x ∷ [])) ns
next_nodes before x [] b r in_range = tt
next_nodes before x (n ∷ ns) b r in_range =
    (next_node before x n b.0 (in_range n (inl refl)), next_nodes (before ++ (x ∷ [])) n ns r.0 r.1 (λ m h. in_range m (inr h)))

below_member : (x n : Node) (ns : List Node) → IsBelowAll node_cmp x ns → IsMember n ns → node_cmp x n ≡ Less
below_member x n [] b h = absurd h
below_member x n (m ∷ ns) b h = elim h [ inl e ↦ subst (λ y. node_cmp x y ≡ Less) e b.0 | inr later ↦ below_member x n ns b.1 later ]

not_below_sink : (n : Node) → node_cmp n Sink ≡ Less → ⊥
not_below_sink Sink e = let never : Equal ≡ Less = e in cc
not_below_sink (Unscheduled job) e = let never : Greater ≡ Less = e in cc
not_below_sink (Request request) e = let never : Greater ≡ Less = e in cc
not_below_sink (Machine machine) e = let never : Greater ≡ Less = e in cc
not_below_sink (Task task) e = let never : Greater ≡ Less = e in cc

all_nodes : (nodes : List Node) → IsMember Sink nodes → Rises node_cmp nodes → ((n : Node) → IsMember n nodes → IsInRange n) → AreNextNodes [] nodes
all_nodes [] sink r in_range = absurd sink
all_nodes (n ∷ ns) sink r in_range =
    let first : n ≡ Sink = elim sink [ inl e ↦ e | inr later ↦ absurd (not_below_sink n (below_member n Sink ns r.0 later)) ] in
    (first, next_nodes [] n ns r.0 r.1 (λ m h. in_range m (inr h)))

-- ---- the demand and the supplies

leads_units : (nodes : List Node) (units : List (List ℕ)) (arcs : List Arc) (left : ℕ) (rest : List ℕ) → Reaches (length units) (Body nodes units arcs left) (text_of units ++ rest) (Body nodes [] arcs left) rest
leads_units nodes [] arcs left rest = (refl, refl)
leads_units nodes (u ∷ us) arcs left rest = (u, Body nodes us arcs left, text_of us ++ rest, append_assoc u (text_of us) rest, (refl, refl), leads_units nodes us arcs left rest)

-- ---- arcs

abbrev AreNextArcs : List Node → List Arc → List Arc → Type 0
AreNextArcs nodes before [] = Unit {0}
AreNextArcs nodes before (a ∷ more) = IsNextArc nodes before a × AreNextArcs nodes (before ++ (a ∷ [])) more

leads_arcs : (nodes : List Node) (before more : List Arc) (rest : List ℕ) → AreNextArcs nodes before more → Reaches (length more) (Body nodes [] before (length more)) (flat_map (arc_line nodes) more ++ rest) (Body nodes [] (before ++ more) 0) rest
leads_arcs nodes before [] rest h = (ap (λ all. Body nodes [] all 0) (sym (append-nil before)), refl)
leads_arcs nodes before (a ∷ more) rest h =
    let line = arc_line nodes a in
    let here = before ++ (a ∷ []) in
    let later = leads_arcs nodes here more rest h.1 in
    let whole = subst (λ all. Reaches (length more) (Body nodes [] here (length more)) (flat_map (arc_line nodes) more ++ rest) (Body nodes [] all 0) rest) (append_assoc before (a ∷ []) more) later in
    (line, Body nodes [] here (length more), flat_map (arc_line nodes) more ++ rest, append_assoc line (flat_map (arc_line nodes) more) rest, (a, h.0, refl, refl), whole)

next_arcs : (nodes : List Node) (before : List Arc) (x : Arc) (more : List Arc) → IsBelow ends_cmp x.0 more → IsRising ends_cmp more
    → ((others : List Arc) (a : Arc) → IsMember a more → IsArc (record { nodes = nodes; arcs = others }) a.0.0 a.0.1 a.1) → AreNextArcs nodes (before ++ (x ∷ [])) more
next_arcs nodes before x [] b r are = tt
next_arcs nodes before x (a ∷ more) b r are =
    ((are (before ++ (x ∷ [])) a (inl refl), after_last (on (λ (e : Arc). e.0) ends_cmp) before x a b.0), next_arcs nodes (before ++ (x ∷ [])) a more r.0 r.1 (λ others e h. are others e (inr h)))

all_arcs : (nodes : List Node) (arcs : List Arc) → IsRising ends_cmp arcs → ((others : List Arc) (a : Arc) → IsMember a arcs → IsArc (record { nodes = nodes; arcs = others }) a.0.0 a.0.1 a.1) → AreNextArcs nodes [] arcs
all_arcs nodes [] r are = tt
all_arcs nodes (a ∷ more) r are = ((are [] a (inl refl), tt), next_arcs nodes [] a more r.0 r.1 (λ others e h. are others e (inr h)))

below_key : (x : Node × Node) (a : Arc) (es : List Arc) → IsBelow ends_cmp x es → IsMember a es → ends_cmp x a.0 ≡ Less
below_key x a [] b h = absurd h
below_key x a (e ∷ es) b h = elim h [ inl is ↦ subst (λ (y : Arc). ends_cmp x y.0 ≡ Less) is b.0 | inr later ↦ below_key x a es b.1 later ]

pub looked_up : (a : Arc) (es : List Arc) → IsRising ends_cmp es → IsMember a es → lookup ends_cmp a.0 es ≡ Some a.1
looked_up a [] r h = absurd h
looked_up a (e ∷ es) r h = elim h [
  | inl is ↦
      let tied : ends_cmp a.0 e.0 ≡ Equal = ap (λ (y : Arc). ends_cmp a.0 y.0) is ∙ tied_itself ends_total a.0 in
      rw tied (ap (λ (y : Arc). Some y.1) is)
  | inr later ↦
      let greater : ends_cmp a.0 e.0 ≡ Greater = less_greater ends_cmp ends_total e.0 a.0 (below_key e.0 a es r.0 later) in
      rw greater (looked_up a es r.1 later)
]

-- ---- the whole

pub network_leads : (net : Net) → CanBeNet net → length net.arcs < 2 ^ 64
    → Reaches (length net.nodes + (1 + (length (unit_lines net.nodes) + length net.arcs))) (Comments []) (dump_text net) (Body net.nodes [] net.arcs 0) []
network_leads net can few =
    let nodes = net.nodes in
    let arcs = net.arcs in
    let sink = member_has node_cmp node_total node_exact Sink nodes can.has_sink in
    let in_range : (n : Node) → IsMember n nodes → IsInRange n = λ n h. can.in_range n (has_member node_cmp node_total node_exact n nodes h) in
    let are : (others : List Arc) (a : Arc) → IsMember a arcs → IsArc (record { nodes = nodes; arcs = others }) a.0.0 a.0.1 a.1 = λ others a h.
    let is = can.are_arcs a.0.0 a.0.1 a.1 (looked_up a arcs can.arcs_rise h) in
    record { from_stands = is.from_stands; to_stands = is.to_stands; kinds = is.kinds; capacity_above = is.capacity_above; capacity_fits = is.capacity_fits; cost_within = is.cost_within } in
    let some : 0 < length nodes = some_nodes nodes sink in
    let by_nodes = leads_nodes [] nodes (body_text nodes arcs) (all_nodes nodes sink can.nodes_rise in_range) in
    let by_problem = leads_one (Comments nodes) (Body nodes (unit_lines nodes) [] (length arcs)) (body_text nodes arcs) (problem_line (length nodes) (length arcs)) (text_of (unit_lines nodes) ++ flat_map (arc_line nodes) arcs) refl (inr (length arcs, some, few, refl, refl)) in
    let by_units = leads_units nodes (unit_lines nodes) [] (length arcs) (flat_map (arc_line nodes) arcs) in
    let last = leads_arcs nodes [] arcs [] (all_arcs nodes arcs can.arcs_rise are) in
    let by_arcs = subst (λ t. Reaches (length arcs) (Body nodes [] [] (length arcs)) t (Body nodes [] arcs 0) []) (append-nil (flat_map (arc_line nodes) arcs)) last in
    let behind_problem = leads_on (length (unit_lines nodes)) (length arcs) (Body nodes (unit_lines nodes) [] (length arcs)) (Body nodes [] [] (length arcs)) (Body nodes [] arcs 0) (text_of (unit_lines nodes) ++ flat_map (arc_line nodes) arcs) (flat_map (arc_line nodes) arcs) [] by_units by_arcs in
    let behind_nodes = leads_on 1 (length (unit_lines nodes) + length arcs) (Comments nodes) (Body nodes (unit_lines nodes) [] (length arcs)) (Body nodes [] arcs 0) (body_text nodes arcs) (text_of (unit_lines nodes) ++ flat_map (arc_line nodes) arcs) [] by_problem behind_problem in
    subst (λ t. Reaches (length nodes + (1 + (length (unit_lines nodes) + length arcs))) (Comments []) t (Body nodes [] arcs 0) []) (sym (dump_is nodes arcs))
    (leads_on (length nodes) (1 + (length (unit_lines nodes) + length arcs)) (Comments []) (Comments nodes) (Body nodes [] arcs 0) (lines_from node_line 1 nodes ++ body_text nodes arcs) (body_text nodes arcs) [] by_nodes behind_nodes)
  where
    some_nodes : (ns : List Node) → IsMember Sink ns → 0 < length ns
    some_nodes [] h = absurd h
    some_nodes (n ∷ ns) h = omega arith
