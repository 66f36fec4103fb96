-- The texts that are read to their end are those of networks.
use Rattle.std.proofs.Common.{◌≡◌, ℕ, zero, suc, ◌+◌, List, [], ◌∷◌, ◌++◌, length, refl, sym, ap, subst, ◌∙◌, inl, inr, append_assoc}
use Rattle.std.specs.Prelude.{count_by}
use Rattle.std.specs.List.{flat_map}
use Rattle.std.proofs.lemmas.List.{append-nil, length-append}
use Rattle.fm_net.specs.declared.node.Node.{Node}
use Rattle.fm_dimacs.specs.Text.{node_line, problem_line, is_task_node, demand_line, supply_line, arc_line, lines_from, dump_text}
use Rattle.fm_dimacs.specs.Syntax.{LineState, Comments, Body, Reaches, with_line, supplies_from, unit_lines}
use Rattle.fm_dimacs.proofs.Leading.{Arc}

abbrev pub text_of : List (List ℕ) → List ℕ
text_of lines = flat_map (λ line. line) lines

with_text : (line : List ℕ) (lines : List (List ℕ)) → text_of (with_line line lines) ≡ line ++ text_of lines
with_text [] lines = refl
with_text (b ∷ bs) lines = refl

supplies_text : (id : ℕ) (nodes : List Node) → text_of (supplies_from id nodes) ≡ lines_from supply_line id nodes
supplies_text id [] = refl
supplies_text id (n ∷ ns) = with_text (supply_line id n) (supplies_from (id + 1) ns) ∙ ap (λ t. supply_line id n ++ t) (supplies_text (id + 1) ns)

pub units_text : (nodes : List Node) → text_of (unit_lines nodes) ≡ demand_line (count_by is_task_node nodes) ++ lines_from supply_line 1 nodes
units_text nodes = with_text (demand_line (count_by is_task_node nodes)) (supplies_from 1 nodes) ∙ ap (λ t. demand_line (count_by is_task_node nodes) ++ t) (supplies_text 1 nodes)

-- what follows the comments
abbrev pub body_text : List Node → List Arc → List ℕ
body_text nodes arcs = problem_line (length nodes) (length arcs) ++ (text_of (unit_lines nodes) ++ flat_map (arc_line nodes) arcs)

pub dump_is : (nodes : List Node) (arcs : List Arc) → dump_text (record { nodes = nodes; arcs = arcs }) ≡ lines_from node_line 1 nodes ++ body_text nodes arcs
dump_is nodes arcs =
    let units : demand_line (count_by is_task_node nodes) ++ (lines_from supply_line 1 nodes ++ flat_map (arc_line nodes) arcs) ≡ text_of (unit_lines nodes) ++ flat_map (arc_line nodes) arcs =
    sym (append_assoc (demand_line (count_by is_task_node nodes)) (lines_from supply_line 1 nodes) (flat_map (arc_line nodes) arcs)) ∙ ap (λ t. t ++ flat_map (arc_line nodes) arcs) (sym (units_text nodes)) in
    outer (lines_from node_line 1 nodes) (problem_line (length nodes) (length arcs)) _ _ units
  where
    outer : (a b x y : List ℕ) → x ≡ y → a ++ (b ++ x) ≡ a ++ (b ++ y)
    outer a b x y e = ap (λ t. a ++ (b ++ t)) e

-- ---- what is to come, up to the end

abbrev pub Remains : LineState → List ℕ → List Node → List Arc → Type 0
Remains (Comments before) text nodes arcs = (more : List Node) × (nodes ≡ before ++ more) × (text ≡ lines_from node_line (length before + 1) more ++ body_text nodes arcs)
Remains (Body of units before left) text nodes arcs = (more : List Arc) × (of ≡ nodes) × (arcs ≡ before ++ more) × (length more ≡ left) × (text ≡ text_of units ++ flat_map (arc_line nodes) more)

pub remains : (k : ℕ) (p : LineState) (text : List ℕ) (nodes : List Node) (arcs : List Arc) → Reaches k p text (Body nodes [] arcs 0) [] → Remains p text nodes arcs
remains zero p text nodes arcs h = subst (λ z. Remains z text nodes arcs) (sym h.0) ([], refl, sym (append-nil arcs), refl, h.1)
remains (suc k) (Comments before) text nodes arcs h =
    let rest = remains k h.1 h.2 nodes arcs h.5 in
    elim h.4 [
      | inl x ↦
          let r : Remains (Comments (before ++ (x.0 ∷ []))) h.2 nodes arcs = subst (λ z. Remains z h.2 nodes arcs) x.3 rest in
          let count : length (before ++ (x.0 ∷ [])) ≡ length before + 1 = length-append before (x.0 ∷ []) in (
            x.0 ∷ r.0,
            r.1 ∙ append_assoc before (x.0 ∷ []) r.0,
            h.3 ∙ (λ i. x.2 i ++ r.2 i) ∙ ap (λ id. node_line (length before + 1) x.0 ++ (lines_from node_line (id + 1) r.0 ++ body_text nodes arcs)) count
                ∙ sym (append_assoc (node_line (length before + 1) x.0) (lines_from node_line (length before + 1 + 1) r.0) (body_text nodes arcs)),
          )
      | inr x ↦
          let r : Remains (Body before (unit_lines before) [] x.0) h.2 nodes arcs = subst (λ z. Remains z h.2 nodes arcs) x.4 rest in
          let count : x.0 ≡ length arcs = sym r.3 ∙ ap length (sym r.2) in (
            [],
            sym r.1 ∙ sym (append-nil before),
            h.3 ∙ (λ i. x.3 i ++ r.4 i) ∙ (λ i. problem_line (length (r.1 i)) (count i) ++ (text_of (unit_lines (r.1 i)) ++ flat_map (arc_line nodes) (sym r.2 i))),
          )
    ]
remains (suc k) (Body of (unit ∷ units) before left) text nodes arcs h =
    let r : Remains (Body of units before left) h.2 nodes arcs = subst (λ z. Remains z h.2 nodes arcs) h.4.1 (remains k h.1 h.2 nodes arcs h.5) in
    (r.0, r.1, r.2, r.3, h.3 ∙ (λ i. h.4.0 i ++ r.4 i) ∙ sym (append_assoc unit (text_of units) (flat_map (arc_line nodes) r.0)))
remains (suc k) (Body of [] before (suc left)) text nodes arcs h =
    let arc = h.4.0 in
    let r : Remains (Body of [] (before ++ (arc ∷ [])) left) h.2 nodes arcs = subst (λ z. Remains z h.2 nodes arcs) h.4.3 (remains k h.1 h.2 nodes arcs h.5) in
    let count : length (arc ∷ r.0) ≡ suc left = ap suc r.3 in
    (arc ∷ r.0, r.1, r.2 ∙ append_assoc before (arc ∷ []) r.0, count, h.3 ∙ (λ i. h.4.2 i ++ r.4 i) ∙ (λ i. arc_line (r.1 i) arc ++ flat_map (arc_line nodes) r.0))
remains (suc k) (Body of [] before zero) text nodes arcs h = absurd h.4

-- a text that is read to its end is the network's
pub whole_text : (k : ℕ) (text : List ℕ) (nodes : List Node) (arcs : List Arc) → Reaches k (Comments []) text (Body nodes [] arcs 0) [] → text ≡ dump_text (record { nodes = nodes; arcs = arcs })
whole_text k text nodes arcs h =
    let r = remains k (Comments []) text nodes arcs h in
    r.2 ∙ ap (λ ns. lines_from node_line 1 ns ++ body_text nodes arcs) (sym r.1) ∙ sym (dump_is nodes arcs)
