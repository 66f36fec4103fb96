-- A text goes on in one way only.
use Rattle.std.proofs.Common.{◌≡◌, ℕ, zero, suc, ◌+◌, ◌-◌, ◌^◌, ◌<◌, ◌≤◌, false, eqb, List, [], ◌∷◌, ◌++◌, length, get_or, Some, refl, sym, ap, subst, ◌∙◌, inl, inr, arith}
use Rattle.std.specs.Prelude.{count_by}
use Rattle.std.specs.List.{AllByRecursion}
use Rattle.std.proofs.lemmas.Bool.{eqb-false}
use Rattle.std.proofs.lemmas.List.{append_cancel_left, length-append}
use Rattle.fm_records.specs.Sets.{IsMember}
use Rattle.fm_net.specs.declared.node.Node.{Node}
use Rattle.fm_net.specs.declared.node.Node.TheVariants.{Sink, Unscheduled, Request, Machine, Task}
use Rattle.fm_net.specs.Nodes.{node_cmp, IsInRange}
use Rattle.fm_net.specs.laws.NodeOrder.{node_exact, node_total}
use Rattle.fm_net.specs.Net.{IsArc}
use Rattle.fm_net.proofs.ListLaws.{member_has}
use Rattle.fm_dimacs.specs.Text.{node_line, problem_line, is_task_node, demand_line, supply_line, arc_line}
use Rattle.fm_dimacs.specs.Syntax.{LineState, Comments, Body, Allows, Reaches, IsNextNode, with_line, supplies_from, unit_lines}
use Rattle.fm_dimacs.specs.inner.Scan.{ids_of, node_at, problem_at, numbers_at}
use Rattle.fm_dimacs.proofs.Ids.{id_below, id_tells}
use Rattle.fm_dimacs.proofs.ReadLines.{node_again, problem_again, numbers_again, numbers_line, Fit}

abbrev pub Arc : Type 0
Arc = (Node × Node) × (ℕ × ℕ)

abbrev pub nodes_of : LineState → List Node
nodes_of (Comments nodes) = nodes
nodes_of (Body nodes units arcs left) = nodes

abbrev pub units_of : LineState → List (List ℕ)
units_of (Comments nodes) = []
units_of (Body nodes units arcs left) = units

abbrev pub IsNonEmpty : List ℕ → Type 0
IsNonEmpty line = 0 < length line

-- numbers of 64 bits are enough for the IDs, and no line that is to come is empty
pub record Small (p : LineState) (text : List ℕ) : Type 0 where
  pub room : length (nodes_of p) + length text < 2 ^ 64
  pub units : AllByRecursion IsNonEmpty (units_of p)

with_some : (line : List ℕ) (lines : List (List ℕ)) → AllByRecursion IsNonEmpty lines → AllByRecursion IsNonEmpty (with_line line lines)
with_some [] lines all = all
with_some (b ∷ bs) lines all = (omega arith, all)

supplies_some : (id : ℕ) (nodes : List Node) → AllByRecursion IsNonEmpty (supplies_from id nodes)
supplies_some id [] = tt
supplies_some id (n ∷ ns) = with_some (supply_line id n) (supplies_from (id + 1) ns) (supplies_some (id + 1) ns)

pub units_some : (nodes : List Node) → AllByRecursion IsNonEmpty (unit_lines nodes)
units_some nodes = with_some (demand_line (count_by is_task_node nodes)) (supplies_from 1 nodes) (supplies_some 1 nodes)

node_line_some : (id : ℕ) (n : Node) → 0 < length (node_line id n)
node_line_some id Sink = omega arith
node_line_some id (Unscheduled job) = omega arith
node_line_some id (Request request) = omega arith
node_line_some id (Machine machine) = omega arith
node_line_some id (Task task) = omega arith

problem_line_some : (nodes arcs : ℕ) → 0 < length (problem_line nodes arcs)
problem_line_some nodes arcs = omega arith

arc_line_some : (nodes : List Node) (arc : Arc) → 0 < length (arc_line nodes arc)
arc_line_some nodes arc = omega arith

-- no line is empty
pub line_some : (p q : LineState) (line : List ℕ) → AllByRecursion IsNonEmpty (units_of p) → Allows p line q → 0 < length line
line_some (Comments nodes) q line all h = elim h [
  | inl x ↦ subst IsNonEmpty (sym x.2) (node_line_some (length nodes + 1) x.0)
  | inr x ↦ subst IsNonEmpty (sym x.3) (problem_line_some (length nodes) x.0)
]
line_some (Body nodes (u ∷ us) arcs left) q line all h = subst IsNonEmpty (sym h.0) all.0
line_some (Body nodes [] arcs (suc left)) q line all h = subst IsNonEmpty (sym h.2) (arc_line_some nodes h.0)
line_some (Body nodes [] arcs zero) q line all h = absurd h

pub next_small : (p q : LineState) (line behind : List ℕ) → Small p (line ++ behind) → Allows p line q → Small q behind
next_small (Comments nodes) q line behind s h =
    let some = line_some (Comments nodes) q line s.units h in
    let whole = length-append line behind in
    elim h [
      | inl x ↦ subst (λ r. Small r behind) (sym x.3) (record { room = omega (arith, s.room, length-append nodes (x.0 ∷ [])); units = tt })
      | inr x ↦ subst (λ r. Small r behind) (sym x.4) (record { room = omega (arith, s.room); units = units_some nodes })
    ]
next_small (Body nodes (u ∷ us) arcs left) q line behind s h = subst (λ r. Small r behind) (sym h.1) (record { room = omega (arith, s.room, length-append line behind); units = s.units.1 })
next_small (Body nodes [] arcs (suc left)) q line behind s h = subst (λ r. Small r behind) (sym h.3) (record { room = omega (arith, s.room, length-append line behind); units = tt })
next_small (Body nodes [] arcs zero) q line behind s h = absurd h

pub next_in_range : (nodes : List Node) (n : Node) → IsNextNode nodes n → IsInRange n
next_in_range [] n e = subst IsInRange (sym e) tt
next_in_range (m ∷ ms) n h = h.1

-- ---- arcs by the IDs of their ends

pub line_of_ids : (nodes : List Node) (arc : Arc) → arc_line nodes arc ≡ numbers_line (ids_of nodes arc)
line_of_ids nodes arc = refl

abbrev pub IsArcOf : List Node → List Arc → Arc → Type 0
IsArcOf nodes arcs arc = IsArc (record { nodes = nodes; arcs = arcs }) arc.0.0 arc.0.1 arc.1

pub ids_fit : (nodes : List Node) (arcs : List Arc) (arc : Arc) → length nodes < 2 ^ 64 → IsArcOf nodes arcs arc → Fit (ids_of nodes arc)
ids_fit nodes arcs arc few is =
    let from = id_below 1 nodes arc.0.0 (omega arith) in
    let to = id_below 1 nodes arc.0.1 (omega arith) in
    record { source = omega arith; target = omega arith; capacity = is.capacity_fits; cost = omega (arith, is.cost_within) }

pub ids_tell : (nodes : List Node) (others more : List Arc) (a b : Arc) → IsArcOf nodes others a → IsArcOf nodes more b → ids_of nodes a ≡ ids_of nodes b → a ≡ b
ids_tell nodes others more a b is js e =
    let member : (n : Node) → _ → IsMember n nodes = λ n h. member_has node_cmp node_total node_exact n nodes h in
    let from = id_tells 1 nodes a.0.0 b.0.0 (member a.0.0 is.from_stands) (member b.0.0 js.from_stands) (ap (λ x. x.0) e) in
    let to = id_tells 1 nodes a.0.1 b.0.1 (member a.0.1 is.to_stands) (member b.0.1 js.to_stands) (ap (λ x. x.1) e) in
    λ i. ((from i, to i), (ap (λ x. x.2) e i, ap (λ x. x.3) e i))

-- ---- one way on

-- what the next line leads to
pub record SameStep (q r : LineState) (b c : List ℕ) : Type 0 where
  pub place : q ≡ r
  pub behind : b ≡ c

pair_is : {A : Type 0} (x y : A × List ℕ) → Some x ≡ Some y → x ≡ y
pair_is x y e = cc

heads_apart : (b c : ℕ) (x y : List ℕ) → eqb b c ≡ false → b ∷ x ≡ c ∷ y → ⊥
heads_apart b c x y apart e = eqb-false b c apart (ap (λ (l : List ℕ). get_or l 0 0) e)

pub node_no_problem : (id nodes arcs : ℕ) (n : Node) (b c : List ℕ) → node_line id n ++ b ≡ problem_line nodes arcs ++ c → ⊥
node_no_problem id nodes arcs Sink b c e = heads_apart 99 112 _ _ refl e
node_no_problem id nodes arcs (Unscheduled job) b c e = heads_apart 99 112 _ _ refl e
node_no_problem id nodes arcs (Request request) b c e = heads_apart 99 112 _ _ refl e
node_no_problem id nodes arcs (Machine machine) b c e = heads_apart 99 112 _ _ refl e
node_no_problem id nodes arcs (Task task) b c e = heads_apart 99 112 _ _ refl e

pub same_node_line : (id : ℕ) (m n : Node) (b c : List ℕ) → id < 2 ^ 64 → IsInRange m → IsInRange n → node_line id m ++ b ≡ node_line id n ++ c → (m ≡ n) × (b ≡ c)
same_node_line id m n b c fits p q e =
    let same = pair_is (m, b) (n, c) (sym (node_again id m b fits p) ∙ ap (node_at id) e ∙ node_again id n c fits q) in
    (ap (λ x. x.0) same, ap (λ x. x.1) same)

same_problem_line : (nodes a d : ℕ) (b c : List ℕ) → nodes < 2 ^ 64 → a < 2 ^ 64 → d < 2 ^ 64 → problem_line nodes a ++ b ≡ problem_line nodes d ++ c → (a ≡ d) × (b ≡ c)
same_problem_line nodes a d b c few p q e =
    let same = pair_is (a, b) (d, c) (sym (problem_again nodes a b few p) ∙ ap (problem_at nodes) e ∙ problem_again nodes d c few q) in
    (ap (λ x. x.0) same, ap (λ x. x.1) same)

pub same_arc_line : (nodes : List Node) (others more : List Arc) (x y : Arc) (b c : List ℕ) → length nodes < 2 ^ 64 → IsArcOf nodes others x → IsArcOf nodes more y → arc_line nodes x ++ b ≡ arc_line nodes y ++ c → (x ≡ y) × (b ≡ c)
same_arc_line nodes others more x y b c few p q e =
    let same = pair_is (ids_of nodes x, b) (ids_of nodes y, c) (sym (numbers_again (ids_of nodes x) b (ids_fit nodes others x few p)) ∙ ap numbers_at e ∙ numbers_again (ids_of nodes y) c (ids_fit nodes more y few q)) in
    (ids_tell nodes others more x y p q (ap (λ z. z.0) same), ap (λ z. z.1) same)

pub one_step : (p q r : LineState) (text k l b c : List ℕ) → Small p text → text ≡ k ++ b → text ≡ l ++ c → Allows p k q → Allows p l r → SameStep q r b c
one_step (Comments nodes) q r text k l b c s e f h g =
    let some : 0 < length text = omega (arith, ap length e, length-append k b, line_some (Comments nodes) q k tt h) in
    let room = s.room in
    elim h [
      | inl x ↦ elim g [
        | inl y ↦
            let whole : node_line (length nodes + 1) x.0 ++ b ≡ node_line (length nodes + 1) y.0 ++ c = (λ i. sym x.2 i ++ b) ∙ sym e ∙ f ∙ (λ i. y.2 i ++ c) in
            let same = same_node_line (length nodes + 1) x.0 y.0 b c (omega arith) (next_in_range nodes x.0 x.1) (next_in_range nodes y.0 y.1) whole in
            record { place = x.3 ∙ (λ i. Comments (nodes ++ (same.0 i ∷ []))) ∙ sym y.3; behind = same.1 }
        | inr y ↦ absurd (node_no_problem (length nodes + 1) (length nodes) y.0 x.0 b c ((λ i. sym x.2 i ++ b) ∙ sym e ∙ f ∙ (λ i. y.3 i ++ c)))
      ]
      | inr x ↦ elim g [
        | inl y ↦ absurd (node_no_problem (length nodes + 1) (length nodes) x.0 y.0 c b ((λ i. sym y.2 i ++ c) ∙ sym f ∙ e ∙ (λ i. x.3 i ++ b)))
        | inr y ↦
            let whole : problem_line (length nodes) x.0 ++ b ≡ problem_line (length nodes) y.0 ++ c = (λ i. sym x.3 i ++ b) ∙ sym e ∙ f ∙ (λ i. y.3 i ++ c) in
            let same = same_problem_line (length nodes) x.0 y.0 b c (omega arith) x.2 y.2 whole in
            record { place = x.4 ∙ (λ i. Body nodes (unit_lines nodes) [] (same.0 i)) ∙ sym y.4; behind = same.1 }
      ]
    ]
one_step (Body nodes (u ∷ us) arcs left) q r text k l b c s e f h g =
    record { place = h.1 ∙ sym g.1; behind = append_cancel_left u b c ((λ i. sym h.0 i ++ b) ∙ sym e ∙ f ∙ (λ i. g.0 i ++ c)) }
one_step (Body nodes [] arcs (suc left)) q r text k l b c s e f h g =
    let whole : arc_line nodes h.0 ++ b ≡ arc_line nodes g.0 ++ c = (λ i. sym h.2 i ++ b) ∙ sym e ∙ f ∙ (λ i. g.2 i ++ c) in
    let few = s.room in
    let same = same_arc_line nodes arcs arcs h.0 g.0 b c (omega arith) h.1.0 g.1.0 whole in
    record { place = h.3 ∙ (λ i. Body nodes [] (arcs ++ (same.0 i ∷ [])) left) ∙ sym g.3; behind = same.1 }
one_step (Body nodes [] arcs zero) q r text k l b c s e f h g = absurd h

-- ---- many lines

pub record Onward (j k : ℕ) (q r : LineState) (b c : List ℕ) : Type 0 where
  pub leads : Reaches (k - j) q b r c

-- two ways of so many lines are one, as far as both go
pub onward : (j k : ℕ) (p q r : LineState) (text b c : List ℕ) → Small p text → j ≤ k → Reaches j p text q b → Reaches k p text r c → Onward j k q r b c
onward zero k p q r text b c s le h g =
    let none : k ≡ k - 0 = omega arith in
    record { leads = subst (λ m. Reaches m q b r c) none (subst (λ z. Reaches k z b r c) h.0 (subst (λ t. Reaches k p t r c) h.1 g)) }
onward (suc j) zero p q r text b c s le h g = absurd (omega arith)
onward (suc j) (suc k) p q r text b c s le h g =
    let same = one_step p h.1 g.1 text h.0 g.0 h.2 g.2 s h.3 g.3 h.4 g.4 in
    let rest : Reaches k h.1 h.2 r c = subst (λ z. Reaches k z h.2 r c) (sym same.place) (subst (λ t. Reaches k g.1 t r c) (sym same.behind) g.5) in
    let small = next_small p h.1 h.0 h.2 (subst (Small p) h.3 s) h.4 in
    let less : k - j ≡ suc k - suc j = omega arith in
    record { leads = subst (λ m. Reaches m q b r c) less (onward j k h.1 q r h.2 b c small (omega arith) h.5 rest).leads }
