-- A text is one network's at most, and of none if a line breaks a rule, which is one line then.
use Rattle.std.proofs.Common.{◌≡◌, ℕ, zero, suc, ◌+◌, ◌-◌, ◌^◌, ◌<◌, ◌≤◌, List, [], ◌∷◌, ◌++◌, length, refl, sym, ap, subst, inl, inr, arith}
use Rattle.std.specs.List.{flat_map, AllByRecursion}
use Rattle.std.proofs.lemmas.Bool.{cases_lt}
use Rattle.std.proofs.lemmas.List.{length-append}
use Rattle.fm_net.specs.declared.node.Node.{Node}
use Rattle.fm_net.specs.Net.{Net, CanBeNet}
use Rattle.fm_dimacs.specs.Text.{node_line, problem_line, arc_line, lines_from, dump_text}
use Rattle.fm_dimacs.specs.Syntax.{LineState, Comments, Body, Allows, Reaches, MayEnd, IsMalformedAt, BreaksAfter, BreaksAt, unit_lines}
use Rattle.fm_dimacs.proofs.Leading.{Arc, nodes_of, units_of, IsNonEmpty, Small, units_some, line_some, onward}
use Rattle.fm_dimacs.proofs.Whole.{text_of, dump_is}
use Rattle.fm_dimacs.proofs.Lasting.{leads_on, network_leads}

small_start : (text : List ℕ) → length text < 2 ^ 64 → Small (Comments []) text
small_start text fits = record { room = omega arith; units = tt }

abbrev end_of : Net → LineState
end_of net = Body net.nodes [] net.arcs 0

-- nothing leads on from the end, and something from each place before it
end_alone : (k : ℕ) (net : Net) (q : LineState) (rest : List ℕ) → 0 < k → Reaches k (end_of net) [] q rest → ⊥
end_alone zero net q rest some h = omega arith
end_alone (suc k) net q rest some h = h.4

stuck_apart : (k : ℕ) (q : LineState) (rest : List ℕ) (net : Net) → Reaches k q rest (end_of net) [] → IsMalformedAt q rest → ⊥
stuck_apart zero q rest net h stuck = stuck.no_end (subst (λ z. MayEnd z rest) (sym h.0) (subst (λ t. MayEnd (end_of net) t) (sym h.1) tt))
stuck_apart (suc k) q rest net h stuck = stuck.no_line h.0 h.2 h.1 h.3 h.4

arcs_long : (nodes : List Node) (arcs : List Arc) → length arcs ≤ length (flat_map (arc_line nodes) arcs)
arcs_long nodes [] = omega arith
arcs_long nodes (a ∷ more) =
    let rest = arcs_long nodes more in
    let whole = length-append (arc_line nodes a) (flat_map (arc_line nodes) more) in
    omega arith

few_arcs : (net : Net) → length (dump_text net) < 2 ^ 64 → length net.arcs < 2 ^ 64
few_arcs net fits =
    let lines = arcs_long net.nodes net.arcs in
    let whole = ap length (dump_is net.nodes net.arcs) in
    let body = length-append (lines_from node_line 1 net.nodes) (problem_line (length net.nodes) (length net.arcs) ++ (text_of (unit_lines net.nodes) ++ flat_map (arc_line net.nodes) net.arcs)) in
    let problem = length-append (problem_line (length net.nodes) (length net.arcs)) (text_of (unit_lines net.nodes) ++ flat_map (arc_line net.nodes) net.arcs) in
    let units = length-append (text_of (unit_lines net.nodes)) (flat_map (arc_line net.nodes) net.arcs) in
    omega arith

-- a network's text has no line that breaks a rule
pub not_broken : (net : Net) (text : List ℕ) (line : ℕ) → length text < 2 ^ 64 → CanBeNet net → text ≡ dump_text net → BreaksAt text line → ⊥
not_broken net text line fits can e b =
    let few = few_arcs net (subst (λ t. length t < 2 ^ 64) e fits) in
    let k = length net.nodes + (1 + (length (unit_lines net.nodes) + length net.arcs)) in
    let whole : Reaches k (Comments []) text (end_of net) [] = subst (λ t. Reaches k (Comments []) t (end_of net) []) (sym e) (network_leads net can few) in
    elim (cases_lt k b.good) [
      | inl less ↦ end_alone (b.good - k) net b.place b.rest (omega arith) (onward k b.good (Comments []) (end_of net) b.place text [] b.rest (small_start text fits) (omega arith) whole b.before).leads
      | inr most ↦ stuck_apart (k - b.good) b.place b.rest net (onward b.good k (Comments []) b.place (end_of net) text b.rest [] (small_start text fits) most b.before whole).leads b.stuck
    ]

one_end : (k : ℕ) (m n : Net) → Reaches k (end_of m) [] (end_of n) [] → end_of m ≡ end_of n
one_end zero m n h = h.0
one_end (suc k) m n h = absurd h.4

abbrev arcs_of : LineState → List Arc
arcs_of (Comments nodes) = []
arcs_of (Body nodes units arcs left) = arcs

end_tells : (m n : Net) → end_of m ≡ end_of n → m ≡ n
end_tells m n e = ap (λ p. record { nodes = nodes_of p; arcs = arcs_of p }) e

-- a text is one network's at most
pub one_text : (m n : Net) → CanBeNet m → CanBeNet n → length (dump_text m) < 2 ^ 64 → dump_text m ≡ dump_text n → m ≡ n
one_text m n can may fits e =
    let text = dump_text m in
    let j = length m.nodes + (1 + (length (unit_lines m.nodes) + length m.arcs)) in
    let k = length n.nodes + (1 + (length (unit_lines n.nodes) + length n.arcs)) in
    let first : Reaches j (Comments []) text (end_of m) [] = network_leads m can (few_arcs m fits) in
    let second : Reaches k (Comments []) text (end_of n) [] = subst (λ t. Reaches k (Comments []) t (end_of n) []) (sym e) (network_leads n may (few_arcs n (subst (λ t. length t < 2 ^ 64) e fits))) in
    elim (cases_lt j k) [
      | inl less ↦ end_tells m n (one_end (k - j) m n (onward j k (Comments []) (end_of m) (end_of n) text [] [] (small_start text fits) (omega arith) first second).leads)
      | inr most ↦ sym (end_tells n m (one_end (j - k) n m (onward k j (Comments []) (end_of n) (end_of m) text [] [] (small_start text fits) most second first).leads))
    ]

stays : (k : ℕ) (q r : LineState) (text rest : List ℕ) → Reaches k q text r rest → IsMalformedAt q text → k ≡ 0
stays zero q r text rest h stuck = refl
stays (suc k) q r text rest h stuck = absurd (stuck.no_line h.0 h.2 h.1 h.3 h.4)

-- one line is the first that breaks a rule
pub one_broken : (text : List ℕ) (a b : ℕ) → length text < 2 ^ 64 → BreaksAt text a → BreaksAt text b → a ≡ b
one_broken text a b fits x y =
    let j = x.good in
    let k = y.good in
    elim (cases_lt j k) [
      | inl less ↦
          let none = stays (k - j) x.place y.place x.rest y.rest (onward j k (Comments []) x.place y.place text x.rest y.rest (small_start text fits) (omega arith) x.before y.before).leads x.stuck in
          omega (arith, x.number, y.number)
      | inr most ↦
          let none = stays (j - k) y.place x.place y.rest x.rest (onward k j (Comments []) y.place x.place text y.rest x.rest (small_start text fits) most y.before x.before).leads y.stuck in
          omega (arith, x.number, y.number)
    ]

-- ---- for the reader's parts

next_units : (p q : LineState) (line : List ℕ) → AllByRecursion IsNonEmpty (units_of p) → Allows p line q → AllByRecursion IsNonEmpty (units_of q)
next_units (Comments nodes) q line all h = elim h [
  | inl x ↦ subst (λ z. AllByRecursion IsNonEmpty (units_of z)) (sym x.3) tt
  | inr x ↦ subst (λ z. AllByRecursion IsNonEmpty (units_of z)) (sym x.4) (units_some nodes)
]
next_units (Body nodes (u ∷ us) arcs left) q line all h = subst (λ z. AllByRecursion IsNonEmpty (units_of z)) (sym h.1) all.1
next_units (Body nodes [] arcs (suc left)) q line all h = subst (λ z. AllByRecursion IsNonEmpty (units_of z)) (sym h.3) tt
next_units (Body nodes [] arcs zero) q line all h = absurd h

-- each line takes a byte at least
pub takes_bytes : (k : ℕ) (p q : LineState) (text rest : List ℕ) → AllByRecursion IsNonEmpty (units_of p) → Reaches k p text q rest → k + length rest ≤ length text
takes_bytes zero p q text rest all h = omega (arith, ap length h.1)
takes_bytes (suc k) p q text rest all h =
    let later = takes_bytes k h.1 q h.2 rest (next_units p h.1 h.0 all h.4) h.5 in
    omega (arith, later, ap length h.3, length-append h.0 h.2, line_some p h.1 h.0 all h.4)

-- a fault behind good lines
pub broken_behind : (lines n line : ℕ) (p q : LineState) (text rest : List ℕ) → Reaches n p text q rest → BreaksAfter (lines + n) q rest line → BreaksAfter lines p text line
broken_behind lines n line p q text rest h b = record {
  good = n + b.good;
  place = b.place;
  rest = b.rest;
  number = omega (arith, b.number);
  before = leads_on n b.good p q b.place text rest b.rest h b.before;
  stuck = b.stuck;
}

-- the next line is broken
pub broken_here : (lines line : ℕ) (p : LineState) (text : List ℕ) → line ≡ lines + 1 → IsMalformedAt p text → BreaksAfter lines p text line
broken_here lines line p text e stuck = record { good = 0; place = p; rest = text; number = omega (arith, e); before = (refl, refl); stuck = stuck }
