-- What is certified is least: complementary slackness.
use Rattle.std.proofs.Common.{◌≡◌, ◌∙◌, ap, sym, subst, refl, inl, inr, ℕ, ◌+◌, ◌-◌, ◌*◌, ◌≤◌, ◌<◌, cond, List, [], ◌∷◌, Some, IsTrue, arith}
use Rattle.std.specs.Prelude.{ℤ, pos, ◌≤ℤ◌}
use Rattle.std.proofs.lemmas.Int.{ints}
use borrow.Author.Differences.{up, down}
use Rattle.std.specs.List.{sum_by}
use Rattle.std.proofs.Math.Nat.{mul-add, add-mul, mul-le-mul_right}
use Rattle.std.proofs.lemmas.Bool.{cases_lt}
use Rattle.std.proofs.lemmas.List.Sums.{sum_by-cons}
use Rattle.fm_records.specs.Sets.{IsMember}
use Rattle.fm_net.specs.declared.node.Node.{Node}
use Rattle.fm_net.specs.declared.node.Node.TheVariants.{Sink, Unscheduled, Request, Machine, Task}
use Rattle.fm_net.specs.Nodes.{node_cmp, ends_cmp}
use Rattle.fm_net.specs.laws.NodeOrder.{node_exact, node_total, ends_exact, ends_total}
use Rattle.fm_net.proofs.ListLaws.{has_member, member_has}
use Rattle.fm_net.specs.Net.{Net, CanBeNet, IsArc, IsArcKind, has_node, arc_at}
use Rattle.fm_net.specs.NetworkEquality.{same_node}
use Rattle.fm_certificate.proofs.Alike.{other_node}
use Rattle.fm_certificate.specs.Flows.{Units, units_in, leaving, entering, IsFeasible, IsLeast}
use Rattle.fm_certificate.specs.Certificates.{potential_in, reduced_cost, IsCertified}
use Rattle.fm_certificate.proofs.Members.{member_lookup}
use Rattle.fm_certificate.proofs.Sums.{sum_same, sum_none, sum_both, last_alike}
use Rattle.fm_certificate.proofs.Exchange.{Arc, units_at, exchanged}

-- a dearer rate on more, a cheaper one on less
apart_by : (p q x y d : ℕ) → y ≡ x + d → q ≤ p → p * x + q * y ≤ p * y + q * x
apart_by p q x y d is le =
    let more : q * d ≤ p * d = mul-le-mul_right d le in
    rw is (omega (arith, mul-add p x d, mul-add q x d))

exchange_rates : (p q x y : ℕ) → (x < y → q ≤ p) → (y < x → p ≤ q) → p * x + q * y ≤ p * y + q * x
exchange_rates p q x y up down = elim (cases_lt x y) [
  | inl below ↦ let is : y ≡ x + (y - x) = omega arith in apart_by p q x y (y - x) is (up below)
  | inr above ↦ elim (cases_lt y x) [
    | inl less ↦
        let is : x ≡ y + (x - y) = omega arith in
        let turned = apart_by q p y x (x - y) is (down less) in
        omega arith
    | inr same ↦ let is : x ≡ y = omega arith in rw is (omega arith)
  ]
]

-- at potentials of an arc's ends u and v, in naturals: one flow f of the arc that is certified, and another g within its capacity k
module _ (c uu ud vu vd : ℕ) where
  spread : (x : ℕ) → (c + uu + vd) * x ≡ c * x + uu * x + vd * x
  spread x = add-mul (c + uu) vd x ∙ ap (λ n. n + vd * x) (add-mul c uu x)

  pub trade : (f g k : ℕ) → g ≤ k → (f < k → vu + ud ≤ c + uu + vd) → (0 < f → c + uu + vd ≤ vu + ud) → c * f + uu * f + vd * f + (vu * g + ud * g) ≤ c * g + uu * g + vd * g + (vu * f + ud * f)
  trade f g k within gain waste =
      let rates = exchange_rates (c + uu + vd) (vu + ud) f g (λ below. gain (omega arith)) (λ above. waste (omega arith)) in
      omega (arith, spread f, spread g, add-mul vu ud f, add-mul vu ud g)

module _ (net : Net) (can : CanBeNet net) where
  pub arc_member : (a : Arc) → IsMember a net.arcs → arc_at net a.0.0 a.0.1 ≡ Some a.1
  arc_member a h = member_lookup ends_cmp ends_total ends_exact a net.arcs can.arcs_rise h

  is_arc : (a : Arc) → IsMember a net.arcs → IsArc net a.0.0 a.0.1 a.1
  is_arc a h = can.are_arcs a.0.0 a.0.1 a.1 (arc_member a h)

  node_member : (n : Node) → IsTrue (has_node net n) → IsMember n net.nodes
  node_member n h = member_has node_cmp node_total node_exact n net.nodes h

  node_has : (n : Node) → IsMember n net.nodes → IsTrue (has_node net n)
  node_has n h = has_member node_cmp node_total node_exact n net.nodes h

  -- the arcs' units weighed by their sources are what leaves the nodes, weighed
  by_sources : (weight : Node → ℕ) (units : Units) → sum_by (λ (a : Arc). weight a.0.0 * units_at units a) net.arcs ≡ sum_by (λ n. weight n * leaving net units n) net.nodes
  by_sources weight units = exchanged (λ (a : Arc). a.0.0) weight units net.nodes can.nodes_rise net.arcs (λ a h. node_member a.0.0 (is_arc a h).from_stands)

  by_targets : (weight : Node → ℕ) (units : Units) → sum_by (λ (a : Arc). weight a.0.1 * units_at units a) net.arcs ≡ sum_by (λ n. weight n * entering net units n) net.nodes
  by_targets weight units = exchanged (λ (a : Arc). a.0.1) weight units net.nodes can.nodes_rise net.arcs (λ a h. node_member a.0.1 (is_arc a h).to_stands)

  -- nothing enters a task, and nothing leaves the sink

  no_target : (m : Node) (t : ℕ) → IsArcKind m (Task t) → ⊥
  no_target Sink t h = h
  no_target (Unscheduled j) t h = h
  no_target (Request r) t h = h
  no_target (Machine m) t h = h
  no_target (Task s) t h = h

  no_source : (n : Node) → IsArcKind Sink n → ⊥
  no_source Sink h = h
  no_source (Unscheduled j) h = h
  no_source (Request r) h = h
  no_source (Machine m) h = h
  no_source (Task s) h = h

  at_other : (m n : Node) (units : ℕ) → (m ≡ n → ⊥) → cond (same_node m n) units 0 ≡ 0
  at_other m n units h = rw (other_node m n h) refl

  enters_no_task : (units : Units) (t : ℕ) → entering net units (Task t) ≡ 0
  enters_no_task units t = sum_none _ net.arcs (λ a h. at_other a.0.1 (Task t) (units a.0.0 a.0.1) (λ is. no_target a.0.0 t (subst (IsArcKind a.0.0) is (is_arc a h).kinds)))

  leaves_no_sink : (units : Units) → leaving net units Sink ≡ 0
  leaves_no_sink units = sum_none _ net.arcs (λ a h. at_other a.0.0 Sink (units a.0.0 a.0.1) (λ is. no_source a.0.1 (subst (λ m. IsArcKind m a.0.1) is (is_arc a h).kinds)))

  module _ (f g : Units) (ff : IsFeasible net f) (gg : IsFeasible net g) where
    -- what leaves in one flow and enters in the other
    abbrev across : Units → Units → Node → ℕ
    across p q n = leaving net p n + entering net q n

    alike_but_sink : (n : Node) → IsMember n net.nodes → (Sink ≡ n → ⊥) → across f g n ≡ across g f n
    alike_but_sink Sink m h = absurd (h refl)
    alike_but_sink (Task t) m h =
        omega (arith, ff.sent t (node_has (Task t) m), gg.sent t (node_has (Task t) m), enters_no_task f t, enters_no_task g t)
    alike_but_sink (Unscheduled j) m h = omega (arith, ff.kept (Unscheduled j) (node_has (Unscheduled j) m) refl, gg.kept (Unscheduled j) (node_has (Unscheduled j) m) refl)
    alike_but_sink (Request r) m h = omega (arith, ff.kept (Request r) (node_has (Request r) m) refl, gg.kept (Request r) (node_has (Request r) m) refl)
    alike_but_sink (Machine q) m h = omega (arith, ff.kept (Machine q) (node_has (Machine q) m) refl, gg.kept (Machine q) (node_has (Machine q) m) refl)

    -- the same, weighed
    abbrev weighed : (Node → ℕ) → Units → Units → Node → ℕ
    weighed weight p q n = weight n * leaving net p n + weight n * entering net q n

    weighed_is : (weight : Node → ℕ) (p q : Units) (n : Node) → weighed weight p q n ≡ weight n * across p q n
    weighed_is weight p q n = sym (mul-add (weight n) (leaving net p n) (entering net q n))

    weighed_sums : (weight : Node → ℕ) (p q : Units) → sum_by (weighed weight p q) net.nodes ≡ sum_by (λ (a : Arc). weight a.0.0 * units_at p a) net.arcs + sum_by (λ (a : Arc). weight a.0.1 * units_at q a) net.arcs
    weighed_sums weight p q =
        let both = sum_both (λ n. weight n * leaving net p n) (λ n. weight n * entering net q n) net.nodes in
        omega (arith, by_sources weight p, by_targets weight q)

    abbrev one : Node → ℕ
    one n = 1

    totals : sum_by (weighed one f g) net.nodes ≡ sum_by (weighed one g f) net.nodes
    totals = omega (arith, weighed_sums one f g, weighed_sums one g f)

    weighed_alike : (weight : Node → ℕ) (n : Node) → IsMember n net.nodes → (Sink ≡ n → ⊥) → weighed weight f g n ≡ weighed weight g f n
    weighed_alike weight n m h = weighed_is weight f g n ∙ ap (λ k. weight n * k) (alike_but_sink n m h) ∙ sym (weighed_is weight g f n)

    alike_at_sink : across f g Sink ≡ across g f Sink
    alike_at_sink =
        let alike = last_alike (weighed one f g) (weighed one g f) Sink net.nodes can.nodes_rise (node_member Sink can.has_sink) (weighed_alike one) totals in
        omega arith

    alike : (n : Node) → IsMember n net.nodes → across f g n ≡ across g f n
    alike Sink m = alike_at_sink
    alike (Task t) m = alike_but_sink (Task t) m (λ e. absurd (cc))
    alike (Unscheduled j) m = alike_but_sink (Unscheduled j) m (λ e. absurd (cc))
    alike (Request r) m = alike_but_sink (Request r) m (λ e. absurd (cc))
    alike (Machine q) m = alike_but_sink (Machine q) m (λ e. absurd (cc))

    -- potentials earn the same on both flows
    pub earns_alike : (weight : Node → ℕ) → sum_by (λ (a : Arc). weight a.0.0 * units_at f a) net.arcs + sum_by (λ (a : Arc). weight a.0.1 * units_at g a) net.arcs ≡ sum_by (λ (a : Arc). weight a.0.0 * units_at g a) net.arcs + sum_by (λ (a : Arc). weight a.0.1 * units_at f a) net.arcs
    earns_alike weight =
        sym (weighed_sums weight f g)
        ∙ sum_same (weighed weight f g) (weighed weight g f) net.nodes (λ n m. weighed_is weight f g n ∙ ap (λ k. weight n * k) (alike n m) ∙ sym (weighed_is weight g f n))
        ∙ weighed_sums weight g f

-- arcs, each traded
module _ (rising falling : Node → ℕ) (f g : Units) where
  abbrev pub costs : Units → List Arc → ℕ
  costs p arcs = sum_by (λ (a : Arc). a.1.1 * units_at p a) arcs

  abbrev pub from_sum : (Node → ℕ) → Units → List Arc → ℕ
  from_sum weight p arcs = sum_by (λ (a : Arc). weight a.0.0 * units_at p a) arcs

  abbrev pub to_sum : (Node → ℕ) → Units → List Arc → ℕ
  to_sum weight p arcs = sum_by (λ (a : Arc). weight a.0.1 * units_at p a) arcs

  abbrev pub Traded : Units → Units → Arc → Type 0
  Traded p q a = a.1.1 * units_at p a + rising a.0.0 * units_at p a + falling a.0.1 * units_at p a +
      (rising a.0.1 * units_at q a + falling a.0.0 * units_at q a) ≤ a.1.1 * units_at q a + rising a.0.0 * units_at q a +
      falling a.0.1 * units_at q a + (rising a.0.1 * units_at p a + falling a.0.0 * units_at p a)

  pub traded : (arcs : List Arc) → ((a : Arc) → IsMember a arcs → Traded f g a) → costs f arcs + from_sum rising f arcs + to_sum
      falling f arcs + (to_sum rising g arcs + from_sum falling g arcs) ≤ costs g arcs + from_sum rising g arcs + to_sum falling
      g arcs + (to_sum rising f arcs + from_sum falling f arcs)
  traded [] each = omega arith
  traded (a ∷ arcs) each =
      let rest = traded arcs (λ b m. each b (inr m)) in
      let first = each a (inl refl) in
      let cost = λ (p : Units). sum_by-cons (λ (b : Arc). b.1.1 * units_at p b) a arcs in
      let from = λ (weight : Node → ℕ) (p : Units). sum_by-cons (λ (b : Arc). weight b.0.0 * units_at p b) a arcs in
      let to = λ (weight : Node → ℕ) (p : Units). sum_by-cons (λ (b : Arc). weight b.0.1 * units_at p b) a arcs in
      omega (arith, cost f, cost g, from rising f, from rising g, from falling f, from falling g, to rising f, to rising g, to falling f, to falling g)

-- units and potentials as functions
pub shown_is_least : (net : Net) (f : Units) (at : Node → ℤ) → CanBeNet net → IsFeasible net f →
    ((from to : Node) (arc : ℕ × ℕ) → arc_at net from to ≡ Some arc → f from to < arc.0 → pos 0 ≤ℤ reduced_cost arc.1 (at from)
    (at to)) → ((from to : Node) (arc : ℕ × ℕ) → arc_at net from to ≡ Some arc → 0 < f from to → reduced_cost arc.1 (at from)
    (at to) ≤ℤ pos 0) → IsLeast net f
shown_is_least net f at can feasible no_gain no_waste =
    record {
      feasible = feasible;
      least = λ g gg.
          let each = λ (a : Arc) (m : IsMember a net.arcs).
          let arc = arc_member net can a m in
          let gain = λ (below : f a.0.0 a.0.1 < a.1.0). no_gain a.0.0 a.0.1 a.1 arc below in
          let waste = λ (above : 0 < f a.0.0 a.0.1). no_waste a.0.0 a.0.1 a.1 arc above in
          trade a.1.1 (up (at a.0.0)) (down (at a.0.0)) (up (at a.0.1)) (down (at a.0.1)) (f a.0.0 a.0.1) (g a.0.0 a.0.1) a.1.0 (gg.within a.0.0 a.0.1 a.1 arc)
          (λ below. let h = gain below in omega (arith, ints))
          (λ above. let h = waste above in omega (arith, ints))
          in
          let all = traded (λ n. up (at n)) (λ n. down (at n)) f g net.arcs each in
          omega (arith, earns_alike net can f g feasible gg (λ n. up (at n)), earns_alike net can f g feasible gg (λ n. down (at n)));
    }

pub certified_is_least : (net : Net) (flow : List ((Node × Node) × ℕ)) (potentials : List (Node × ℤ)) → CanBeNet net → IsCertified net flow potentials → IsLeast net (units_in flow)
certified_is_least net flow potentials can cert = shown_is_least net (units_in flow) (potential_in potentials) can cert.feasible cert.no_gain cert.no_waste
