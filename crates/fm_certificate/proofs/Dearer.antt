-- What a certified flow says of each other: how much dearer that is at least for its units on one arc, and that its potentials fit
-- each that is least.
use Rattle.std.proofs.Common.{◌≡◌, sym, subst, refl, inl, inr, ℕ, ◌+◌, ◌-◌, ◌*◌, ◌≤◌, ◌<◌, List, [], ◌∷◌, Some, arith}
use Rattle.std.specs.Prelude.{ℤ, pos, ◌+ℤ◌, ◌-ℤ◌, ◌≤ℤ◌}
use Rattle.std.proofs.lemmas.Int.{ints}
use borrow.Author.Differences.{up, down}
use Rattle.std.proofs.Math.Nat.{add-mul, mul-add, mul-le-mul_right, one-mul, mul-zero, mul_comm}
use Rattle.std.proofs.lemmas.Bool.{cases_lt}
use Rattle.std.proofs.lemmas.List.Sums.{sum_by-cons}
use Rattle.fm_records.specs.Sets.{IsMember}
use Rattle.fm_net.specs.declared.node.Node.{Node}
use Rattle.fm_net.specs.Nodes.{ends_cmp}
use Rattle.fm_net.specs.laws.NodeOrder.{ends_exact, ends_total}
use Rattle.fm_net.specs.Net.{Net, CanBeNet, arc_at}
use Rattle.fm_certificate.specs.Flows.{Units, cost_of, IsFeasible}
use Rattle.fm_certificate.specs.Certificates.{reduced_cost}
use Rattle.fm_certificate.proofs.Members.{lookup_member}
use Rattle.fm_certificate.proofs.Exchange.{Arc, units_at}
use Rattle.fm_certificate.proofs.Least.{arc_member, earns_alike, trade, traded, Traded, costs, from_sum, to_sum}

-- sums over arcs, of which each is traded, and one with a gap
module _ (rising falling : Node → ℕ) (f g : Units) where
  abbrev left : Arc → ℕ
  left a = a.1.1 * units_at f a + rising a.0.0 * units_at f a + falling a.0.1 * units_at f a + (rising a.0.1 * units_at g a + falling a.0.0 * units_at g a)

  abbrev right : Arc → ℕ
  right a = a.1.1 * units_at g a + rising a.0.0 * units_at g a + falling a.0.1 * units_at g a + (rising a.0.1 * units_at f a + falling a.0.0 * units_at f a)

  abbrev lefts : List Arc → ℕ
  lefts arcs = costs rising falling f g f arcs + from_sum rising falling f g rising f arcs + to_sum rising falling f g falling f arcs + (to_sum rising falling f g rising g arcs + from_sum rising falling f g falling g arcs)

  abbrev rights : List Arc → ℕ
  rights arcs = costs rising falling f g g arcs + from_sum rising falling f g rising g arcs + to_sum rising falling f g falling g arcs + (to_sum rising falling f g rising f arcs + from_sum rising falling f g falling f arcs)

  traded_by : (d : ℕ) (one : Arc) (arcs : List Arc) → IsMember one arcs → ((a : Arc) → IsMember a arcs → Traded rising falling f g f g a) → left one + d ≤ right one → lefts arcs + d ≤ rights arcs
  traded_by d one [] m each by = absurd m
  traded_by d one (a ∷ arcs) m each by =
      let cost = λ (p : Units). sum_by-cons (λ (b : Arc). b.1.1 * units_at p b) a arcs in
      let from = λ (weight : Node → ℕ) (p : Units). sum_by-cons (λ (b : Arc). weight b.0.0 * units_at p b) a arcs in
      let to = λ (weight : Node → ℕ) (p : Units). sum_by-cons (λ (b : Arc). weight b.0.1 * units_at p b) a arcs in
      elim m [
        | inl is ↦
            let rest = traded rising falling f g arcs (λ b n. each b (inr n)) in
            let first : left a + d ≤ right a = subst (λ (b : Arc). left b + d ≤ right b) (sym is) by in
            omega (arith, cost f, cost g, from rising f, from rising g, from falling f, from falling g, to rising f, to rising g, to falling f, to falling g)
        | inr later ↦
            let rest = traded_by d one arcs later (λ b n. each b (inr n)) by in
            let first = each a (inl refl) in
            omega (arith, cost f, cost g, from rising f, from rising g, from falling f, from falling g, to rising f, to rising g, to falling f, to falling g)
      ]

-- at potentials of an arc's ends u and v: so much dearer is each of g's units where f has none, if a unit costs d more there
module _ (c uu ud vu vd d : ℕ) where
  gap_up : (g : ℕ) → 0 < g → vu + ud + d ≤ c + uu + vd → vu * g + ud * g + d ≤ c * g + uu * g + vd * g
  gap_up g some dear =
      let all : (vu + ud + d) * g ≤ (c + uu + vd) * g = mul-le-mul_right g dear in
      let one : 1 * d ≤ g * d = mul-le-mul_right d some in
      omega (arith, all, one, one-mul d, add-mul (vu + ud) d g, add-mul vu ud g, add-mul (c + uu) vd g, add-mul c uu g, mul_comm g d)

  -- and so much is saved by each of f's units where g has none
  gap_down : (f : ℕ) → 0 < f → c + uu + vd + d ≤ vu + ud → c * f + uu * f + vd * f + d ≤ vu * f + ud * f
  gap_down f some dear =
      let all : (c + uu + vd + d) * f ≤ (vu + ud) * f = mul-le-mul_right f dear in
      let one : 1 * d ≤ f * d = mul-le-mul_right d some in
      omega (arith, all, one, one-mul d, add-mul (c + uu + vd) d f, add-mul vu ud f, add-mul (c + uu) vd f, add-mul c uu f, mul_comm f d)

-- more units where each is dearer
dearer_by : (p q x y d : ℕ) → y ≡ x + d → 0 < d → q < p → p * x + q * y < p * y + q * x
dearer_by p q x y d is some dear =
    let more : (q + 1) * d ≤ p * d = mul-le-mul_right d (omega arith) in
    rw is (omega (arith, more, some, add-mul q 1 d, one-mul d, mul-add p x d, mul-add q x d))

-- at potentials of an arc's ends u and v: g is dearer than f if it has more units where each costs, or fewer where each saves
module _ (c uu ud vu vd : ℕ) where
  more_cost : (f g : ℕ) → f < g → vu + ud < c + uu + vd → c * f + uu * f + vd * f + (vu * g + ud * g) < c * g + uu * g + vd * g + (vu * f + ud * f)
  more_cost f g above dear =
      let apart = dearer_by (c + uu + vd) (vu + ud) f g (g - f) (omega arith) (omega arith) dear in
      omega (arith, apart, add-mul (c + uu) vd f, add-mul c uu f, add-mul (c + uu) vd g, add-mul c uu g, add-mul vu ud f, add-mul vu ud g)

  fewer_save : (f g : ℕ) → g < f → c + uu + vd < vu + ud → c * f + uu * f + vd * f + (vu * g + ud * g) < c * g + uu * g + vd * g + (vu * f + ud * f)
  fewer_save f g below cheap =
      let apart = dearer_by (vu + ud) (c + uu + vd) g f (f - g) (omega arith) (omega arith) cheap in
      omega (arith, apart, add-mul (c + uu) vd f, add-mul c uu f, add-mul (c + uu) vd g, add-mul c uu g, add-mul vu ud f, add-mul vu ud g)

-- a further unit over an arc that is not full saves nothing, and neither does one less over an arc that has some
abbrev NoGain : Net → Units → (Node → ℤ) → Type 0
NoGain net f at = (from to : Node) (arc : ℕ × ℕ) → arc_at net from to ≡ Some arc → f from to < arc.0 → pos 0 ≤ℤ reduced_cost arc.1 (at from) (at to)

abbrev NoWaste : Net → Units → (Node → ℤ) → Type 0
NoWaste net f at = (from to : Node) (arc : ℕ × ℕ) → arc_at net from to ≡ Some arc → 0 < f from to → reduced_cost arc.1 (at from) (at to) ≤ℤ pos 0

module _ (net : Net) (f g : Units) (at : Node → ℤ) (can : CanBeNet net) (ff : IsFeasible net f) (gg : IsFeasible net g) (no_gain : NoGain net f at) (no_waste : NoWaste net f at) where
  abbrev rise : Node → ℕ
  rise n = up (at n)

  abbrev fall : Node → ℕ
  fall n = down (at n)

  each : (a : Arc) → IsMember a net.arcs → Traded rise fall f g f g a
  each a m =
      let arc = arc_member net can a m in
      let gain = λ (below : f a.0.0 a.0.1 < a.1.0). no_gain a.0.0 a.0.1 a.1 arc below in
      let waste = λ (above : 0 < f a.0.0 a.0.1). no_waste a.0.0 a.0.1 a.1 arc above in
      trade a.1.1 (rise a.0.0) (fall a.0.0) (rise a.0.1) (fall a.0.1) (f a.0.0 a.0.1) (g a.0.0 a.0.1) a.1.0 (gg.within a.0.0 a.0.1 a.1 arc)
      (λ below. let h = gain below in omega (arith, ints))
      (λ above. let h = waste above in omega (arith, ints))

  apart : (d : ℕ) (one : Arc) → IsMember one net.arcs → left rise fall f g one + d ≤ right rise fall f g one → cost_of net f + d ≤ cost_of net g
  apart d one m by =
      let all = traded_by rise fall f g d one net.arcs m each by in
      omega (arith, earns_alike net can f g ff gg rise, earns_alike net can f g ff gg fall)

  module _ (from to : Node) (arc : ℕ × ℕ) (there : arc_at net from to ≡ Some arc) where
    member : IsMember ((from, to), arc) net.arcs
    member = lookup_member ends_cmp ends_total ends_exact (from, to) arc net.arcs there

    abbrev one : Arc
    one = ((from, to), arc)

    pub dearer_used : f from to ≡ 0 → 0 < g from to → (pos (cost_of net f) +ℤ reduced_cost arc.1 (at from) (at to)) ≤ℤ pos (cost_of net g)
    dearer_used none some =
        let within : g from to ≤ arc.0 = gg.within from to arc there in
        let gain = no_gain from to arc there (omega arith) in
        let d : ℕ = arc.1 + rise from + fall to - (rise to + fall from) in
        let dear : rise to + fall from + d ≤ arc.1 + rise from + fall to = omega (arith, ints) in
        let gap = gap_up arc.1 (rise from) (fall from) (rise to) (fall to) d (g from to) some dear in
        let by : left rise fall f g one + d ≤ right rise fall f g one = rw none (omega (arith, gap, mul-zero arc.1, mul-zero (rise from), mul-zero (fall to), mul-zero (rise to), mul-zero (fall from))) in
        let all = apart d one member by in
        omega (arith, ints)

    pub dearer_unused : 0 < f from to → g from to ≡ 0 → (pos (cost_of net f) -ℤ reduced_cost arc.1 (at from) (at to)) ≤ℤ pos (cost_of net g)
    dearer_unused some none =
        let waste = no_waste from to arc there some in
        let d : ℕ = rise to + fall from - (arc.1 + rise from + fall to) in
        let dear : arc.1 + rise from + fall to + d ≤ rise to + fall from = omega (arith, ints) in
        let gap = gap_down arc.1 (rise from) (fall from) (rise to) (fall to) d (f from to) some dear in
        let by : left rise fall f g one + d ≤ right rise fall f g one = rw none (omega (arith, gap, mul-zero arc.1, mul-zero (rise from), mul-zero (fall to), mul-zero (rise to), mul-zero (fall from))) in
        let all = apart d one member by in
        omega (arith, ints)

    -- if g costs no more, the potentials fit it too
    module _ (no_more : cost_of net g ≤ cost_of net f) where
      not_apart : left rise fall f g one < right rise fall f g one → ⊥
      not_apart by = let all = apart 1 one member (omega arith) in omega arith

      pub gains_none : g from to < arc.0 → pos 0 ≤ℤ reduced_cost arc.1 (at from) (at to)
      gains_none below = elim (cases_lt (arc.1 + rise from + fall to) (rise to + fall from)) [
        | inl cheap ↦ elim (cases_lt (f from to) arc.0) [
          | inl free ↦ no_gain from to arc there free
          | inr full ↦ absurd (not_apart (fewer_save arc.1 (rise from) (fall from) (rise to) (fall to) (f from to) (g from to) (omega arith) cheap))
        ]
        | inr dear ↦ omega (arith, ints)
      ]

      pub wastes_none : 0 < g from to → reduced_cost arc.1 (at from) (at to) ≤ℤ pos 0
      wastes_none some = elim (cases_lt (rise to + fall from) (arc.1 + rise from + fall to)) [
        | inl dear ↦ elim (cases_lt 0 (f from to)) [
          | inl used ↦ no_waste from to arc there used
          | inr none ↦ absurd (not_apart (more_cost arc.1 (rise from) (fall from) (rise to) (fall to) (f from to) (g from to) (omega arith) dear))
        ]
        | inr cheap ↦ omega (arith, ints)
      ]
