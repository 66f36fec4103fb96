-- How much dearer than a certified flow each other is by its units on one arc, and by those on two.
use Rattle.std.proofs.Common.{◌≡◌, ◌∙◌, sym, subst, refl, inl, inr, ap, ℕ, ◌+◌, ◌*◌, ◌≤◌, ◌<◌, List, [], ◌∷◌, Option, Some, None, arith}
use Rattle.std.specs.Prelude.{ℤ, pos, ◌≤ℤ◌, IsSome, option_map}
use Rattle.std.proofs.lemmas.Int.{ints}
use borrow.Author.Differences.{up, down}
use Rattle.std.proofs.Math.Nat.{add-mul, mul-le-mul_right, one-mul, mul-zero, mul_comm}
use Rattle.std.proofs.lemmas.List.Sums.{sum_by-cons}
use Rattle.fm_records.specs.Sets.{IsMember}
use Rattle.fm_records.proofs.RangeLaws.{inside}
use Rattle.fm_net.specs.declared.node.Node.{Node}
use Rattle.fm_net.specs.declared.node.Node.TheVariants.{Request, Machine, Task}
use Rattle.fm_net.specs.Nodes.{ends_cmp}
use Rattle.fm_net.specs.laws.NodeOrder.{ends_exact, ends_total}
use Rattle.fm_net.specs.Net.{Net, CanBeNet, arc_at}
use Rattle.fm_certificate.specs.Flows.{Units, units_in, cost_of, IsFeasible}
use Rattle.fm_certificate.specs.Certificates.{reduced_cost, potential_in, IsCertified}
use Rattle.fm_certificate.proofs.Members.{lookup_member}
use Rattle.fm_certificate.proofs.Exchange.{Arc, units_at}
use Rattle.fm_certificate.proofs.Least.{arc_member, earns_alike, trade, traded, Traded, costs, from_sum, to_sum}
use Rattle.fm_why.specs.Running.{Sends, GoesOver}
use Rattle.fm_why.specs.MachineOptions.{cost_at}
use Rattle.fm_why.specs.inner.MachineWays.{IsGap}

-- sums over arcs, of which each is traded, and one or two with a gap
module _ (rising falling : Node → ℕ) (f g : Units) where
  abbrev left : Arc → ℕ
  left a = a.1.1 * units_at f a + rising a.0.0 * units_at f a + falling a.0.1 * units_at f a + (rising a.0.1 * units_at g a + falling a.0.0 * units_at g a)

  abbrev right : Arc → ℕ
  right a = a.1.1 * units_at g a + rising a.0.0 * units_at g a + falling a.0.1 * units_at g a + (rising a.0.1 * units_at f a + falling a.0.0 * units_at f a)

  abbrev lefts : List Arc → ℕ
  lefts arcs = costs rising falling f g f arcs + from_sum rising falling f g rising f arcs + to_sum rising falling f g falling f arcs + (to_sum rising falling f g rising g arcs + from_sum rising falling f g falling g arcs)

  abbrev rights : List Arc → ℕ
  rights arcs = costs rising falling f g g arcs + from_sum rising falling f g rising g arcs + to_sum rising falling f g falling g arcs + (to_sum rising falling f g rising f arcs + from_sum rising falling f g falling f arcs)

  -- a part of both sides goes before the rest
  joined : (d e : ℕ) (a : Arc) (arcs : List Arc) → left a + d ≤ right a → lefts arcs + e ≤ rights arcs → lefts (a ∷ arcs) + (d + e) ≤ rights (a ∷ arcs)
  joined d e a arcs first rest =
      let cost = λ (p : Units). sum_by-cons (λ (b : Arc). b.1.1 * units_at p b) a arcs in
      let from = λ (weight : Node → ℕ) (p : Units). sum_by-cons (λ (b : Arc). weight b.0.0 * units_at p b) a arcs in
      let to = λ (weight : Node → ℕ) (p : Units). sum_by-cons (λ (b : Arc). weight b.0.1 * units_at p b) a arcs in
      omega (arith, cost f, cost g, from rising f, from rising g, from falling f, from falling g, to rising f, to rising g, to falling f, to falling g)

  -- from the member on which there is a gap to the first arc
  moved : (d : ℕ) (one a : Arc) → a ≡ one → left one + d ≤ right one → left a + d ≤ right a
  moved d one a is by = subst (λ (b : Arc). left b + d ≤ right b) (sym is) by

  traded_by : (d : ℕ) (one : Arc) (arcs : List Arc) → IsMember one arcs → ((a : Arc) → IsMember a arcs → Traded rising falling f g f g a) → left one + d ≤ right one → lefts arcs + d ≤ rights arcs
  traded_by d one [] m each by = absurd m
  traded_by d one (a ∷ arcs) m each by = elim m [
    | inl is ↦
        let rest = traded rising falling f g arcs (λ b n. each b (inr n)) in
        let all = joined d 0 a arcs (moved d one a is by) (omega arith) in
        omega arith
    | inr later ↦
        let rest = traded_by d one arcs later (λ b n. each b (inr n)) by in
        let first = each a (inl refl) in
        let all = joined 0 d a arcs (omega arith) rest in
        omega arith
  ]

  traded_by_two : (d e : ℕ) (one two : Arc) (arcs : List Arc) → IsMember one arcs → IsMember two arcs → (one ≡ two → ⊥) → ((a : Arc) → IsMember a arcs → Traded rising falling f g f g a) → left one + d ≤ right one → left two + e ≤ right two → lefts arcs + (d + e) ≤ rights arcs
  traded_by_two d e one two [] m n apart each by also = absurd m
  traded_by_two d e one two (a ∷ arcs) m n apart each by also = elim m [
    | inl is ↦ elim n [
      | inl same ↦ absurd (apart (sym is ∙ same))
      | inr later ↦ joined d e a arcs (moved d one a is by) (traded_by e two arcs later (λ b n. each b (inr n)) also)
    ]
    | inr deep ↦ elim n [
      | inl same ↦
          let all = joined e d a arcs (moved e two a same also) (traded_by d one arcs deep (λ b n. each b (inr n)) by) in
          omega arith
      | inr later ↦
          let rest = traded_by_two d e one two arcs deep later apart (λ b n. each b (inr n)) by also in
          let first = each a (inl refl) in
          let all = joined 0 (d + e) a arcs (omega arith) rest in
          omega arith
    ]
  ]

-- at potentials of an arc's ends u and v: so much dearer is each of g's units where f has none, if a unit costs d more there
dearer_there : (c uu ud vu vd d g : ℕ) → 0 < g → vu + ud + d ≤ c + uu + vd → vu * g + ud * g + d ≤ c * g + uu * g + vd * g
dearer_there c uu ud vu vd d g some dear =
    let all : (vu + ud + d) * g ≤ (c + uu + vd) * g = mul-le-mul_right g dear in
    let one : 1 * d ≤ g * d = mul-le-mul_right d some in
    omega (arith, all, one, one-mul d, add-mul (vu + ud) d g, add-mul vu ud g, add-mul (c + uu) vd g, add-mul c uu g, mul_comm g d)

some_of : {A : Type 0} (o : Option A) → IsSome o → (a : A) × (o ≡ Some a)
some_of None h = absurd (let no : ⊥ = cc in no)
some_of (Some a) h = (a, refl)

module _ (net : Net) (flow : List ((Node × Node) × ℕ)) (potentials : List (Node × ℤ)) (g : Units) (can : CanBeNet net) (cert : IsCertified net flow potentials) (gg : IsFeasible net g) where
  abbrev f : Units
  f = units_in flow

  abbrev at : Node → ℤ
  at = potential_in potentials

  abbrev rise : Node → ℕ
  rise n = up (at n)

  abbrev fall : Node → ℕ
  fall n = down (at n)

  each : (a : Arc) → IsMember a net.arcs → Traded rise fall f g f g a
  each a m =
      let arc = arc_member net can a m in
      let gain = λ (below : f a.0.0 a.0.1 < a.1.0). cert.no_gain a.0.0 a.0.1 a.1 arc below in
      let waste = λ (above : 0 < f a.0.0 a.0.1). cert.no_waste a.0.0 a.0.1 a.1 arc above in
      trade a.1.1 (rise a.0.0) (fall a.0.0) (rise a.0.1) (fall a.0.1) (f a.0.0 a.0.1) (g a.0.0 a.0.1) a.1.0 (gg.within a.0.0 a.0.1 a.1 arc)
      (λ below. let h = gain below in omega (arith, ints))
      (λ above. let h = waste above in omega (arith, ints))

  member : (from to : Node) (arc : ℕ × ℕ) → arc_at net from to ≡ Some arc → IsMember ((from, to), arc) net.arcs
  member from to arc there = lookup_member ends_cmp ends_total ends_exact (from, to) arc net.arcs there

  by_gap : (from to : Node) (arc : ℕ × ℕ) (d : ℕ) → arc_at net from to ≡ Some arc → 0 < g from to → IsGap f at from to arc.1 d → left rise fall f g ((from, to), arc) + d ≤ right rise fall f g ((from, to), arc)
  by_gap from to arc d there some gap = elim gap [
    | inl none ↦ let h = each ((from, to), arc) (member from to arc there) in rw none (omega arith)
    | inr is ↦
        let below : pos d ≤ℤ reduced_cost arc.1 (at from) (at to) = is.1 in
        let dear : rise to + fall from + d ≤ arc.1 + rise from + fall to = omega (arith, ints) in
        let more = dearer_there arc.1 (rise from) (fall from) (rise to) (fall to) d (g from to) some dear in
        rw is.0 (omega (arith, more, mul-zero arc.1, mul-zero (rise from), mul-zero (fall to), mul-zero (rise to), mul-zero (fall from)))
  ]

  cost_there : (cost : ℕ) (from to : Node) (arc : ℕ × ℕ) → Some cost ≡ cost_at net from to → arc_at net from to ≡ Some arc → cost ≡ arc.1
  cost_there cost from to arc there is = inside cost arc.1 (there ∙ ap (λ (o : Option (ℕ × ℕ)). option_map (λ (a : ℕ × ℕ). a.1) o) is)

  -- a flow with units on an arc
  pub over_one : (from to : Node) (arc : ℕ × ℕ) (d : ℕ) → arc_at net from to ≡ Some arc → 0 < g from to → IsGap f at from to arc.1 d → cost_of net f + d ≤ cost_of net g
  over_one from to arc d there some gap =
      let all = traded_by rise fall f g d ((from, to), arc) net.arcs (member from to arc there) each (by_gap from to arc d there some gap) in
      omega (arith, earns_alike net can f g cert.feasible gg rise, earns_alike net can f g cert.feasible gg fall)

  -- a flow with units on two
  pub over_two : (from via to : Node) (arc next : ℕ × ℕ) (d e : ℕ) → (from ≡ via → ⊥) → arc_at net from via ≡ Some arc → arc_at net via to ≡ Some next → 0 < g from via → 0 < g via to → IsGap f at from via arc.1 d → IsGap f at via to next.1 e → cost_of net f + (d + e) ≤ cost_of net g
  over_two from via to arc next d e apart there then some more gap also =
      let all = traded_by_two rise fall f g d e ((from, via), arc) ((via, to), next) net.arcs (member from via arc there) (member via to next then) (λ same. apart (ap (λ (a : Arc). a.0.0) same)) each (by_gap from via arc d there some gap) (by_gap via to next e then more also) in
      omega (arith, earns_alike net can f g cert.feasible gg rise, earns_alike net can f g cert.feasible gg fall)

  -- the same of arcs that the flow is known to send units over
  pub over_sent : (from to : Node) (cost d : ℕ) → Sends net g from to → Some cost ≡ cost_at net from to → IsGap f at from to cost d → cost_of net f + d ≤ cost_of net g
  over_sent from to cost d sends there gap =
      let arc = some_of (arc_at net from to) sends.arc in
      over_one from to arc.0 d arc.1 sends.some (subst (λ c. IsGap f at from to c d) (cost_there cost from to arc.0 there arc.1) gap)

  pub over_both : (t r m cost d e : ℕ) → GoesOver net t r m g → ((arc : ℕ × ℕ) → arc_at net (Task t) (Request r) ≡ Some arc → IsGap f at (Task t) (Request r) arc.1 d) → Some cost ≡ cost_at net (Request r) (Machine m) → IsGap f at (Request r) (Machine m) cost e → cost_of net f + (d + e) ≤ cost_of net g
  over_both t r m cost d e goes gap there also =
      let first = some_of (arc_at net (Task t) (Request r)) goes.0.arc in
      let second = some_of (arc_at net (Request r) (Machine m)) goes.1.arc in
      over_two (Task t) (Request r) (Machine m) first.0 second.0 d e (λ same. absurd (cc)) first.1 second.1 goes.0.some goes.1.some (gap first.0 first.1)
      (subst (λ c. IsGap f at (Request r) (Machine m) c e) (cost_there cost (Request r) (Machine m) second.0 there second.1) also)
