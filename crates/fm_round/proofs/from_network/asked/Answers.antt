use Rattle.std.proofs.Common.{◌≡◌, ◌∷◌, ◌++◌, cond, List, ℕ, sym, ◌∙◌, ap, subst, rules}
use Rattle.std.specs.Prelude.{filter, map}
use Rattle.fm_net.specs.declared.node.Node.{Node}
use Rattle.fm_certificate.specs.Flows.{units_in}
use Rattle.fm_round.specs.inner.PlanArcs.{is_asked, is_asked_after}
use Rattle.fm_round.proofs.Asked.{IsWalk, walk_on, asks_for, kept_one}
use Rattle.fm_round.proofs.from_network.asked.Goals as goal

abbrev NetArc : Type 0
NetArc = (Node × Node) × (ℕ × ℕ)

pub loop-arc-preserved : goal.loop-arc-preserved
loop-arc-preserved c =
    let network = c.args.network.now in
    let flow = c.args.flow.now in
    let last = c.loop-arc.waiting.last in
    let ends : Node × Node = (c.in-Some.arc.0, c.in-Some.arc.1) in
    let arc : NetArc = (ends, (c.in-Some.arc.2, c.in-Some.arc.3)) in
    let rest : List NetArc = c.next.new.self in
    let sent = c.unwrap_or-sent.result in
    let units = c.loop-arc.units.items in
    let later = filter (is_asked network) (map (λ (a : NetArc). (a.0, units_in flow a.0.0 a.0.1)) rest) in
    let walk : IsWalk network.arcs (arc ∷ rest) last = subst (λ (xs : List NetArc). IsWalk network.arcs xs last) c.in-Some.ensures.steps c.loop-arc.invariant.walk in
    let is_sent : sent ≡ units_in flow ends.0 ends.1 = search rules in
    let asked : is_asked_after c.pass.new.self.last (ends, sent) ≡ is_asked network (ends, sent) = ap (λ w. is_asked_after w (ends, sent)) c.pass.ensures ∙ asks_for network last arc rest sent walk in
    record {
      can_next = tt;
      is_finite = tt;
      walk = subst (λ w. IsWalk network.arcs rest w) (sym c.pass.ensures) (walk_on network.arcs last arc rest walk);
      found = ap (λ us. us ++ later) c.in_ok-add_asked.ensures
          ∙ kept_one (is_asked_after c.pass.new.self.last (ends, sent)) units (ends, sent) later
          ∙ ap (λ b. units ++ cond b ((ends, sent) ∷ later) later) asked
          ∙ ap (λ u. units ++ cond (is_asked network (ends, u)) ((ends, u) ∷ later) later) is_sent
          ∙ ap (λ (xs : List NetArc). units ++ filter (is_asked network) (map (λ (a : NetArc). (a.0, units_in flow a.0.0 a.0.1)) xs)) (sym c.in-Some.ensures.steps)
          ∙ c.loop-arc.invariant.found;
    }
