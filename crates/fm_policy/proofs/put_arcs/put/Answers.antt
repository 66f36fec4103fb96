use Rattle.std.proofs.Common.{◌∙◌, ℕ, None, sym, subst, IsSome}
use Rattle.fm_policy.specs.Building.{MayHaveArc}
use Rattle.fm_policy.proofs.Adds.{adds_arc, leads_now}
use Rattle.fm_policy.proofs.put_arcs.put.Goals as goal
use Rattle.fm_policy.proofs.put_arcs.put.Goals.{After-put_arc-arg-1}

no_way : {A : Type 0} → IsSome {T = ℕ × ℕ} None → A
no_way h = absurd (let no : ⊥ = cc in no)

pub returns-in_default-clause-covers : goal.returns-in_default-clause-covers
returns-in_default-clause-covers c = λ some. no_way (subst IsSome (sym c.requires.arc ∙ c.in_default.is) some)

its : (c : After-put_arc-arg-1) → MayHaveArc c.args.knowledge.now c.args.from c.args.to (c.in-Some.capacity, c.in-Some.cost)
its c = c.law_arcs.ensures c.args.from c.args.to (c.in-Some.capacity, c.in-Some.cost) (sym c.requires.arc ∙ c.in-Some.is)

pub put_arc-requires-clause-from_stands : goal.put_arc-requires-clause-from_stands
put_arc-requires-clause-from_stands c = c.requires.nodes c.args.from (its c).from

pub put_arc-requires-clause-to_stands : goal.put_arc-requires-clause-to_stands
put_arc-requires-clause-to_stands c = c.requires.nodes c.args.to (its c).to

pub put_arc-requires-clause-kinds : goal.put_arc-requires-clause-kinds
put_arc-requires-clause-kinds c = (its c).kinds

pub put_arc-requires-clause-capacity_above : goal.put_arc-requires-clause-capacity_above
put_arc-requires-clause-capacity_above c = (its c).capacity

pub put_arc-requires-clause-cost_within : goal.put_arc-requires-clause-cost_within
put_arc-requires-clause-cost_within c = (its c).cost

pub returns-clause-adds : goal.returns-clause-adds
returns-clause-adds c =
    adds_arc c.args.knowledge.now c.args.network.now c.put_arc.new.self c.args.from c.args.to (c.in-Some.capacity, c.in-Some.cost)
    (sym c.requires.arc ∙ c.in-Some.is) c.in_ok-put_arc.ensures.has c.in_ok-put_arc.ensures.arc

pub returns-clause-covers : goal.returns-clause-covers
returns-clause-covers c = λ _. leads_now c.args.network.now c.put_arc.new.self c.args.from c.args.to (c.in-Some.capacity, c.in-Some.cost) c.in_ok-put_arc.ensures.arc
