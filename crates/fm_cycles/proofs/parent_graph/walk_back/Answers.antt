use Rattle.std.proofs.Common.{◌≡◌, Some, None, List, [], ◌∷◌, ◌++◌, sym, subst, length, set, rules, arith}
use Rattle.fm_cycles.specs.Residual.{residual}
use Rattle.fm_cycles.specs.inner.Labels.{parents_in}
use Rattle.fm_cycles.specs.inner.ParentGraph.{visit_of, IsWalkedBack}
use Rattle.fm_cycles.specs.declared.indexed_arcs.ResidualArc.{ResidualArc}
use Rattle.fm_cycles.proofs.Walked.{State, begin, advanced, short, ended, came, closed_here}
use Rattle.fm_cycles.proofs.parent_graph.walk_back.Goals as goal

pub back-init : goal.back-init
back-init c = begin c.args.arcs.now c.args.units.now (length c.args.parents.now) (parents_in c.args.parents.now) c.args.start c.args.visits.now c.requires.start c.requires.sized c.args.walk.now.items c.requires.empty

pub returns-then-visit-start : goal.returns-then-visit-start
returns-then-visit-start c =
    let there : visit_of c.back.visits c.back.node ≡ Some c.in-Some.visit = search rules in
    came c.args.arcs.now c.args.units.now (length c.args.parents.now) (parents_in c.args.parents.now) c.args.start c.args.visits.now c.back.visits c.back.walk.items c.back.node c.back.invariant c.in-Some.visit there c.requires.before c.requires.sized
    (Some c.in-Some.visit.place)
    (closed_here c.args.arcs.now c.args.units.now (length c.args.parents.now) (parents_in c.args.parents.now) c.args.start
    c.args.visits.now c.back.visits c.back.walk.items c.back.node c.back.invariant c.in-Some.visit there c.requires.before
    c.requires.labels.0 c.requires.labels.1 c.requires.labels.2 c.if-visit-start.true)
    (λ no _. let wrong : ⊥ = cc in wrong)

pub returns-else-visit-start : goal.returns-else-visit-start
returns-else-visit-start c =
    let there : visit_of c.back.visits c.back.node ≡ Some c.in-Some.visit = search rules in
    came c.args.arcs.now c.args.units.now (length c.args.parents.now) (parents_in c.args.parents.now) c.args.start c.args.visits.now c.back.visits c.back.walk.items c.back.node c.back.invariant c.in-Some.visit there c.requires.before c.requires.sized
    None tt (λ _. c.if-visit-start.false)

pub bounds-visits-node : goal.bounds-visits-node
bounds-visits-node c = let h = c.back.invariant.within in let e = c.back.invariant.sized in omega arith

pub returns-in_default-parent_at : goal.returns-in_default-parent_at
returns-in_default-parent_at c =
    let new : visit_of c.back.visits c.back.node ≡ None = search rules in
    let none : parents_in c.args.parents.now c.back.node ≡ None = search rules in
    let len : c.len-place.result ≡ length c.back.walk.items = search rules in
    subst (λ n. IsWalkedBack (residual c.args.arcs.now c.args.units.now) (parents_in c.args.parents.now) c.args.start c.args.visits.now (set c.back.visits c.back.node (Some (record { start = c.args.start; place = n }))) c.back.walk.items None) (sym len)
    (ended c.args.arcs.now c.args.units.now (length c.args.parents.now) (parents_in c.args.parents.now) c.args.start c.args.visits.now c.back.visits c.back.walk.items c.back.node c.back.invariant new c.requires.sized c.requires.before none)

pub back-smaller : goal.back-smaller
back-smaller c =
    let new : visit_of c.back.visits c.back.node ≡ None = search rules in
    short c.args.arcs.now c.args.units.now (length c.args.parents.now) (parents_in c.args.parents.now) c.args.start c.args.visits.now c.back.visits c.back.walk.items c.back.node c.back.invariant new c.len-place.result

pub back-preserved : goal.back-preserved
back-preserved c =
    let new : visit_of c.back.visits c.back.node ≡ None = search rules in
    let items : c.push.new.self.items ≡ c.back.walk.items ++ c.in-Some-parent_at.step ∷ [] = search rules in
    let len : c.len-place.result ≡ length c.back.walk.items = search rules in
    let last : parents_in c.args.parents.now c.back.node ≡ Some c.in-Some-parent_at.step = search rules in
    let from : c.source-node.result ≡ (residual c.args.arcs.now c.args.units.now).source c.in-Some-parent_at.step = c.source-node.ensures in
    subst (λ n. State c.args.arcs.now c.args.units.now (length c.args.parents.now) (parents_in c.args.parents.now) c.args.start c.args.visits.now (set c.back.visits c.back.node (Some (record { start = c.args.start; place = n }))) c.push.new.self.items c.source-node.result) (sym len)
    (subst (λ (p : List ResidualArc). State c.args.arcs.now c.args.units.now (length c.args.parents.now)
    (parents_in c.args.parents.now) c.args.start c.args.visits.now
    (set c.back.visits c.back.node (Some (record { start = c.args.start; place = length c.back.walk.items }))) p
    c.source-node.result) (sym items)
    (subst (λ n. State c.args.arcs.now c.args.units.now (length c.args.parents.now) (parents_in c.args.parents.now) c.args.start
    c.args.visits.now (set c.back.visits c.back.node
    (Some (record { start = c.args.start; place = length c.back.walk.items })))
    (c.back.walk.items ++ c.in-Some-parent_at.step ∷ []) n) (sym from)
    (advanced c.args.arcs.now c.args.units.now (length c.args.parents.now) (parents_in c.args.parents.now) c.args.start
    c.args.visits.now c.back.visits c.back.walk.items c.back.node c.back.invariant new c.requires.arcs c.requires.labels.0
    c.requires.labels.1 c.requires.labels.2 c.in-Some-parent_at.step last)))
