use Rattle.std.proofs.Common.{◌≡◌, ◌∙◌, ap, ◌+◌, ◌++◌, List, [], ◌∷◌, Option, Some, None, ℕ, sym, subst, length, drop, rules}
use lib.ListN.{take}
use Rattle.fm_cycles.specs.Residual.{residual}
use Rattle.fm_cycles.specs.inner.Labels.{parents_in}
use Rattle.fm_cycles.specs.inner.ParentGraph.{IsWalkedBack}
use Rattle.fm_cycles.specs.declared.parent_graph.Visit.{Visit}
use Rattle.std.specs.declared.vec.Vec.{Vec}
use Rattle.std.specs.declared.alloc.Global.{Global}
use Rattle.fm_cycles.specs.declared.indexed_arcs.ResidualArc.{ResidualArc}
use Rattle.fm_cycles.proofs.Traced.{SoFar, no_cycle, one_cycle, all, written}
use Rattle.fm_cycles.proofs.parent_graph.cycles_in.Goals as goal
use Rattle.fm_cycles.proofs.parent_graph.cycles_in.Goals.{in-Some+in_ok-cycle+in_ok-push, in_default}

pub loop-start-preserved : goal.loop-start-preserved
loop-start-preserved c =
    let g = residual c.args.arcs.now c.args.units.now in
    let parents = parents_in c.args.parents.now in
    let nodes = length c.args.parents.now in
    let start = c.loop-start.start in
    let old = c.loop-start.visits.items in
    let new = c.walk_back.new.visits in
    let back : IsWalkedBack g parents start old new c.walk_back.new.walk.items c.in_ok-first.field-0 = search rules in
    let same : take c.loop-start.visits.len (new ++ drop (length new) old) ≡ new = written c.loop-start.visits.len old new back.sized (search rules) in
    subst (λ (vs : List (Option Visit)). SoFar g parents nodes (start + 1) vs c.match-branch-3.cycles.items) (sym same)
    (elim c.match-branch-3.branch [
      | in-Some+in_ok-cycle+in_ok-push w ↦
          let is : c.in_ok-first.field-0 ≡ Some w.in-Some.first = search (rules, w.in-Some.is) in
          let closed : IsWalkedBack g parents start old new c.walk_back.new.walk.items (Some w.in-Some.first) = subst (λ (o : Option ℕ). IsWalkedBack g parents start old new c.walk_back.new.walk.items o) is back in
          let cycle : w.in_ok-cycle.cycle.items ≡ drop w.in-Some.first c.walk_back.new.walk.items = search (rules, w.in_ok-cycle.ensures, w.deref.ensures) in
          let items : w.push.new.self.items ≡ c.loop-start.cycles.items ++ w.in_ok-cycle.cycle ∷ [] = w.in_ok-push.ensures.items in
          let now : c.match-branch-3.cycles.items ≡ w.push.new.self.items = ap (λ (v : Vec (Vec ResidualArc Global) Global). v.items) w.cycles-is in
          one_cycle g parents nodes start old new c.loop-start.cycles.items c.walk_back.new.walk.items c.loop-start.invariant w.in-Some.first closed w.in_ok-cycle.cycle cycle c.match-branch-3.cycles.items (now ∙ items)
      | in_default w ↦
          let is : c.in_ok-first.field-0 ≡ None = search (rules, w.in_default.is) in
          let none : IsWalkedBack g parents start old new c.walk_back.new.walk.items None = subst (λ (o : Option ℕ). IsWalkedBack g parents start old new c.walk_back.new.walk.items o) is back in
          let now : c.match-branch-3.cycles.items ≡ c.loop-start.cycles.items = ap (λ (v : Vec (Vec ResidualArc Global) Global). v.items) w.cycles-is in
          subst (λ (cs : List (Vec ResidualArc Global)). SoFar g parents nodes (start + 1) new cs) (sym now) (no_cycle g parents nodes start old new c.loop-start.cycles.items c.walk_back.new.walk.items c.loop-start.invariant none)
    ])

pub returns : goal.returns
returns c = all (residual c.args.arcs.now c.args.units.now) (parents_in c.args.parents.now) (length c.args.parents.now) c.loop-start.start c.loop-start.visits.items c.loop-start.cycles.items c.loop-start-test.false c.loop-start.invariant
