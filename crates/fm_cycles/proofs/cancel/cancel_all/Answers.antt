use Rattle.std.proofs.Common.{◌≡◌, ◌+◌, List, ℕ, true, false, sym, subst}
use Rattle.std.specs.declared.vec.Vec.{Vec}
use Rattle.std.specs.declared.alloc.Global.{Global}
use Rattle.fm_cycles.specs.Walks.{IsNegativeCycle}
use Rattle.fm_cycles.specs.inner.OpenWalks.{AreOpen}
use Rattle.fm_cycles.specs.Residual.{residual}
use Rattle.fm_cycles.specs.declared.indexed_arcs.ResidualArc.{ResidualArc}
use Rattle.fm_cycles.proofs.Cancelled.{Cancelling, still_negative, one_cancelled, one_passed}
use Rattle.fm_cycles.proofs.cancel.cancel_all.Goals as goal
use Rattle.fm_cycles.proofs.cancel.cancel_all.Goals.{then-are_open, else-are_open}

pub cancel-requires-clause-cycle : goal.cancel-requires-clause-cycle
cancel-requires-clause-cycle c =
    let cycle = c.cycle-item.result.items in
    let was : IsNegativeCycle (residual c.args.arcs.now c.args.units.now) cycle = subst (λ (v : Vec ResidualArc Global). IsNegativeCycle (residual c.args.arcs.now c.args.units.now) v.items) (sym c.cycle-item.is) (c.requires.cycles c.loop-cycle.cycle-index c.cycle-item.result c.loop-cycle-test.true) in
    let can : AreOpen (residual c.args.arcs.now c.loop-cycle.units) cycle = subst (λ (p : List ResidualArc). AreOpen (residual c.args.arcs.now c.loop-cycle.units) p) c.deref.ensures.value (c.are_open.ensures.0 c.if-are_open.true) in
    subst (λ (p : List ResidualArc). IsNegativeCycle (residual c.args.arcs.now c.loop-cycle.units) p) (sym c.deref-then-are_open.ensures.value)
    (still_negative c.args.arcs.now c.args.units.now c.loop-cycle.units cycle was can)

pub loop-cycle-preserved : goal.loop-cycle-preserved
loop-cycle-preserved c =
    let arcs = c.args.arcs.now in
    let old = c.args.units.now in
    let cycle = c.cycle-item.result.items in
    let was : IsNegativeCycle (residual arcs old) cycle = subst (λ (v : Vec ResidualArc Global). IsNegativeCycle (residual arcs old) v.items) (sym c.cycle-item.is) (c.requires.cycles c.loop-cycle.cycle-index c.cycle-item.result c.loop-cycle-test.true) in
    elim c.if-are_open.branch [
      | then-are_open w ↦
          subst (λ (us : List ℕ). Cancelling arcs old us (c.loop-cycle.cycle-index + 1)) (sym w.units-is)
          (one_cancelled arcs old c.loop-cycle.units c.loop-cycle.cycle-index w.cancel.new.units w.cancel.result c.loop-cycle.invariant w.cancel.ensures.some w.cancel.ensures.cancelled)
      | else-are_open w ↦
          subst (λ (us : List ℕ). Cancelling arcs old us (c.loop-cycle.cycle-index + 1)) (sym w.units-is)
          (one_passed arcs old c.loop-cycle.units c.loop-cycle.cycle-index c.loop-cycle.invariant cycle was
          (λ can. let yes : c.are_open.result ≡ true = c.are_open.ensures.1 (subst (λ (p : List ResidualArc). AreOpen (residual arcs c.loop-cycle.units) p) (sym c.deref.ensures.value) can) in let no : c.are_open.result ≡ false = w.if-are_open.false in let wrong : ⊥ = cc in wrong))
    ]
