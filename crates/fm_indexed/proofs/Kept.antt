-- Units with the balances of a flow are one.
use Rattle.std.proofs.Common.{◌≡◌, refl, ℕ, ◌+◌, true, List, length, arith}
use Rattle.fm_cycles.specs.declared.indexed_arcs.IndexedArc.{IndexedArc}
use Rattle.fm_cycles.specs.Units.{inflow_at, outflow_at, AreWithin, HaveSameBalance}
use Rattle.fm_indexed.specs.declared.node_ranges.NodeRanges.{NodeRanges}
use Rattle.fm_indexed.specs.declared.node_ranges.NodeKind.{NodeKind}
use Rattle.fm_indexed.specs.declared.node_ranges.NodeKind.TheVariants.{Sink, Unscheduled, Request, Machine, Task}
use Rattle.fm_indexed.specs.NodeRanges.{kind_at}
use Rattle.fm_indexed.specs.inner.KindRanges.{is_task}
use Rattle.fm_indexed.specs.inner.FormedNetwork.{IsFormed}
use Rattle.fm_indexed.specs.Feasible.{IsConserved, IsFlowOf}
use Rattle.fm_indexed.proofs.Summed.{none_enter}

sends_still : (kind : NodeKind) (e l e2 l2 : ℕ) → (is_task kind ≡ true → (e ≡ 0) × (e2 ≡ 0)) → e2 + l ≡ e + l2 → IsConserved kind e l → IsConserved kind e2 l2
sends_still Sink e l e2 l2 none same sent = tt
sends_still (Unscheduled i) e l e2 l2 none same sent = omega arith
sends_still (Request i) e l e2 l2 none same sent = omega arith
sends_still (Machine i) e l e2 l2 none same sent = omega arith
sends_still (Task i) e l e2 l2 none same sent = let no = none refl in let a = no.0 in let b = no.1 in omega arith

pub still_flow : (places : NodeRanges) (arcs : List IndexedArc) (old new : List ℕ) → IsFormed places arcs → IsFlowOf places arcs old → length new ≡ length arcs → AreWithin arcs new → HaveSameBalance arcs old new → IsFlowOf places arcs new
still_flow places arcs old new formed flow sized within same = record {
  sized = sized;
  within = within;
  sends = λ v less. sends_still (kind_at places v) (inflow_at arcs old v) (outflow_at arcs old v) (inflow_at arcs new v) (outflow_at arcs new v)
      (λ task. (none_enter (λ n. is_task (kind_at places n)) arcs old v formed.targets task, none_enter (λ n. is_task (kind_at places n)) arcs new v formed.targets task))
      (same v) (flow.sends v less);
}
