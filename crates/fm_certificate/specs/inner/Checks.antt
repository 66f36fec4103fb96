-- What the walks of the checker test: nodes beside potentials, and arcs beside units.
use Rattle.std.specs.Prelude.{◌≡◌, ℕ, ℤ, ◌<◌, ◌≤◌, ◌^◌, pos, Bool, true, List, [], ◌∷◌, nat_eq, ◌≤ℤ◌}
use Rattle.std.specs.Int.RustNames.{unsigned_abs}
use Rattle.fm_net.specs.declared.node.Node.{Node}
use Rattle.fm_net.specs.declared.node.Node.TheVariants.{Sink, Unscheduled, Request, Machine, Task}
use Rattle.fm_certificate.specs.Certificates.{potential_in, reduced_cost}
use Rattle.fm_certificate.specs.Totals.{Entry, source, target, units_at}

abbrev pub PricedArc : Type 0
PricedArc = (Node × Node) × (ℕ × ℕ)

-- the potentials are of these nodes, in turn, and none is beyond 2^100 in size
abbrev pub AreOf : List (Node × ℤ) → List Node → Type 0
AreOf [] [] = Unit {0}
AreOf (e ∷ es) (n ∷ ns) = (e.0 ≡ n) × (unsigned_abs e.1 ≤ 2 ^ 100) × AreOf es ns
AreOf _ _ = ⊥

-- units within the capacity, where a further unit saves nothing, and neither does one less
pub record IsComplementary (units capacity : ℕ) (reduced : ℤ) : Type 0 where
  pub within : units ≤ capacity
  pub no_gain : units < capacity → pos 0 ≤ℤ reduced
  pub no_waste : 0 < units → reduced ≤ℤ pos 0

abbrev pub reduced_at : List (Node × ℤ) → PricedArc → ℤ
reduced_at potentials a = reduced_cost a.1.1 (potential_in potentials a.0.0) (potential_in potentials a.0.1)

-- the units are of these arcs, in turn, and within their capacities
abbrev pub AreUnitsWithin : List Entry → List PricedArc → Type 0
AreUnitsWithin [] [] = Unit {0}
AreUnitsWithin (e ∷ es) (a ∷ arcs) = (e.0 ≡ a.0) × (e.1 ≤ a.1.0) × AreUnitsWithin es arcs
AreUnitsWithin _ _ = ⊥

-- the units are of these arcs, in turn, and fit them
abbrev pub FitAll : List (Node × ℤ) → List Entry → List PricedArc → Type 0
FitAll potentials [] [] = Unit {0}
FitAll potentials (e ∷ es) (a ∷ arcs) = (e.0 ≡ a.0) × IsComplementary e.1 a.1.0 (reduced_at potentials a) × FitAll potentials es arcs
FitAll potentials _ _ = ⊥

-- whether a node sends what it has to: a task one unit, and a node between tasks and sink what enters it
abbrev pub sends : List Entry → Node → Bool
sends flow Sink = true
sends flow (Unscheduled j) = nat_eq (units_at target flow (Unscheduled j)) (units_at source flow (Unscheduled j))
sends flow (Request r) = nat_eq (units_at target flow (Request r)) (units_at source flow (Request r))
sends flow (Machine m) = nat_eq (units_at target flow (Machine m)) (units_at source flow (Machine m))
sends flow (Task t) = nat_eq (units_at source flow (Task t)) 1
