-- Labels of a label-correcting search (Bellman, Ford and Moore): a cost at each node and its parent, the step by which the cost fell last. A walk back over parents closes only around a cycle of negative cost (Cherkassky and Goldberg, 1999).
use Rattle.std.specs.Prelude.{◌≡◌, ◌⊎◌, ℕ, ℤ, pos, neg_ℤ, ◌+ℤ◌, ◌-ℤ◌, ◌≤ℤ◌, ◌+◌, ◌*◌, ◌≤◌, ◌<◌, ◌^◌, Bool, IsTrue, List, [], ◌∷◌, Option, Some, None, length, slice_index_or}
use lib.Signed.{◌<ℤ◌}
use Rattle.fm_cycles.specs.Walks.{Costs, Steps, walk_cost}
use Rattle.fm_cycles.specs.Found.{costs_in}
use Rattle.fm_cycles.specs.declared.indexed_arcs.ResidualArc.{ResidualArc}
use Rattle.fm_cycles.specs.declared.labels.Labels.{Labels}

-- a list as the parent of each node; none behind its end
abbrev pub parents_in : List (Option ResidualArc) → ℕ → Option ResidualArc
parents_in parents v = slice_index_or parents v None

abbrev pub costs_of : Labels → Costs
costs_of labels = costs_in labels.costs.items

abbrev pub parents_of : Labels → ℕ → Option ResidualArc
parents_of labels = parents_in labels.parents.items

-- none is below the negative of the bound
abbrev pub IsBoundedBelow : ℕ → Costs → Type 0
IsBoundedBelow bound costs = (v : ℕ) → neg_ℤ (pos bound) ≤ℤ costs v

-- the steps lead back from v to u, each the parent of the node to which it leads
abbrev pub IsWalkBack : Steps ResidualArc → (ℕ → Option ResidualArc) → ℕ → List ResidualArc → ℕ → Type 0
IsWalkBack g parents v [] u = v ≡ u
IsWalkBack g parents v (s ∷ steps) u = (parents v ≡ Some s) × IsWalkBack g parents (g.source s) steps u

-- costs that fell from the first ones: a node with a parent costs no less than its parent's source and the step together, one without has its first cost, and a walk back to where it began is cheaper than nothing
pub record AreLabels (g : Steps ResidualArc) (first costs : Costs) (parents : ℕ → Option ResidualArc) : Type 0 where
  pub opened : (v : ℕ) (s : ResidualArc) → parents v ≡ Some s → g.is_open s
  pub ends : (v : ℕ) (s : ResidualArc) → parents v ≡ Some s → g.target s ≡ v
  pub sums : (v : ℕ) (s : ResidualArc) → parents v ≡ Some s → (costs (g.source s) +ℤ g.cost s) ≤ℤ costs v
  pub roots : (v : ℕ) → parents v ≡ None → costs v ≡ first v
  pub negative : (v : ℕ) (s : ResidualArc) (steps : List ResidualArc) → IsWalkBack g parents v (s ∷ steps) v → walk_cost g (s ∷ steps) <ℤ pos 0

-- parents of some labels
abbrev pub AreParents : Steps ResidualArc → (ℕ → Option ResidualArc) → Type 0
AreParents g parents = (first : Costs) × (costs : Costs) × AreLabels g first costs parents

-- labels that fell from some first costs
abbrev pub HasFirst : Steps ResidualArc → Labels → Type 0
HasFirst g labels = (first : Costs) × AreLabels g first (costs_of labels) (parents_of labels)

-- what lowering a node to this cost, by this step, does
pub record IsLowered (can : Type 0) (node : ℕ) (cost : ℤ) (step : ResidualArc) (old_costs new_costs : Costs) (old_parents new_parents : ℕ → Option ResidualArc) : Type 0 where
  pub reached : can → new_costs node ≤ℤ cost
  pub each : (v : ℕ) → ((new_costs v ≡ old_costs v) × (new_parents v ≡ old_parents v)) ⊎ (can × (v ≡ node) × (new_costs v ≡ cost) × (cost <ℤ old_costs v) × (new_parents v ≡ Some step))

abbrev pub IsLoweredBy : Bool → ℕ → ℤ → ResidualArc → Labels → Labels → Type 0
IsLoweredBy can node cost step old new = IsLowered (IsTrue can) node cost step (costs_of old) (costs_of new) (parents_of old) (parents_of new)

-- some node that fell, if one did
abbrev pub HasFallen : Option ℕ → ℕ → Costs → Costs → Type 0
HasFallen None nodes before now = (v : ℕ) → now v ≡ before v
HasFallen (Some v) nodes before now = (v < nodes) × (now v <ℤ before v)

-- whatever the costs fell from, the labels still name some node that fell
abbrev pub KeepsFallen : Labels → Labels → Type 0
KeepsFallen old new = (before : Costs) → ((v : ℕ) → costs_of old v ≤ℤ before v) → HasFallen old.fell (length old.costs.items) before (costs_of old) → HasFallen new.fell (length old.costs.items) before (costs_of new)

-- labels stay labels
abbrev pub StayLabels : Steps ResidualArc → Labels → Labels → Type 0
StayLabels g old new = (first : Costs) → AreLabels g first (costs_of old) (parents_of old) → AreLabels g first (costs_of new) (parents_of new)

-- what relaxing the steps over an arc does
pub record IsRelaxed (g : Steps ResidualArc) (place : ℕ) (old new : Labels) : Type 0 where
  pub labels : StayLabels g old new
  pub falls : (v : ℕ) → costs_of new v ≤ℤ costs_of old v
  pub relaxed : (s : ResidualArc) → s.arc ≡ place → g.is_open s → costs_of new (g.target s) ≤ℤ (costs_of old (g.source s) +ℤ g.cost s)
  pub low : (bound : ℕ) → IsBoundedBelow bound (costs_of old) → (v : ℕ) → (neg_ℤ (pos bound) -ℤ pos (2 ^ 32)) ≤ℤ costs_of new v
  pub fell : KeepsFallen old new

-- what relaxing so many times does, in whatever order
pub record IsCorrected (g : Steps ResidualArc) (turns : ℕ) (old new : Labels) : Type 0 where
  pub costs : length new.costs.items ≡ length old.costs.items
  pub parents : length new.parents.items ≡ length old.parents.items
  pub labels : StayLabels g old new
  pub falls : (v : ℕ) → costs_of new v ≤ℤ costs_of old v
  pub low : (bound : ℕ) → IsBoundedBelow bound (costs_of old) → IsBoundedBelow (bound + turns * 2 ^ 32) (costs_of new)

abbrev pub IsCorrectedWithin : Steps ResidualArc → ℕ → Labels → Labels → Type 0
IsCorrectedWithin g most old new = (turns : ℕ) × (turns ≤ most) × IsCorrected g turns old new

-- what a sweep over all arcs does
pub record IsLabelSweep (g : Steps ResidualArc) (old new : Labels) : Type 0 where
  pub labels : StayLabels g old new
  pub falls : (v : ℕ) → costs_of new v ≤ℤ costs_of old v
  pub relaxed : (s : ResidualArc) → g.is_open s → costs_of new (g.target s) ≤ℤ (costs_of old (g.source s) +ℤ g.cost s)
