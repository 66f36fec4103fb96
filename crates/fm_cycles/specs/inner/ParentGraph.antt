-- Walks back over parents: the nodes that were visited, and the cycles into which they run.
use Rattle.std.specs.Prelude.{◌≡◌, ℕ, ◌+◌, ◌<◌, List, [], ◌∷◌, Option, Some, None, length, drop, slice_index_or}
use Rattle.std.specs.declared.vec.Vec.{Vec}
use Rattle.std.specs.declared.alloc.Global.{Global}
use Rattle.fm_cycles.specs.Walks.{Steps, IsNegativeCycle}
use Rattle.fm_cycles.specs.Found.{AreNegative}
use Rattle.fm_cycles.specs.inner.Labels.{IsWalkBack}
use Rattle.fm_cycles.specs.declared.indexed_arcs.ResidualArc.{ResidualArc}
use Rattle.fm_cycles.specs.declared.parent_graph.Visit.{Visit}

-- how many places of a list have a value
abbrev pub value_count : {A : Type 0} → List (Option A) → ℕ
value_count [] = 0
value_count (None ∷ xs) = value_count xs
value_count (Some x ∷ xs) = value_count xs + 1

-- the visit of a node, none beyond the end
abbrev pub visit_of : List (Option Visit) → ℕ → Option Visit
visit_of visits v = slice_index_or visits v None

-- a walk came to the node
abbrev pub IsVisited : List (Option Visit) → ℕ → Type 0
IsVisited visits v = visit_of visits v ≡ None → ⊥

-- each walk so far started before the node
abbrev pub AreBefore : ℕ → List (Option Visit) → Type 0
AreBefore start visits = (v : ℕ) (x : Visit) → visit_of visits v ≡ Some x → x.start < start

-- the walk back comes to a node without a parent, in fewer steps than the bound
pub record HasRoot (g : Steps ResidualArc) (bound : ℕ) (parents : ℕ → Option ResidualArc) (v : ℕ) : Type 0 where
  pub root : ℕ
  pub steps : List ResidualArc
  pub back : IsWalkBack g parents v steps root
  pub none : parents root ≡ None
  pub few : length steps < bound

-- so does each visited node's walk, in fewer steps than there are visited nodes
abbrev pub AreRooted : Steps ResidualArc → (ℕ → Option ResidualArc) → List (Option Visit) → Type 0
AreRooted g parents visits = (v : ℕ) → IsVisited visits v → HasRoot g (value_count visits) parents v

-- the steps of the walk from the place on are a cycle, if there is a place
abbrev pub IsClosedAt : Steps ResidualArc → List ResidualArc → Option ℕ → Type 0
IsClosedAt g walk None = Unit {0}
IsClosedAt g walk (Some first) = IsNegativeCycle g (drop first walk)

-- what a walk back from the start does
pub record IsWalkedBack (g : Steps ResidualArc) (parents : ℕ → Option ResidualArc) (start : ℕ) (old new : List (Option Visit)) (walk : List ResidualArc) (found : Option ℕ) : Type 0 where
  pub sized : length new ≡ length old
  pub before : AreBefore (start + 1) new
  pub kept : (v : ℕ) → IsVisited old v → IsVisited new v
  pub started : IsVisited new start
  pub closed : IsClosedAt g walk found
  pub rooted : found ≡ None → AreRooted g parents old → AreRooted g parents new

-- cycles of negative cost; if there is none, each walk back comes to a node without a parent
pub record AreCyclesOf (g : Steps ResidualArc) (parents : ℕ → Option ResidualArc) (nodes : ℕ) (cycles : List (Vec ResidualArc Global)) : Type 0 where
  pub negative : AreNegative g cycles
  pub rooted : cycles ≡ [] → (v : ℕ) → v < nodes → HasRoot g nodes parents v
