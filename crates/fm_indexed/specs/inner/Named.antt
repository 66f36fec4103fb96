-- Units and potentials by number as those of arcs and nodes.
use Rattle.std.specs.Prelude.{ℕ, ℤ, pos, List, [], ◌∷◌, cond, nat_eq, slice_index_or}
use Rattle.fm_net.specs.declared.node.Node.{Node}
use Rattle.fm_net.specs.declared.node.Node.TheVariants.{Sink}
use Rattle.fm_cycles.specs.declared.indexed_arcs.IndexedArc.{IndexedArc}
use Rattle.fm_indexed.specs.Numbered.{NetArc}

-- the arcs with these units, in turn; 0 behind their end
abbrev pub named_units : List NetArc → List ℕ → List ((Node × Node) × ℕ)
named_units [] units = []
named_units (arc ∷ arcs) [] = (arc.0, 0) ∷ named_units arcs []
named_units (arc ∷ arcs) (u ∷ units) = (arc.0, u) ∷ named_units arcs units

-- the nodes with these potentials, in turn; 0 behind their end
abbrev pub named_potentials : List Node → List ℤ → List (Node × ℤ)
named_potentials [] potentials = []
named_potentials (n ∷ nodes) [] = (n, pos 0) ∷ named_potentials nodes []
named_potentials (n ∷ nodes) (p ∷ potentials) = (n, p) ∷ named_potentials nodes potentials

-- the node at a place
abbrev pub name_at : List Node → ℕ → Node
name_at nodes v = slice_index_or nodes v Sink

-- the nodes at the ends of an arc
abbrev pub named_ends : List Node → IndexedArc → Node × Node
named_ends nodes a = (name_at nodes a.from, name_at nodes a.to)

-- arcs by number with these units, in turn, by the nodes at their ends; 0 beyond the end of the units
abbrev pub units_by : List Node → List IndexedArc → List ℕ → List ((Node × Node) × ℕ)
units_by nodes [] units = []
units_by nodes (a ∷ arcs) [] = (named_ends nodes a, 0) ∷ units_by nodes arcs []
units_by nodes (a ∷ arcs) (u ∷ units) = (named_ends nodes a, u) ∷ units_by nodes arcs units

-- the nodes with these sums, in turn, except those whose sum is 0
abbrev pub entered_by : List Node → List ℕ → List (Node × ℕ)
entered_by [] sums = []
entered_by (n ∷ nodes) [] = []
entered_by (n ∷ nodes) (s ∷ sums) = cond (nat_eq s 0) (entered_by nodes sums) ((n, s) ∷ entered_by nodes sums)
