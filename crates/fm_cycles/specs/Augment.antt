-- Units sent over steps, and how many a step takes.
use Rattle.std.specs.Prelude.{ℕ, ◌-◌, ◌^◌, min, Bool, true, false, List, [], ◌∷◌, Option, Some, None, slice_get, slice_index}
use Rattle.fm_cycles.specs.declared.indexed_arcs.IndexedArc.{IndexedArc}
use Rattle.fm_cycles.specs.declared.indexed_arcs.ResidualArc.{ResidualArc}

-- how many units more a step takes
abbrev pub room_by : Option IndexedArc → Bool → ℕ → ℕ
room_by None forward units = 0
room_by (Some a) true units = a.capacity - units
room_by (Some a) false units = units

abbrev pub residual_of : List IndexedArc → List ℕ → ResidualArc → ℕ
residual_of arcs units s = room_by (slice_get arcs s.arc) s.forward (slice_index units s.arc)

-- the room of the step with the least
abbrev pub least_room : List IndexedArc → List ℕ → List ResidualArc → ℕ
least_room arcs units [] = 2 ^ 64 - 1
least_room arcs units (s ∷ ss) = min (residual_of arcs units s) (least_room arcs units ss)
