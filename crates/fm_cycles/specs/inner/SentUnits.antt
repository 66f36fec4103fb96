-- Units after some were sent over steps.
use Rattle.std.specs.Prelude.{ℕ, ◌+◌, ◌-◌, ◌^◌, ◌≤◌, ◌<◌, Bool, true, false, List, [], ◌∷◌, slice_index, slice_set}
use Rattle.fm_cycles.specs.declared.indexed_arcs.ResidualArc.{ResidualArc}

-- the units of an arc after units were sent forwards, or backwards
abbrev pub units_after : Bool → ℕ → ℕ → ℕ
units_after true by units = units + by
units_after false by units = units - by

-- all units after these were sent over a step
abbrev pub sent_over : List ℕ → ResidualArc → ℕ → List ℕ
sent_over units s by = slice_set units s.arc (units_after s.forward by (slice_index units s.arc))

-- all units after these were sent over each step
abbrev pub sent_all : List ℕ → List ResidualArc → ℕ → List ℕ
sent_all units [] by = units
sent_all units (s ∷ ss) by = sent_all (sent_over units s by) ss by

-- forwards the sum fits, and backwards there are as many units
abbrev pub CanSend : Bool → ℕ → ℕ → Type 0
CanSend true by units = units + by < 2 ^ 64
CanSend false by units = by ≤ units
