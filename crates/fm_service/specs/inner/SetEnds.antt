-- Marks that are set to the ends of replicas.
use Rattle.std.specs.Prelude.{ℕ, List, [], ◌∷◌, length, slice_set}
use Rattle.fm_coord.specs.Events.{Replica}

-- the mark of each replica's number is how many deltas it has; of two with one number the first counts
abbrev pub ends_set : List Replica → List ℕ → List ℕ
ends_set [] marks = marks
ends_set (r ∷ rs) marks = slice_set (ends_set rs marks) r.number (length r.buffer)
