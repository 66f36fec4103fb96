-- A pair joined onto what a map has at its key.
use Rattle.std.specs.Prelude.{List, Option, Some, None}
use Rattle.std.specs.declared.cmp.Ordering.{Ordering}
use Rattle.fm_lattice.specs.Maps.{lookup}

-- the value joined to what is there, if anything is
abbrev pub joined_onto : {V : Type 0} → (V → V → V) → Option V → V → V
joined_onto join None w = w
joined_onto join (Some v) w = join v w

-- the pair's key, and its value joined to what the map has there
abbrev pub joined_pair : {K V : Type 0} → (K → K → Ordering) → (V → V → V) → List (K × V) → K × V → K × V
joined_pair cmp join es e = (e.0, joined_onto join (lookup cmp e.0 es) e.1)
