-- A map of either form in the order of its keys.
use Rattle.std.specs.declared.cmp.Ordering.{Ordering}
use Rattle.fm_lattice.specs.Maps.{IsRising}
use Rattle.fm_net.specs.declared.hybrid_map.Form.{Form}
use Rattle.fm_net.specs.declared.hybrid_map.Form.TheVariants.{Packed, Cells}

-- packed pairs lie by rising key; those in cells have their index
abbrev pub IsInOrder : {K V : Type 0} → (K → K → Ordering) → Form K V → Type 0
IsInOrder cmp (Packed pairs) = IsRising cmp pairs.items
IsInOrder cmp (Cells pairs) = Unit {0}
