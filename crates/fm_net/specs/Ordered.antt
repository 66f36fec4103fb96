-- Pairs that lie packed, or in cells.
use Rattle.std.specs.Prelude.{List}
use Rattle.fm_net.specs.declared.hybrid_map.Form.{Form}
use Rattle.fm_net.specs.declared.hybrid_map.Form.TheVariants.{Packed, Cells}
use Rattle.fm_net.specs.declared.hybrid_map.Rest.{Rest}
use Rattle.fm_net.specs.declared.hybrid_map.Rest.TheVariants as rest

-- the pairs
abbrev pub pairs_of_form : {K V : Type 0} → Form K V → List (K × V)
pairs_of_form (Packed pairs) = pairs.items
pairs_of_form (Cells pairs) = pairs

-- the pairs that are left of a walk
abbrev pub pairs_left : {K V : Type 0} → Rest K V → List (K × V)
pairs_left (rest.Packed pairs) = pairs.now
pairs_left (rest.Cells pairs) = pairs
