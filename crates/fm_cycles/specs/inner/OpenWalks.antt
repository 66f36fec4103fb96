-- Walks whose steps have room.
use Rattle.std.specs.Prelude.{List, [], ◌∷◌}
use Rattle.fm_cycles.specs.Walks.{Steps}

-- each of the steps can be taken
abbrev pub AreOpen : {S : Type 0} → Steps S → List S → Type 0
AreOpen g [] = Unit {0}
AreOpen g (s ∷ steps) = g.is_open s × AreOpen g steps
