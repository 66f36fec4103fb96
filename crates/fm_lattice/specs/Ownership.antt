-- The two kinds of blocks.
use Rattle.std.specs.Prelude.{false}
use Rattle.std.specs.Arc.{arc_value}
use Rattle.fm_lattice.specs.Stocks.{Stock, alone}
use Rattle.fm_lattice.specs.declared.block.Held.{Held}
use Rattle.fm_lattice.specs.declared.block.Held.TheVariants.{Own, Shared}

-- a block that several maps have is there to be read only
abbrev pub stock_of : {K V : Type 0} → Held K V → Stock (K × V)
stock_of (Own pairs) = alone pairs
stock_of (Shared pairs) = record { items = (arc_value pairs).items; owned = false; room = 0 }
