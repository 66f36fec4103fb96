-- The networks that the policy builds.
use Rattle.std.specs.Prelude.{◌≡◌}
use Rattle.fm_records.specs.Table.{Table}
use Rattle.fm_records.specs.Ranges.{CanBe}
use Rattle.fm_net.specs.Net.{Net}
use Rattle.fm_net.specs.Network.{net_of}

-- the network of a possible table
abbrev pub IsBuilt : Net → Type 0
IsBuilt net = (k : Table) × CanBe k × (net ≡ net_of k)
