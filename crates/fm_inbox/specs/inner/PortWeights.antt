-- What a port put and took, by weight.
use Rattle.std.specs.Prelude.{ℕ}
use Rattle.fm_delta.specs.declared.packet.Packet.{Packet}
use Rattle.fm_inbox.specs.Conservation.{weigh}
use Rattle.fm_inbox.specs.Ports.{PortModel}

-- what was put, and taken, through a port, by weight
abbrev pub put_by : (Packet → ℕ) → PortModel → ℕ
put_by h p = weigh h p.put

abbrev pub taken_weight : (Packet → ℕ) → PortModel → ℕ
taken_weight h p = weigh h p.taken
