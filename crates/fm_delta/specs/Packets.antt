-- Equality of packets: part by part.
use Rattle.std.specs.Prelude.{Bool, ◌==◌, ◌&&◌}
use Rattle.fm_know.specs.KnowledgeEquality.{same_table}
use Rattle.fm_delta.specs.declared.packet.Packet.{Packet}

-- one sender, one number, and one knowledge
abbrev pub same_packet : Packet → Packet → Bool
same_packet p q = (p.sender == q.sender && p.number == q.number) && same_table p.value q.value
