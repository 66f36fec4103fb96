-- What is known of a coordinator with one packet more, which may be another's.
use Rattle.std.specs.Prelude.{◌==◌, Some, unwrap_or, if◌then◌else◌, []}
use Rattle.fm_records.specs.Know.{table_of}
use Rattle.fm_records.specs.Joined.{table_join}
use Rattle.fm_delta.specs.declared.packet.Packet.{Packet}
use Rattle.fm_store.specs.declared.known.Known.{Known}

abbrev pub with_packet : Packet → Known → Known
with_packet p one = if p.sender == one.number then record one { value = Some (table_join (unwrap_or one.value (table_of [])) p.value) } else one
