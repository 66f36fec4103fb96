use Rattle.std.proofs.Common.{◌≡◌, List, Bool, true, false, cond, refl, sym, ap}
use Rattle.fm_records.specs.declared.ops.Op.{Op}
use Rattle.fm_records.specs.Know.{table_of}
use Rattle.fm_records.proofs.SpelledLaws.{know_ops}
use Rattle.fm_delta.specs.declared.packet.Packet.{Packet}
use Rattle.fm_delta.specs.Packets.{same_packet}
use Rattle.fm_delta.specs.laws.PacketLaws.{packet_Decides}
use Rattle.fm_coord.specs.Events.{Sent}
use Rattle.fm_coord.specs.Replays.{seen_packet}
use Rattle.fm_service.proofs.laws.law_behind.Goals as goal

by_test : (behind : Packet → List Op) (p : Sent) (q : Packet) (b : Bool) → same_packet q (seen_packet p) ≡ b → table_of (behind q) ≡ q.value → table_of (cond b p.set (behind q)) ≡ q.value
by_test behind p q true is h = ap (λ (x : Packet). x.value) (sym ((packet_Decides q (seen_packet p)).0 is))
by_test behind p q false is h = h

pub returns-clause-spelled : goal.returns-clause-spelled
returns-clause-spelled c = λ p can. sym (know_ops p.value can.table)

pub returns-clause-sent : goal.returns-clause-sent
returns-clause-sent c = λ behind p stand q can. by_test behind p q (same_packet q (seen_packet p)) refl (stand q can)
