use Rattle.std.proofs.Common.{◌≡◌, None, sym, subst, rules}
use Rattle.fm_records.specs.Table.{Table}
use Rattle.fm_records.specs.Ranges.{CanBe}
use Rattle.fm_delta.specs.declared.packet.Packet.{Packet}
use Rattle.fm_coord.specs.declared.entry.Call.TheVariants as call
use Rattle.fm_coord.specs.declared.entry.Reply.TheVariants as reply
use Rattle.fm_coord.specs.Causes.{room_fault}
use Rattle.fm_coord.specs.States.{State, bounds, history_entry, took, IsCoordinator}
use Rattle.fm_coord.proofs.Keeps.{keeps_merge}
use Rattle.fm_coord.proofs.Happens.{merged}
use Rattle.fm_coord.proofs.coordinator.Coordinator.merge.Goals as goal

pub take_in-requires : goal.take_in-requires
take_in-requires g c =
    let s : State = c.args.self.now.state in
    let can : CanBe c.args.packet.value = search rules in
    let room : room_fault (bounds s) ≡ None = search rules in
    let delta : c.in_ok-delta.delta ≡ c.args.packet.value = search rules in
    let shared : c.share.new.self ≡ c.args.packet.value = search rules in
    let packet : c.args.packet ≡ record { sender = c.args.packet.sender; number = c.args.packet.number; value = c.share.new.self } =
    λ i. record { sender = c.args.packet.sender; number = c.args.packet.number; value = sym shared i } in
    subst (λ (p : Packet × Table). IsCoordinator (took s p.1 (history_entry c.args.by (call.Merge p.0) reply.Nothing))) (λ i. (packet i, sym delta i))
    (keeps_merge s c.known.ensures.coordinator c.args.by c.args.packet can.table room)

pub returns-clause-event : goal.returns-clause-event
returns-clause-event g c =
    let s : State = c.args.self.now.state in
    let room : room_fault (bounds s) ≡ None = search rules in
    let made : c.take_in.new.self.state ≡ took s c.args.packet.value (history_entry c.args.by (call.Merge c.args.packet) reply.Nothing) = search rules in
    λ r sent st is. merged s r st c.args.by c.take_in.new.self.state c.args.packet sent is room made
