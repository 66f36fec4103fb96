use Rattle.std.proofs.Common.{ap, refl, subst, ◌∙◌}
use Rattle.fm_coord.specs.declared.entry.Range.TheVariants.{Full}
use Rattle.fm_coord.specs.declared.entry.Call.TheVariants as call
use Rattle.fm_coord.specs.declared.entry.Reply.TheVariants as reply
use Rattle.fm_fleet.specs.Seats.{SeatModel, after_call}
use Rattle.fm_gossip.specs.Served.{AreMerged}
use Rattle.fm_gossip.proofs.Columns.{on_ok}
use Rattle.fm_gossip.proofs.Passing.{ports_after}
use Rattle.fm_gossip.proofs.intake.exchange.Goals as goal

pub returns-clause-ports : goal.returns-clause-ports
returns-clause-ports g c =
    let p = c.in_ok-packet.packet in
    let cut = c.in_ok-packet.ensures.ok ∙ ap (λ (z : SeatModel). after_call z (call.Cut Full) (reply.Packet p)) c.in_ok-tell_all.ensures.told in
    on_ok c.pass_on.result
    (λ m. ports_after c.args.place c.args.seat.now c.cut.new.seat c.pass_on.new.seat c.args.tells.now c.args.senders.items p c.get.result.now m.0 _ _ _ cut c.get.ensures refl (λ bs new. m.1 bs new))
    c.pass_on.ensures.merged

pub returns-clause-intake : goal.returns-clause-intake
returns-clause-intake g c =
    let p = c.in_ok-packet.packet in
    let cut = c.in_ok-packet.ensures.ok ∙ ap (λ (z : SeatModel). after_call z (call.Cut Full) (reply.Packet p)) c.in_ok-tell_all.ensures.told in
    on_ok c.pass_on.result (λ m. record { packet = p; merges = subst (λ z. AreMerged c.args.senders.items z c.pass_on.new.seat) cut m.0 }) c.pass_on.ensures.merged
