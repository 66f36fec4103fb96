use Rattle.std.proofs.Common.{◌≡◌, ◌∙◌}
use Rattle.std.proofs.lemmas.Result.{IfOk-weaker}
use Rattle.fm_coord.specs.Replays.{seen_packet}
use Rattle.fm_coord.specs.Events.{packet_of}
use Rattle.fm_coord.specs.States.{cut_packet}
use Rattle.fm_coord.proofs.StepLaws.{no_fault, second_is_none, packet_is}
use Rattle.fm_coord.proofs.coordinator.Coordinator.packet_for.Goals as goal

pub returns-clause-seen : goal.returns-clause-seen
returns-clause-seen g c = λ r st.
    let s = c.args.self.now.state in
    IfOk-weaker c.packet_of.result (λ packet. packet ≡ cut_packet s c.args.range) (λ packet. packet ≡ seen_packet (packet_of r c.args.range))
    (λ packet is. is ∙ packet_is s r st c.args.range (no_fault _ _ c.in_ok-check_cut.ensures.ok)) c.packet_of.ensures.ok

pub packet_of-requires-clause-range : goal.packet_of-requires-clause-range
packet_of-requires-clause-range g c = no_fault _ _ c.in_ok-check_cut.ensures.ok

pub packet_of-requires-clause-room : goal.packet_of-requires-clause-room
packet_of-requires-clause-room g c = second_is_none _ _ c.in_ok-check_cut.ensures.ok
