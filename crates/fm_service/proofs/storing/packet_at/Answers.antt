use Rattle.std.proofs.Common.{◌≡◌, Some, IfOk, get_or, option_map, sym, ap, ◌∙◌, subst}
use Rattle.fm_world.proofs.Places.{absent}
use Rattle.fm_coord.specs.Replays.{seen_packet}
use Rattle.fm_service.specs.declared.storing.Extent.{Extent}
use Rattle.fm_service.specs.Renewing.{whole_of}
use Rattle.fm_service.specs.Storing.{stored_mark_at, unstored_by}
use Rattle.fm_service.specs.inner.Extents.{packet_by}
use Rattle.fm_service.proofs.Results.{if_ok}
use Rattle.fm_service.proofs.Steps.{here}
use Rattle.fm_service.proofs.Unstored.{nobody}
use Rattle.fm_service.proofs.storing.packet_at.Goals as goal

pub returns-in_default : goal.returns-in_default
returns-in_default c = λ k h.
    sym (nobody c.args.extent k c.args.at (absent c.args.at c.args.session.now.world.coordinators k.world.replicas h.stands.coordinators (sym c.in_default.ensures)))

pub returns-in-Unstored : goal.returns-in-Unstored
returns-in-Unstored c = λ k h.
    let there = here c.args.session.now.world k.world c.args.at h.stands c.in-Some.coordinator.now.state c.in-Some.ensures in
    let mark : get_or c.args.session.now.stored_marks c.from.result 0 ≡ stored_mark_at k c.args.at = λ i. get_or (h.stored_marks_is i) (c.from.ensures i) 0 in
    subst (λ (e : Extent). IfOk c.unstored_packet.result (λ made. made ≡ option_map seen_packet (packet_by e k c.args.at))) (sym c.in-Unstored.is)
    (if_ok c.unstored_packet.result
    (λ made is. is ∙ (λ i. option_map seen_packet (unstored_by (mark i) (sym there.at i))))
    (c.unstored_packet.ensures there.replica there.stands))

pub returns-in_ok-whole_of-in-Full : goal.returns-in_ok-whole_of-in-Full
returns-in_ok-whole_of-in-Full c = λ k h.
    let there = here c.args.session.now.world k.world c.args.at h.stands c.in-Some.coordinator.now.state c.in-Some.ensures in
    let packet = c.in_ok-whole_of-in-Full.field-0 in
    subst (λ (e : Extent). Some packet ≡ option_map seen_packet (packet_by e k c.args.at)) (sym c.in-Full.is)
    (ap Some (c.in_ok-whole_of-in-Full.ensures there.replica there.stands) ∙ sym (ap (λ o. option_map seen_packet (option_map whole_of o)) there.at))
