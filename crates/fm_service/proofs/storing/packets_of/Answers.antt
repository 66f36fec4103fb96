use Rattle.std.proofs.Common.{◌++◌, ◌∷◌, [], Some, None, map, take, refl, sym, ap, ◌∙◌}
use Rattle.std.specs.Global.{Vec}
use Rattle.std.specs.List.{filter_map}
use Rattle.std.proofs.lemmas.List.{append-nil}
use Rattle.fm_delta.specs.declared.packet.Packet.{Packet}
use Rattle.fm_coord.specs.Replays.{seen_packet}
use Rattle.fm_world.specs.Represents.{number_of}
use Rattle.fm_service.specs.inner.Extents.{packet_by}
use Rattle.fm_service.proofs.Anew.{all_numbers}
use Rattle.fm_service.proofs.Unstored.{packets_of_first, one_packet}
use Rattle.fm_service.proofs.storing.packets_of.Goals.{in-Some+in_ok-push, in_default}
use Rattle.fm_service.proofs.storing.packets_of.Goals as goal

pub loop-coordinator-preserved : goal.loop-coordinator-preserved
loop-coordinator-preserved c =
    let cs = c.coordinators-coordinator-items.result.now in
    let i = c.loop-coordinator.coordinator-index in
    let its = c.value.ensures.number ∙ c.number.ensures in
    elim c.match-branch-2.branch [
      | in-Some+in_ok-push w ↦ λ k h.
          let made = one_packet (packet_by c.args.extent k) cs i c.coordinator-item.result c.loop-coordinator-test.true c.coordinator-item.is c.value.result its (Some w.in-Some.packet) (sym w.in-Some.is ∙ c.in_ok-packet.ensures k h) in
          ap (λ (v : Vec Packet). v.items) w.packets-is ∙ w.in_ok-push.ensures.items ∙ ap (λ ps. ps ++ w.in-Some.packet ∷ []) (c.loop-coordinator.invariant k h) ∙ made
      | in_default w ↦ λ k h.
          let none = one_packet (packet_by c.args.extent k) cs i c.coordinator-item.result c.loop-coordinator-test.true c.coordinator-item.is c.value.result its None (sym w.in_default.is ∙ c.in_ok-packet.ensures k h) in
          ap (λ (v : Vec Packet). v.items) w.packets-is ∙ c.loop-coordinator.invariant k h ∙ sym (append-nil (packets_of_first (packet_by c.args.extent k) cs i)) ∙ none
    ]

pub returns : goal.returns
returns c = λ k h.
    let cs = c.coordinators-coordinator-items.result.now in
    let i = c.loop-coordinator.coordinator-index in
    c.loop-coordinator.invariant k h
    ∙ ap (λ ns. map seen_packet (filter_map (packet_by c.args.extent k) ns))
    (all_numbers cs c.args.session.now.world c.coordinators-coordinator-items.ensures i c.loop-coordinator-test.false (map number_of (take i cs)) refl k.world h.stands)
