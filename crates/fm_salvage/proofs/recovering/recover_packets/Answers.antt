use Rattle.std.proofs.Common.{◌≡◌, ◌∙◌, List, ap, inl, length, map, subst}
use Rattle.std.specs.List.{flat_map}
use Rattle.fm_delta.specs.declared.packet.Packet.{Packet}
use Rattle.fm_query.specs.QueryTexts.{line_of}
use Rattle.fm_store.specs.Heads.{HeadModel}
use Rattle.fm_store.specs.KnownPackets.{unknown}
use Rattle.fm_store.specs.Pieces.{ArePiecesOfEach}
use Rattle.fm_store.specs.declared.known.Known.{Known}
use Rattle.fm_salvage.specs.RecoveryText.{most_in_line}
use Rattle.fm_salvage.specs.inner.Joining.{AreJoined}
use Rattle.fm_salvage.proofs.Knowing.{front_known}
use Rattle.fm_salvage.proofs.recovering.recover_packets.Goals as goal

pub returns-in_ok-lines_of-in-Ok-clause-ok : goal.returns-in_ok-lines_of-in-Ok-clause-ok
returns-in_ok-lines_of-in-Ok-clause-ok c =
    let h = c.in-Ok.head in
    let head : HeadModel = record { label = h.label.now; numbers = h.numbers.items } in
    let joined = c.in_ok-joined-in-Ok.joined in
    let none : c.in_ok-none-in-Ok.none.known.items ≡ map unknown h.numbers.items = c.in_ok-none-in-Ok.ensures ∙ ap (map unknown) c.deref.ensures.value in
    let all = subst (λ (ks : List Known). AreJoined (length c.args.bytes.now) h.frames.now ks joined.all.known.items joined.damage) none c.in_ok-joined-in-Ok.ensures.ok in
    let packets = c.in_ok-packets-in-Ok.ensures.all h.numbers.items all.packets all.known_is in
    let pieces = subst (λ (ps : List Packet). ArePiecesOfEach most_in_line ps c.in_ok-pieces-in-Ok.pieces.items) packets c.in_ok-pieces-in-Ok.ensures in
    let text = c.in_ok-lines_of-in-Ok.ensures.ok ∙ ap (flat_map line_of) c.deref-in-Ok.ensures.value in
    inl (front_known head c.args.bytes.now h.frames.now c.in_ok-lines_of-in-Ok.field-0.items joined.all.known.items joined.damage c.in-Ok.ensures.ok all (c.in_ok-pieces-in-Ok.pieces.items, pieces, text))
