use Rattle.std.proofs.Common.{◌≤◌, ◌<◌, List, [], ◌∷◌, ◌++◌, inl, inr, ap, subst, ◌∙◌, append_assoc, arith}
use Rattle.std.proofs.lemmas.Bool.{cases_lt}
use Rattle.fm_delta.specs.declared.packet.Packet.{Packet}
use Rattle.fm_wire.specs.Grammar.{packet_size}
use Rattle.fm_store.specs.Pieces.{ArePieces}
use Rattle.fm_store.specs.inner.Halves.{longest}
use Rattle.fm_store.proofs.PieceSizes.{one_of_each}
use Rattle.fm_store.proofs.Piecing.{one_piece, pieces_of_halves}
use Rattle.fm_store.proofs.pieces.+put_pieces.Goals as goal

pub returns-then-packet_size-most : goal.returns-then-packet_size-most
returns-then-packet_size-most t c =
    let p = c.args.packet in
    let fits : packet_size p ≤ c.args.most = omega (arith, c.packet_size.ensures p.sender p.number, c.if-packet_size-most.true) in
    (p ∷ [], one_piece c.args.most p c.law_can_be.ensures fits, c.in_ok-push.ensures.items)

pub halved-requires : goal.halved-requires
halved-requires t c =
    let p = c.args.packet in
    elim (cases_lt (longest p.value) 2) [
      | inl lt ↦ absurd (omega (arith, one_of_each p c.law_can_be.ensures (omega (arith, lt)), c.packet_size.ensures p.sender p.number, c.if-packet_size-most.false, c.requires))
      | inr le ↦ le
    ]

pub returns : goal.returns
returns t c =
    let p = c.args.packet in
    let x = c.in_ok-front.front in
    let y = c.in_ok-front.behind in
    let long : c.args.most < packet_size p = omega (arith, c.packet_size.ensures p.sender p.number, c.if-packet_size-most.false) in
    let front = c.in_ok-put_pieces.ensures in
    let behind = c.in_ok-put_pieces-2.ensures in
    let of_front = c.in_ok-front.ensures.front in
    let of_behind = c.in_ok-front.ensures.behind in
    let first = subst (λ (q : Packet). ArePieces c.args.most q front.0) (λ i. record { sender = of_front.0 i; number = of_front.1 i; value = x.value }) front.1 in
    let second = subst (λ (q : Packet). ArePieces c.args.most q behind.0) (λ i. record { sender = of_behind.0 i; number = of_behind.1 i; value = y.value }) behind.1 in (
      front.0 ++ behind.0,
      pieces_of_halves c.args.most p x.value y.value front.0 behind.0 c.law_can_be.ensures long c.in_ok-front.ensures.both first second,
      behind.2 ∙ ap (λ (qs : List Packet). qs ++ behind.0) front.2 ∙ append_assoc c.args.pieces.now.items front.0 behind.0,
    )
