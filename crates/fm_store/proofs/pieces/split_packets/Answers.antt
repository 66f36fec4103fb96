use Rattle.std.proofs.Common.{subst}
use Rattle.std.specs.Prelude.{ℕ, max}
use Rattle.fm_store.specs.Pieces.{ArePieces}
use Rattle.fm_store.proofs.Piecing.{with_next}
use Rattle.fm_store.proofs.pieces.split_packets.Goals as goal

pub loop-packet-preserved : goal.loop-packet-preserved
loop-packet-preserved c =
    let own = c.in_ok-put_pieces.ensures in
    let pieces = subst (λ (most : ℕ). ArePieces most c.in-Some.packet own.0) c.max-bound.ensures own.1 in
    with_next (max c.args.most 4096) c.args.packets.items c.loop-packet.packet-iterator.rest.items c.next.new.self.rest.items c.loop-packet.pieces.items c.put_pieces.new.pieces.items own.0 c.in-Some.packet
    c.loop-packet.invariant c.in-Some.ensures.steps.0 pieces own.2
