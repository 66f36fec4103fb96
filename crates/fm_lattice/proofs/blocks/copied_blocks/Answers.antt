use Rattle.std.proofs.Common.{◌<◌, length, refl, add-one, arith}
use Rattle.fm_lattice.specs.Stocks.{Stock}
use Rattle.fm_lattice.proofs.Copies.{more_pairs, more_headed}
use Rattle.fm_lattice.proofs.blocks.copied_blocks.Goals as goal

pub loop-block-preserved : goal.loop-block-preserved
loop-block-preserved g c =
    let so_far = c.loop-block.invariant in
    let inside : c.loop-block.block-index < length c.args.blocks.now = search arith in
    let block = c.block-item.result in
    let read = c.block-item.is in
    let copy : g.row.K.Denot × Stock (g.row.K.Denot × g.row.V.Denot) = (block.0, c.in_ok-copy.field-0) in
    record {
      pairs = rw (c.in_ok-push.ensures.items, add-one) (more_pairs c.args.blocks.now c.loop-block.copies.items c.loop-block.block-index block copy inside read refl c.in_ok-copy.ensures c.requires so_far.pairs);
      headed = rw c.in_ok-push.ensures.items (more_headed c.args.blocks.now c.loop-block.copies.items c.loop-block.block-index block copy inside read refl c.in_ok-copy.ensures c.requires so_far.headed);
    }
