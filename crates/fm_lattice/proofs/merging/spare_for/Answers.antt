use Rattle.std.proofs.Common.{◌<◌, length, arith}
use Rattle.fm_lattice.proofs.InBlocks.{inside_blocks}
use Rattle.fm_lattice.proofs.merging.spare_for.Goals as goal

pub bounds-left-at : goal.bounds-left-at
bounds-left-at g c =
    let inside : c.block_of-at.result < length c.args.left.now = inside_blocks g.K.Ord.cmp g.met.K.Ord.total g.met.K.Chain.same c.args.left.now c.args.key.now c.block_of-at.result c.block_of-at.ensures.block in
    search (arith, inside)

pub offset_bounds-left-at : goal.offset_bounds-left-at
offset_bounds-left-at g c =
    let inside : c.block_of-at.result < length c.args.left.now = inside_blocks g.K.Ord.cmp g.met.K.Ord.total g.met.K.Chain.same c.args.left.now c.args.key.now c.block_of-at.result c.block_of-at.ensures.block in
    search (arith, inside)
