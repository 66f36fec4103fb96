use Rattle.std.proofs.Common.{◌<◌, sym, ap, subst, ◌∙◌, arith, length}
use Rattle.fm_lattice.specs.Maps.{IsRising, lookup}
use Rattle.fm_lattice.proofs.InBlocks.{inside_blocks, rising_in, lookup_in}
use Rattle.fm_lattice.proofs.blocks.value_at.Goals as goal

pub bounds-blocks-block_of : goal.bounds-blocks-block_of
bounds-blocks-block_of g c = inside_blocks g.K.Ord.cmp g.met.K.Ord.total g.met.K.Chain.same c.args.blocks.now c.args.key.now c.block_of.result c.block_of.ensures.block

pub offset_bounds-blocks-block_of : goal.offset_bounds-blocks-block_of
offset_bounds-blocks-block_of g c =
    let inside : c.block_of.result < length c.args.blocks.now = inside_blocks g.K.Ord.cmp g.met.K.Ord.total g.met.K.Chain.same c.args.blocks.now c.args.key.now c.block_of.result c.block_of.ensures.block in
    omega arith

pub value_in-requires : goal.value_in-requires
value_in-requires g c =
    let inside = inside_blocks g.K.Ord.cmp g.met.K.Ord.total g.met.K.Chain.same c.args.blocks.now c.args.key.now c.block_of.result c.block_of.ensures.block in
    subst (IsRising g.K.Ord.cmp) (sym c.pairs.ensures) (rising_in g.K.Ord.cmp g.met.K.Ord.total g.met.K.Chain.same c.args.blocks.now c.block_of.result c.index-blocks-block_of.result c.requires.rising inside)

pub returns : goal.returns
returns g c =
    let in_block = lookup_in g.K.Ord.cmp g.met.K.Ord.total g.met.K.Chain.same c.args.blocks.now c.args.key.now c.block_of.result c.index-blocks-block_of.result c.block_of.ensures.block in
    c.value_in.ensures ∙ ap (lookup g.K.Ord.cmp c.args.key.now) c.pairs.ensures ∙ sym in_block
