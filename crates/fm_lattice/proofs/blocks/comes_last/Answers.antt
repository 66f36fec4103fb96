use Rattle.std.proofs.Common.{◌≡◌, ◌+◌, ◌-◌, sym, subst, length, arith}
use Rattle.fm_lattice.specs.Maps.{IsRising}
use Rattle.fm_lattice.specs.inner.BlockOrder.{IsAbove}
use Rattle.fm_lattice.proofs.InBlocks.{rising_in, above_blocks}
use Rattle.fm_lattice.proofs.blocks.comes_last.Goals as goal

pub ends_below-requires : goal.ends_below-requires
ends_below-requires g c =
    subst (IsRising g.K.Ord.cmp) (sym c.pairs.ensures) (rising_in g.K.Ord.cmp g.met.K.Ord.total g.met.K.Chain.same c.args.blocks.now (length c.args.blocks.now - 1) c.index-blocks-count.result c.requires.rising (omega arith))

pub returns-else-count-eq0-clause-above : goal.returns-else-count-eq0-clause-above
returns-else-count-eq0-clause-above g c holds =
    let last : (length c.args.blocks.now - 1) + 1 ≡ length c.args.blocks.now = search arith in
    let above = subst (IsAbove g.K.Ord.cmp c.args.key.now) c.pairs.ensures (c.ends_below.ensures holds) in
    above_blocks g.K.Ord.cmp g.met.K.Ord.total g.met.K.Chain.same c.args.key.now c.args.blocks.now (length c.args.blocks.now - 1) c.index-blocks-count.result c.requires.headed c.requires.rising last above
