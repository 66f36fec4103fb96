use Rattle.std.proofs.Common.{◌≡◌, ◌-◌, suc, subst, arith}
use Rattle.fm_lattice.specs.inner.SortedVec.{IsInsertionIndex}
use Rattle.fm_lattice.proofs.InBlocks.{blocks_rise, block_at, block_first, block_before}
use Rattle.fm_lattice.proofs.Owned.{home_at, home_first, home_before}
use Rattle.fm_lattice.proofs.blocks.block_of.Goals as goal

pub search-requires-clause-exact : goal.search-requires-clause-exact
search-requires-clause-exact g c = g.met.K.Chain.same

pub search-requires-clause-rising : goal.search-requires-clause-rising
search-requires-clause-rising g c = blocks_rise g.K.Ord.cmp g.met.K.Ord.total g.met.K.Chain.same c.args.blocks.now c.requires.headed c.requires.rising

pub returns-in-Ok-clause-block : goal.returns-in-Ok-clause-block
returns-in-Ok-clause-block g c = block_at g.K.Ord.cmp g.met.K.Ord.total g.met.K.Chain.same c.args.blocks.now c.args.key.now c.in-Ok.at c.requires.headed c.requires.rising c.in-Ok.ensures.found

pub returns-in-Err-eq0-clause-block : goal.returns-in-Err-eq0-clause-block
returns-in-Err-eq0-clause-block g c = block_first g.K.Ord.cmp g.met.K.Ord.total g.met.K.Chain.same c.args.blocks.now c.args.key.now c.requires.headed c.requires.rising c.requires.some (rw c.in-Err-eq0.field-0-test at c.in-Err-eq0.ensures.absent)

pub returns-in-Err-clause-block : goal.returns-in-Err-clause-block
returns-in-Err-clause-block g c =
    let one : c.in-Err.at ≡ suc (c.in-Err.at - 1) = omega (arith, c.in-Err.at-test.1) in
    block_before g.K.Ord.cmp g.met.K.Ord.total g.met.K.Chain.same c.args.blocks.now c.args.key.now (c.in-Err.at - 1) c.requires.headed c.requires.rising (subst (IsInsertionIndex g.K.Ord.cmp c.args.blocks.now c.args.key.now) one c.in-Err.ensures.absent)

pub returns-in-Ok-clause-home : goal.returns-in-Ok-clause-home
returns-in-Ok-clause-home g c = home_at g.K.Ord.cmp g.met.K.Ord.total g.met.K.Chain.same c.args.blocks.now c.args.key.now c.in-Ok.at (blocks_rise g.K.Ord.cmp g.met.K.Ord.total g.met.K.Chain.same c.args.blocks.now c.requires.headed c.requires.rising) c.in-Ok.ensures.found

pub returns-in-Err-eq0-clause-home : goal.returns-in-Err-eq0-clause-home
returns-in-Err-eq0-clause-home g c = home_first g.K.Ord.cmp g.met.K.Ord.total g.met.K.Chain.same c.args.blocks.now c.args.key.now c.requires.some (rw c.in-Err-eq0.field-0-test at c.in-Err-eq0.ensures.absent)

pub returns-in-Err-clause-home : goal.returns-in-Err-clause-home
returns-in-Err-clause-home g c =
    let one : c.in-Err.at ≡ suc (c.in-Err.at - 1) = omega (arith, c.in-Err.at-test.1) in
    home_before g.K.Ord.cmp g.met.K.Ord.total g.met.K.Chain.same c.args.blocks.now c.args.key.now (c.in-Err.at - 1) (subst (IsInsertionIndex g.K.Ord.cmp c.args.blocks.now c.args.key.now) one c.in-Err.ensures.absent)
