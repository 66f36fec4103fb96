use Rattle.std.proofs.Common.{◌≡◌, ◌+◌, ◌-◌, sym, ◌∙◌, length, arith}
use Rattle.fm_lattice.proofs.InBlocks.{above_last}
use Rattle.fm_lattice.proofs.blocks.ends_below.Goals as goal

pub returns-in-Less : goal.returns-in-Less
returns-in-Less g c holds =
    let last : (length c.args.pairs.now - 1) + 1 ≡ length c.args.pairs.now = search arith in
    above_last g.K.Ord.cmp g.met.K.Ord.total g.met.K.Chain.same c.args.key.now c.args.pairs.now (length c.args.pairs.now - 1) c.index-pairs-count.result c.requires last (sym c.cmp.ensures ∙ c.in-Less.is)
