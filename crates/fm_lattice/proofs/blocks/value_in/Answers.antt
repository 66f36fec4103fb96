use Rattle.std.proofs.Common.{sym}
use Rattle.fm_lattice.proofs.Places.{lookup_at, lookup_gap}
use Rattle.fm_lattice.proofs.blocks.value_in.Goals as goal

pub search-requires-clause-exact : goal.search-requires-clause-exact
search-requires-clause-exact g c = g.met.K.Chain.same

pub returns-in-Ok : goal.returns-in-Ok
returns-in-Ok g c =
    sym (lookup_at g.K.Ord.cmp g.met.K.Ord.total g.met.K.Chain.same c.args.pairs.now c.args.key.now c.in-Ok.at c.index-pairs-at.result c.requires c.in-Ok.ensures.found)

pub returns-in-Err : goal.returns-in-Err
returns-in-Err g c =
    sym (lookup_gap g.K.Ord.cmp g.met.K.Ord.total g.met.K.Chain.same c.args.pairs.now c.args.key.now c.in-Err.field-0 c.in-Err.ensures.absent)
