use Rattle.std.proofs.Common.{sym}
use Rattle.fm_lattice.proofs.Places.{lookup_at, lookup_gap}
use Rattle.fm_lattice.proofs.sorted_vec.get.Goals as goal

pub returns-in-Ok : goal.returns-in-Ok
returns-in-Ok g c = sym (lookup_at g.K.Ord.cmp g.met.K.Ord.total c.requires.exact c.args.pairs.now c.args.key.now c.in-Ok.at c.index-pairs-at.result c.requires.rising c.in-Ok.ensures.found)

pub returns-in-Err : goal.returns-in-Err
returns-in-Err g c = sym (lookup_gap g.K.Ord.cmp g.met.K.Ord.total c.requires.exact c.args.pairs.now c.args.key.now _ c.in-Err.ensures.absent)
