use Rattle.std.proofs.Common.{◌≡◌, get_or, sym, ◌∙◌, IsOk}
use Rattle.fm_lattice.specs.Maps.{keep_new}
use Rattle.fm_lattice.proofs.Places.{lookup_gap, put_at, put_gap}
use Rattle.fm_lattice.proofs.sorted_vec.set_within.Goals as goal

pub search-requires-clause-exact : goal.search-requires-clause-exact
search-requires-clause-exact g c = g.met.K.Chain.same

-- the key is not there, so there is room
pub unwrap-requires : goal.unwrap-requires
unwrap-requires g c =
    let gap = rw c.deref.ensures.value at c.in-Err.ensures.absent in
    c.insert.ensures.succeeds (c.requires.room (lookup_gap g.K.Ord.cmp g.met.K.Ord.total g.met.K.Chain.same c.args.pairs.now.items c.args.key c.in-Err.at gap))

-- the key is there, and its value is replaced
pub returns-in-Ok-clause-items : goal.returns-in-Ok-clause-items
returns-in-Ok-clause-items g c =
    let pair = c.index_mut.result.now in
    let es = c.args.pairs.now.items in
    let at = rw c.deref.ensures.value at c.in-Ok.ensures.found in
    let placed = put_at g.K.Ord.cmp g.met.K.Ord.total g.met.K.Chain.same keep_new es c.args.key c.args.value c.in-Ok.at pair c.requires.rising at in
    let read : get_or es c.in-Ok.at pair ≡ pair = sym c.index_mut.ensures.value in
    sym (rw read at placed)

-- the pair is added in the gap
pub returns-in-Err-clause-items : goal.returns-in-Err-clause-items
returns-in-Err-clause-items g c =
    let gap = rw c.deref.ensures.value at c.in-Err.ensures.absent in
    let none = lookup_gap g.K.Ord.cmp g.met.K.Ord.total g.met.K.Chain.same c.args.pairs.now.items c.args.key c.in-Err.at gap in
    let ok : IsOk c.insert.result = c.insert.ensures.succeeds (c.requires.room none) in
    rw ok at c.insert.ensures.items ∙ sym (put_gap g.K.Ord.cmp g.met.K.Ord.total g.met.K.Chain.same keep_new c.args.pairs.now.items c.args.key c.args.value c.in-Err.at gap)
