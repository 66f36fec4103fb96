use Rattle.std.proofs.Common.{◌≡◌, ◌<◌, suc, set, length, sym, add-one, arith}
use Rattle.std.specs.List.{insert}
use Rattle.fm_lattice.proofs.InBlocks.{inside_blocks}
use Rattle.fm_lattice.proofs.Cuts.{cut_pairs, cut_headed, cut_owned, takes_lower, takes_first, takes_later}
use Rattle.fm_lattice.proofs.blocks.cut.Goals as goal

pub index_mut-requires : goal.index_mut-requires
index_mut-requires g c =
    let inside : c.args.at < length c.args.blocks.now.items = inside_blocks g.K.Ord.cmp g.met.K.Ord.total g.met.K.Chain.same c.args.blocks.now.items c.args.key.now c.args.at c.requires.block in
    search (arith, inside)

pub overflow_add-at : goal.overflow_add-at
overflow_add-at g c =
    let inside : c.args.at < length c.args.blocks.now.items = inside_blocks g.K.Ord.cmp g.met.K.Ord.total g.met.K.Chain.same c.args.blocks.now.items c.args.key.now c.args.at c.requires.block in
    search (arith, inside)

pub insert-requires : goal.insert-requires
insert-requires g c =
    let inside : c.args.at < length c.args.blocks.now.items = inside_blocks g.K.Ord.cmp g.met.K.Ord.total g.met.K.Chain.same c.args.blocks.now.items c.args.key.now c.args.at c.requires.block in
    search (arith, inside)

pub overflow_add-result : goal.overflow_add-result
overflow_add-result g c =
    let inside : c.args.at < length c.args.blocks.now.items = inside_blocks g.K.Ord.cmp g.met.K.Ord.total g.met.K.Chain.same c.args.blocks.now.items c.args.key.now c.args.at c.requires.block in
    search (arith, inside)

pub overflow_add-result-in-Greater : goal.overflow_add-result-in-Greater
overflow_add-result-in-Greater g c =
    let inside : c.args.at < length c.args.blocks.now.items = inside_blocks g.K.Ord.cmp g.met.K.Ord.total g.met.K.Chain.same c.args.blocks.now.items c.args.key.now c.args.at c.requires.block in
    search (arith, inside)

pub returns-in-Less-clause-takes : goal.returns-in-Less-clause-takes
returns-in-Less-clause-takes g c =
    let made : c.insert.new.self.items ≡ insert (set c.args.blocks.now.items c.args.at c.split-upper.new.block) (suc c.args.at) c.split-upper.result = rw (c.unwrap.ensures, add-one) at c.insert.ensures.items in
    takes_lower g.K.Ord.cmp g.met.K.Ord.total g.met.K.Chain.same c.args.blocks.now.items c.insert.new.self.items c.args.key.now
    c.args.at c.split-upper.new.block c.split-upper.result c.index_mut.result.now c.requires.block made
    c.split-upper.ensures.parts c.index_mut.ensures.value c.requires.rising c.split-upper.ensures.first
    c.split-upper.ensures.lower_owned c.split-upper.ensures.lower_room (sym c.in-Less.ensures)

pub returns-in-Less-clause-pairs : goal.returns-in-Less-clause-pairs
returns-in-Less-clause-pairs g c =
    let made : c.insert.new.self.items ≡ insert (set c.args.blocks.now.items c.args.at c.split-upper.new.block) (suc c.args.at) c.split-upper.result = rw (c.unwrap.ensures, add-one) at c.insert.ensures.items in
    cut_pairs g.K.Ord.cmp g.met.K.Ord.total g.met.K.Chain.same c.args.blocks.now.items c.insert.new.self.items c.args.key.now c.args.at c.split-upper.new.block c.split-upper.result c.index_mut.result.now c.requires.block made c.split-upper.ensures.parts c.index_mut.ensures.value

pub returns-in-Less-clause-headed : goal.returns-in-Less-clause-headed
returns-in-Less-clause-headed g c =
    let made : c.insert.new.self.items ≡ insert (set c.args.blocks.now.items c.args.at c.split-upper.new.block) (suc c.args.at) c.split-upper.result = rw (c.unwrap.ensures, add-one) at c.insert.ensures.items in
    cut_headed g.K.Ord.cmp g.met.K.Ord.total g.met.K.Chain.same c.args.blocks.now.items c.insert.new.self.items c.args.key.now
    c.args.at c.split-upper.new.block c.split-upper.result c.index_mut.result.now c.requires.block made
    c.split-upper.ensures.parts c.index_mut.ensures.value c.requires.headed c.split-upper.ensures.key
    c.split-upper.ensures.lower c.split-upper.ensures.first

pub returns-in-Equal-clause-takes : goal.returns-in-Equal-clause-takes
returns-in-Equal-clause-takes g c =
    let made : c.insert.new.self.items ≡ insert (set c.args.blocks.now.items c.args.at c.split-upper.new.block) (suc c.args.at) c.split-upper.result = rw (c.unwrap.ensures, add-one) at c.insert.ensures.items in
    rw add-one (takes_first g.K.Ord.cmp g.met.K.Ord.total g.met.K.Chain.same c.args.blocks.now.items c.insert.new.self.items
    c.args.key.now c.args.at c.split-upper.new.block c.split-upper.result c.index_mut.result.now c.requires.block made
    c.split-upper.ensures.parts c.index_mut.ensures.value c.requires.rising c.split-upper.ensures.first
    c.split-upper.ensures.upper_owned c.split-upper.ensures.upper_room (sym c.in-Equal.ensures))

pub returns-in-Equal-clause-pairs : goal.returns-in-Equal-clause-pairs
returns-in-Equal-clause-pairs g c =
    let made : c.insert.new.self.items ≡ insert (set c.args.blocks.now.items c.args.at c.split-upper.new.block) (suc c.args.at) c.split-upper.result = rw (c.unwrap.ensures, add-one) at c.insert.ensures.items in
    cut_pairs g.K.Ord.cmp g.met.K.Ord.total g.met.K.Chain.same c.args.blocks.now.items c.insert.new.self.items c.args.key.now c.args.at c.split-upper.new.block c.split-upper.result c.index_mut.result.now c.requires.block made c.split-upper.ensures.parts c.index_mut.ensures.value

pub returns-in-Equal-clause-headed : goal.returns-in-Equal-clause-headed
returns-in-Equal-clause-headed g c =
    let made : c.insert.new.self.items ≡ insert (set c.args.blocks.now.items c.args.at c.split-upper.new.block) (suc c.args.at) c.split-upper.result = rw (c.unwrap.ensures, add-one) at c.insert.ensures.items in
    cut_headed g.K.Ord.cmp g.met.K.Ord.total g.met.K.Chain.same c.args.blocks.now.items c.insert.new.self.items c.args.key.now
    c.args.at c.split-upper.new.block c.split-upper.result c.index_mut.result.now c.requires.block made
    c.split-upper.ensures.parts c.index_mut.ensures.value c.requires.headed c.split-upper.ensures.key
    c.split-upper.ensures.lower c.split-upper.ensures.first

pub returns-in-Greater-clause-takes : goal.returns-in-Greater-clause-takes
returns-in-Greater-clause-takes g c =
    let made : c.insert.new.self.items ≡ insert (set c.args.blocks.now.items c.args.at c.split-upper.new.block) (suc c.args.at) c.split-upper.result = rw (c.unwrap.ensures, add-one) at c.insert.ensures.items in
    rw add-one (takes_later g.K.Ord.cmp g.met.K.Ord.total g.met.K.Chain.same c.args.blocks.now.items c.insert.new.self.items
    c.args.key.now c.args.at c.split-upper.new.block c.split-upper.result c.index_mut.result.now c.requires.block made
    c.split-upper.ensures.parts c.index_mut.ensures.value c.requires.rising c.split-upper.ensures.first
    c.split-upper.ensures.upper_owned c.split-upper.ensures.upper_room (sym c.in-Greater.ensures))

pub returns-in-Greater-clause-pairs : goal.returns-in-Greater-clause-pairs
returns-in-Greater-clause-pairs g c =
    let made : c.insert.new.self.items ≡ insert (set c.args.blocks.now.items c.args.at c.split-upper.new.block) (suc c.args.at) c.split-upper.result = rw (c.unwrap.ensures, add-one) at c.insert.ensures.items in
    cut_pairs g.K.Ord.cmp g.met.K.Ord.total g.met.K.Chain.same c.args.blocks.now.items c.insert.new.self.items c.args.key.now c.args.at c.split-upper.new.block c.split-upper.result c.index_mut.result.now c.requires.block made c.split-upper.ensures.parts c.index_mut.ensures.value

pub returns-in-Greater-clause-headed : goal.returns-in-Greater-clause-headed
returns-in-Greater-clause-headed g c =
    let made : c.insert.new.self.items ≡ insert (set c.args.blocks.now.items c.args.at c.split-upper.new.block) (suc c.args.at) c.split-upper.result = rw (c.unwrap.ensures, add-one) at c.insert.ensures.items in
    cut_headed g.K.Ord.cmp g.met.K.Ord.total g.met.K.Chain.same c.args.blocks.now.items c.insert.new.self.items c.args.key.now
    c.args.at c.split-upper.new.block c.split-upper.result c.index_mut.result.now c.requires.block made
    c.split-upper.ensures.parts c.index_mut.ensures.value c.requires.headed c.split-upper.ensures.key
    c.split-upper.ensures.lower c.split-upper.ensures.first

pub returns-in-Less-clause-owned : goal.returns-in-Less-clause-owned
returns-in-Less-clause-owned g c =
    let made : c.insert.new.self.items ≡ insert (set c.args.blocks.now.items c.args.at c.split-upper.new.block) (suc c.args.at) c.split-upper.result = rw (c.unwrap.ensures, add-one) at c.insert.ensures.items in
    cut_owned g.K.Ord.cmp g.met.K.Ord.total g.met.K.Chain.same c.args.blocks.now.items c.insert.new.self.items c.args.key.now
    c.args.at c.split-upper.new.block c.split-upper.result c.index_mut.result.now c.requires.block made
    c.split-upper.ensures.parts c.index_mut.ensures.value c.split-upper.ensures.key c.split-upper.ensures.lower_owned
    c.split-upper.ensures.upper_owned

pub returns-in-Equal-clause-owned : goal.returns-in-Equal-clause-owned
returns-in-Equal-clause-owned g c =
    let made : c.insert.new.self.items ≡ insert (set c.args.blocks.now.items c.args.at c.split-upper.new.block) (suc c.args.at) c.split-upper.result = rw (c.unwrap.ensures, add-one) at c.insert.ensures.items in
    cut_owned g.K.Ord.cmp g.met.K.Ord.total g.met.K.Chain.same c.args.blocks.now.items c.insert.new.self.items c.args.key.now
    c.args.at c.split-upper.new.block c.split-upper.result c.index_mut.result.now c.requires.block made
    c.split-upper.ensures.parts c.index_mut.ensures.value c.split-upper.ensures.key c.split-upper.ensures.lower_owned
    c.split-upper.ensures.upper_owned

pub returns-in-Greater-clause-owned : goal.returns-in-Greater-clause-owned
returns-in-Greater-clause-owned g c =
    let made : c.insert.new.self.items ≡ insert (set c.args.blocks.now.items c.args.at c.split-upper.new.block) (suc c.args.at) c.split-upper.result = rw (c.unwrap.ensures, add-one) at c.insert.ensures.items in
    cut_owned g.K.Ord.cmp g.met.K.Ord.total g.met.K.Chain.same c.args.blocks.now.items c.insert.new.self.items c.args.key.now
    c.args.at c.split-upper.new.block c.split-upper.result c.index_mut.result.now c.requires.block made
    c.split-upper.ensures.parts c.index_mut.ensures.value c.split-upper.ensures.key c.split-upper.ensures.lower_owned
    c.split-upper.ensures.upper_owned
