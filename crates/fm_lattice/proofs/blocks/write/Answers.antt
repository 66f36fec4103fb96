use Rattle.std.proofs.Common.{◌≡◌, ◌<◌, length, get_or, subst, sym, ◌∙◌, ap, arith}
use Rattle.fm_lattice.specs.Maps.{lookup, put, keep_new, IsRising}
use Rattle.fm_lattice.specs.inner.BlockOrder.{BeginsWith}
use Rattle.fm_lattice.proofs.InBlocks.{inside_blocks, rising_in, lookup_in, put_in, headed_set, count_set, blocks_rise, begins_at}
use Rattle.fm_lattice.proofs.Owned.{owned_put}
use Rattle.fm_lattice.proofs.blocks.write.Goals as goal

pub index_mut-requires : goal.index_mut-requires
index_mut-requires g c =
    let inside : c.args.at < length c.args.blocks.now.items = inside_blocks g.K.Ord.cmp g.met.K.Ord.total g.met.K.Chain.same c.args.blocks.now.items c.args.key c.args.at c.requires.takes.is_block in
    search (arith, inside)

pub write_in-requires-clause-rising : goal.write_in-requires-clause-rising
write_in-requires-clause-rising g c =
    let inside = inside_blocks g.K.Ord.cmp g.met.K.Ord.total g.met.K.Chain.same c.args.blocks.now.items c.args.key c.args.at c.requires.takes.is_block in
    subst (λ z. IsRising g.K.Ord.cmp z.1.items) (sym c.index_mut.ensures.value) (rising_in g.K.Ord.cmp g.met.K.Ord.total g.met.K.Chain.same c.args.blocks.now.items c.args.at c.index_mut.result.now c.requires.rising inside)

pub write_in-requires-clause-room : goal.write_in-requires-clause-room
write_in-requires-clause-room g c none =
    let read = c.index_mut.ensures.value in
    let in_block = lookup_in g.K.Ord.cmp g.met.K.Ord.total g.met.K.Chain.same c.args.blocks.now.items c.args.key c.args.at c.index_mut.result.now c.requires.takes.is_block in
    subst (λ z. length z.1.items < z.1.room) (sym read) (c.requires.takes.room (in_block ∙ ap (λ z. lookup g.K.Ord.cmp c.args.key z.1.items) (sym read) ∙ none) c.index_mut.result.now)

pub returns-clause-pairs : goal.returns-clause-pairs
returns-clause-pairs g c =
    put_in g.K.Ord.cmp g.met.K.Ord.total g.met.K.Chain.same keep_new c.args.blocks.now.items c.args.key c.args.value c.args.at c.index_mut.result.now c.write_in.new.block c.requires.takes.is_block
    (c.write_in.ensures.items ∙ ap (λ z. put g.K.Ord.cmp keep_new c.args.key c.args.value z.1.items) c.index_mut.ensures.value)

pub returns-clause-headed : goal.returns-clause-headed
returns-clause-headed g c = headed_set c.args.blocks.now.items c.args.at c.write_in.new.block c.requires.headed c.write_in.ensures.first

pub returns-clause-counted : goal.returns-clause-counted
returns-clause-counted g c =
    let inside = inside_blocks g.K.Ord.cmp g.met.K.Ord.total g.met.K.Chain.same c.args.blocks.now.items c.args.key c.args.at c.requires.takes.is_block in
    let counts = count_set c.args.blocks.now.items c.args.at c.index_mut.result.now c.write_in.new.block inside in
    let read : length c.index_mut.result.now.1.items ≡ length (get_or c.args.blocks.now.items c.args.at c.index_mut.result.now).1.items = ap (λ z. length z.1.items) c.index_mut.ensures.value in
    omega (arith, counts, read, c.write_in.ensures.counted)

pub returns-clause-owned : goal.returns-clause-owned
returns-clause-owned g c =
    let bs = c.args.blocks.now.items in
    let block = c.index_mut.result.now in
    let inside = inside_blocks g.K.Ord.cmp g.met.K.Ord.total g.met.K.Chain.same bs c.args.key c.args.at c.requires.takes.is_block in
    let before : BeginsWith block.0 block.1.items = subst (λ z. BeginsWith z.0 z.1.items) (sym c.index_mut.ensures.value) (begins_at bs c.args.at block c.requires.headed inside) in
    owned_put g.K.Ord.cmp g.met.K.Ord.total g.met.K.Chain.same keep_new bs c.args.key c.args.value c.args.at block
    c.write_in.new.block (blocks_rise g.K.Ord.cmp g.met.K.Ord.total g.met.K.Chain.same bs c.requires.headed
    c.requires.rising) c.index_mut.ensures.value before c.write_in.ensures.items c.write_in.ensures.first
    c.write_in.ensures.owned
