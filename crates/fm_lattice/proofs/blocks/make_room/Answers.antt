use Rattle.std.proofs.Common.{◌<◌, ◌≤◌, ◌+◌, length, ap, ◌∙◌, arith}
use Rattle.fm_lattice.proofs.InBlocks.{inside_blocks}
use Rattle.fm_lattice.proofs.Cuts.{at_any, same_pairs, same_headed, takes_wider}
use Rattle.fm_lattice.proofs.blocks.make_room.Goals as goal

pub index-requires : goal.index-requires
index-requires g c =
    let is = c.in_ok-at.ensures.block in
    let inside : c.in_ok-at.at < length c.own_block.new.blocks.items = inside_blocks g.K.Ord.cmp g.met.K.Ord.total g.met.K.Chain.same c.own_block.new.blocks.items c.args.key.now c.in_ok-at.at is in
    search (arith, inside)

pub index_mut-requires : goal.index_mut-requires
index_mut-requires g c =
    let is = c.in_ok-at.ensures.block in
    let inside : c.in_ok-at.at < length c.own_block.new.blocks.items = inside_blocks g.K.Ord.cmp g.met.K.Ord.total g.met.K.Chain.same c.own_block.new.blocks.items c.args.key.now c.in_ok-at.at is in
    search (arith, inside)

pub returns-in_err-reserve_one-clause-pairs : goal.returns-in_err-reserve_one-clause-pairs
returns-in_err-reserve_one-clause-pairs g c =
    let is = c.in_ok-at.ensures.block in
    same_pairs g.K.Ord.cmp g.met.K.Ord.total g.met.K.Chain.same c.own_block.new.blocks.items c.args.key.now c.in_ok-at.at c.reserve_one.new.block c.index_mut.result.now is c.index_mut.ensures.value c.reserve_one.ensures.items ∙ c.own_block.ensures.pairs

pub returns-in_err-reserve_one-clause-headed : goal.returns-in_err-reserve_one-clause-headed
returns-in_err-reserve_one-clause-headed g c =
    let is = c.in_ok-at.ensures.block in
    same_headed g.K.Ord.cmp g.met.K.Ord.total g.met.K.Chain.same c.own_block.new.blocks.items c.args.key.now c.in_ok-at.at c.reserve_one.new.block c.index_mut.result.now is c.index_mut.ensures.value c.own_block.ensures.headed c.reserve_one.ensures.key c.reserve_one.ensures.items

pub returns-then-pairs-lt-FULL-clause-takes : goal.returns-then-pairs-lt-FULL-clause-takes
returns-then-pairs-lt-FULL-clause-takes g c =
    let is = c.in_ok-at.ensures.block in
    takes_wider g.K.Ord.cmp g.met.K.Ord.total g.met.K.Chain.same c.own_block.new.blocks.items c.args.key.now c.in_ok-at.at c.reserve_one.new.block c.index_mut.result.now is c.index_mut.ensures.value c.in_ok-reserve_one.ensures.owned c.in_ok-reserve_one.ensures.room

pub returns-then-pairs-lt-FULL-clause-pairs : goal.returns-then-pairs-lt-FULL-clause-pairs
returns-then-pairs-lt-FULL-clause-pairs g c =
    let is = c.in_ok-at.ensures.block in
    same_pairs g.K.Ord.cmp g.met.K.Ord.total g.met.K.Chain.same c.own_block.new.blocks.items c.args.key.now c.in_ok-at.at c.reserve_one.new.block c.index_mut.result.now is c.index_mut.ensures.value c.reserve_one.ensures.items ∙ c.own_block.ensures.pairs

pub returns-then-pairs-lt-FULL-clause-headed : goal.returns-then-pairs-lt-FULL-clause-headed
returns-then-pairs-lt-FULL-clause-headed g c =
    let is = c.in_ok-at.ensures.block in
    same_headed g.K.Ord.cmp g.met.K.Ord.total g.met.K.Chain.same c.own_block.new.blocks.items c.args.key.now c.in_ok-at.at c.reserve_one.new.block c.index_mut.result.now is c.index_mut.ensures.value c.own_block.ensures.headed c.reserve_one.ensures.key c.reserve_one.ensures.items

pub cut-requires-clause-more : goal.cut-requires-clause-more
cut-requires-clause-more g c d =
    let is = c.in_ok-at.ensures.block in
    let more : c.moved_count-count.result + 1 ≤ length c.index.result.now.1.items = omega (arith, ap length c.pairs.ensures, c.if-pairs-lt-FULL.false, c.moved_count-count.ensures.half) in
    rw c.in_ok-reserve.ensures.items (at_any g.K.Ord.cmp g.met.K.Ord.total g.met.K.Chain.same c.own_block.new.blocks.items c.args.key.now c.in_ok-at.at c.index.result.now c.index.result.now is c.index.ensures (λ z. c.moved_count-count.result + 1 ≤ length z.1.items) more d)

pub moved_count-count-requires : goal.moved_count-count-requires
moved_count-count-requires g c =
    rw (c.deref.ensures.value, c.in_ok-reserve.ensures.items) (inside_blocks g.K.Ord.cmp g.met.K.Ord.total g.met.K.Chain.same c.own_block.new.blocks.items c.args.key.now c.in_ok-at.at c.in_ok-at.ensures.block)
