use Rattle.std.proofs.Common.{◌≡◌, ◌<◌, ◌≤◌, ◌+◌, true, length, vec_capacity, get_or, sym, ap, subst, arith}
use Rattle.fm_lattice.specs.inner.BlockOrder.{IsBlockOf, IsBlockFor}
use Rattle.fm_lattice.proofs.InBlocks.{inside_blocks}
use Rattle.fm_lattice.proofs.Cuts.{at_any, same_pairs, same_headed, same_owned, takes_wider}
use Rattle.fm_lattice.proofs.Owned.{home_owned}
use Rattle.fm_lattice.proofs.blocks.take_room.Goals as goal

pub index-requires : goal.index-requires
index-requires g c =
    let is = subst (λ z. IsBlockOf g.K.Ord.cmp c.args.key.now z c.block_of-at.result) c.deref.ensures.value c.block_of-at.ensures.block in
    let inside : c.block_of-at.result < length c.args.blocks.now.items = inside_blocks g.K.Ord.cmp g.met.K.Ord.total g.met.K.Chain.same c.args.blocks.now.items c.args.key.now c.block_of-at.result is in
    search (arith, inside)

pub index-requires-2 : goal.index-requires-2
index-requires-2 g c =
    let is = subst (λ z. IsBlockOf g.K.Ord.cmp c.args.key.now z c.block_of-at.result) c.deref.ensures.value c.block_of-at.ensures.block in
    let inside : c.block_of-at.result < length c.args.blocks.now.items = inside_blocks g.K.Ord.cmp g.met.K.Ord.total g.met.K.Chain.same c.args.blocks.now.items c.args.key.now c.block_of-at.result is in
    search (arith, inside)

pub index_mut-requires : goal.index_mut-requires
index_mut-requires g c =
    let is = subst (λ z. IsBlockOf g.K.Ord.cmp c.args.key.now z c.block_of-at.result) c.deref.ensures.value c.block_of-at.ensures.block in
    let inside : c.block_of-at.result < length c.args.blocks.now.items = inside_blocks g.K.Ord.cmp g.met.K.Ord.total g.met.K.Chain.same c.args.blocks.now.items c.args.key.now c.block_of-at.result is in
    search (arith, inside)

pub returns-then-len-room-clause-takes : goal.returns-then-len-room-clause-takes
returns-then-len-room-clause-takes g c =
    let is = subst (λ z. IsBlockOf g.K.Ord.cmp c.args.key.now z c.block_of-at.result) c.deref.ensures.value c.block_of-at.ensures.block in
    let home = subst (λ z. IsBlockFor g.K.Ord.cmp c.args.key.now z c.block_of-at.result) c.deref.ensures.value c.block_of-at.ensures.home in
    record {
      is_block = is;
      owned = λ d. home_owned g.K.Ord.cmp c.args.key.now c.args.blocks.now.items c.block_of-at.result d home c.requires.owned;
      room = λ none d.
          let small : length c.pairs-len.result.now < c.room-room.result = omega (arith, c.if-len-room.true) in
          let len : length c.pairs-len.result.now ≡ length (get_or c.args.blocks.now.items c.block_of-at.result d).1.items =
          at_any g.K.Ord.cmp g.met.K.Ord.total g.met.K.Chain.same c.args.blocks.now.items c.args.key.now
          c.block_of-at.result c.index.result.now c.index.result.now is c.index.ensures
          (λ z. length c.pairs-len.result.now ≡ length z.1.items) (ap length c.pairs-len.ensures) d in
          let room : c.room-room.result ≡ (get_or c.args.blocks.now.items c.block_of-at.result d).1.room = at_any g.K.Ord.cmp
          g.met.K.Ord.total g.met.K.Chain.same c.args.blocks.now.items c.args.key.now c.block_of-at.result
          c.index-2.result.now c.index-2.result.now is c.index-2.ensures (λ z. c.room-room.result ≡ z.1.room)
          c.room-room.ensures d in
          omega (arith, len, room, small);
    }

pub returns-then-capacity-lt-LEAST-clause-takes : goal.returns-then-capacity-lt-LEAST-clause-takes
returns-then-capacity-lt-LEAST-clause-takes g c =
    let is = subst (λ z. IsBlockOf g.K.Ord.cmp c.args.key.now z c.block_of-at.result) c.deref.ensures.value c.block_of-at.ensures.block in
    let home = subst (λ z. IsBlockFor g.K.Ord.cmp c.args.key.now z c.block_of-at.result) c.deref.ensures.value c.block_of-at.ensures.home in
    record {
      is_block = is;
      owned = λ d. home_owned g.K.Ord.cmp c.args.key.now c.args.blocks.now.items c.block_of-at.result d home c.requires.owned;
      room = λ none d. let fits = c.requires.spare none in absurd (omega (arith, fits, c.capacity-capacity.ensures, c.if-capacity-lt-LEAST.true));
    }

pub enlarge-requires-clause-owned : goal.enlarge-requires-clause-owned
enlarge-requires-clause-owned g c =
    let home = subst (λ z. IsBlockFor g.K.Ord.cmp c.args.key.now z c.block_of-at.result) c.deref.ensures.value c.block_of-at.ensures.home in
    subst (λ z. z.1.owned ≡ true) (sym c.index_mut.ensures.value) (home_owned g.K.Ord.cmp c.args.key.now c.args.blocks.now.items c.block_of-at.result c.index_mut.result.now home c.requires.owned)

pub enlarge-requires-clause-more : goal.enlarge-requires-clause-more
enlarge-requires-clause-more g c =
    let is = subst (λ z. IsBlockOf g.K.Ord.cmp c.args.key.now z c.block_of-at.result) c.deref.ensures.value c.block_of-at.ensures.block in
    let small : length c.index.result.now.1.items < vec_capacity c.args.spare = omega (arith, ap length c.pairs-len.ensures, c.capacity-capacity.ensures, c.if-len-capacity.true) in
    subst (λ z. length z.1.items < vec_capacity c.args.spare) (sym c.index_mut.ensures.value)
    (at_any g.K.Ord.cmp g.met.K.Ord.total g.met.K.Chain.same c.args.blocks.now.items c.args.key.now c.block_of-at.result
    c.index.result.now c.index.result.now is c.index.ensures (λ z. length z.1.items < vec_capacity c.args.spare) small
    c.index_mut.result.now)

pub moved_count-requires : goal.moved_count-requires
moved_count-requires g c = rw c.deref-2.ensures.value (inside_blocks g.K.Ord.cmp g.met.K.Ord.total g.met.K.Chain.same
    c.args.blocks.now.items c.args.key.now c.block_of-at.result (subst
    (λ z. IsBlockOf g.K.Ord.cmp c.args.key.now z c.block_of-at.result) c.deref.ensures.value c.block_of-at.ensures.block))

pub cut-requires-clause-owned : goal.cut-requires-clause-owned
cut-requires-clause-owned g c d =
    let home = subst (λ z. IsBlockFor g.K.Ord.cmp c.args.key.now z c.block_of-at.result) c.deref.ensures.value c.block_of-at.ensures.home in
    home_owned g.K.Ord.cmp c.args.key.now c.args.blocks.now.items c.block_of-at.result d home c.requires.owned

pub cut-requires-clause-more : goal.cut-requires-clause-more
cut-requires-clause-more g c d =
    let is = subst (λ z. IsBlockOf g.K.Ord.cmp c.args.key.now z c.block_of-at.result) c.deref.ensures.value c.block_of-at.ensures.block in
    let more : c.fewer-count.result + 1 ≤ length c.index.result.now.1.items = omega (arith, ap length c.pairs-len.ensures, c.fewer-count.ensures.less) in
    at_any g.K.Ord.cmp g.met.K.Ord.total g.met.K.Chain.same c.args.blocks.now.items c.args.key.now c.block_of-at.result c.index.result.now c.index.result.now is c.index.ensures (λ z. c.fewer-count.result + 1 ≤ length z.1.items) more d

pub returns-then-len-capacity-clause-owned : goal.returns-then-len-capacity-clause-owned
returns-then-len-capacity-clause-owned g c =
    let is = subst (λ z. IsBlockOf g.K.Ord.cmp c.args.key.now z c.block_of-at.result) c.deref.ensures.value c.block_of-at.ensures.block in
    same_owned g.K.Ord.cmp g.met.K.Ord.total g.met.K.Chain.same c.args.blocks.now.items c.args.key.now c.block_of-at.result c.enlarge.new.block c.index_mut.result.now is c.index_mut.ensures.value c.enlarge.ensures.key c.enlarge.ensures.owned

pub returns-then-len-capacity-clause-takes : goal.returns-then-len-capacity-clause-takes
returns-then-len-capacity-clause-takes g c =
    let is = subst (λ z. IsBlockOf g.K.Ord.cmp c.args.key.now z c.block_of-at.result) c.deref.ensures.value c.block_of-at.ensures.block in
    takes_wider g.K.Ord.cmp g.met.K.Ord.total g.met.K.Chain.same c.args.blocks.now.items c.args.key.now c.block_of-at.result c.enlarge.new.block c.index_mut.result.now is c.index_mut.ensures.value c.enlarge.ensures.owned c.enlarge.ensures.room

pub returns-then-len-capacity-clause-pairs : goal.returns-then-len-capacity-clause-pairs
returns-then-len-capacity-clause-pairs g c =
    let is = subst (λ z. IsBlockOf g.K.Ord.cmp c.args.key.now z c.block_of-at.result) c.deref.ensures.value c.block_of-at.ensures.block in
    same_pairs g.K.Ord.cmp g.met.K.Ord.total g.met.K.Chain.same c.args.blocks.now.items c.args.key.now c.block_of-at.result c.enlarge.new.block c.index_mut.result.now is c.index_mut.ensures.value c.enlarge.ensures.items

pub returns-then-len-capacity-clause-headed : goal.returns-then-len-capacity-clause-headed
returns-then-len-capacity-clause-headed g c =
    let is = subst (λ z. IsBlockOf g.K.Ord.cmp c.args.key.now z c.block_of-at.result) c.deref.ensures.value c.block_of-at.ensures.block in
    same_headed g.K.Ord.cmp g.met.K.Ord.total g.met.K.Chain.same c.args.blocks.now.items c.args.key.now c.block_of-at.result c.enlarge.new.block c.index_mut.result.now is c.index_mut.ensures.value c.requires.headed c.enlarge.ensures.key c.enlarge.ensures.items
