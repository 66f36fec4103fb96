use Rattle.std.proofs.Common.{◌≡◌, ◌∙◌, ap, arith, length}
use Rattle.std.specs.Vec.Iter.{into_iter_items}
use Rattle.fm_lattice.specs.Maps.{put, keep_new}
use Rattle.fm_lattice.specs.laws.MapLaws.{rising_put}
use Rattle.fm_lattice.specs.Blocks.{pairs_of}
use Rattle.fm_lattice.proofs.Spares.{spares_put}
use Rattle.fm_lattice.proofs.Owned.{still_owned}
use Rattle.fm_lattice.proofs.merging.apply.Goals as goal

pub loop-key-preserved : goal.loop-key-preserved
loop-key-preserved g c =
    let so_far = c.loop-key.invariant in
    let given = c.in-Some.ensures.steps in
    let before = pairs_of c.loop-key.blocks.items in
    let written : pairs_of c.write-added.new.blocks.items ≡ put g.K.Ord.cmp keep_new c.in-Some.key c.in-Some.value before = c.write-added.ensures.pairs ∙ ap (put g.K.Ord.cmp keep_new c.in-Some.key c.in-Some.value) c.take_room-at.ensures.pairs in
    let spares = rw given.0 at so_far.spares in
    let owned = rw given.0 at so_far.owned in
    let rest = into_iter_items c.next.new.self in
    let kept : length (pairs_of c.take_room-at.new.blocks.items) ≡ length before = ap length c.take_room-at.ensures.pairs in
    record {
      some = omega arith;
      headed = c.write-added.ensures.headed;
      rises = rw written (rising_put g.K.Ord.cmp g.met.K.Ord.total g.met.K.Chain.same keep_new c.in-Some.key c.in-Some.value before so_far.rises);
      spares = rw written (spares_put g.K.Ord.cmp g.met.K.Ord.total g.met.K.Chain.same 2 before c.in-Some.key c.in-Some.value rest so_far.rises spares.2);
      owned = still_owned g.K.Ord.cmp c.take_room-at.new.blocks.items c.write-added.new.blocks.items rest c.write-added.ensures.owned (still_owned g.K.Ord.cmp c.loop-key.blocks.items c.take_room-at.new.blocks.items rest c.take_room-at.ensures.owned owned.1);
      room = omega (arith, given.1);
      done = rw written (rw given.0 at so_far.done);
      counted = omega (arith, kept, c.write-added.ensures.counted, so_far.counted);
      few = omega (arith, given.1, c.write-added.ensures.few);
    }
