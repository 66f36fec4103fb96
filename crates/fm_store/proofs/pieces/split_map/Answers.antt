use Rattle.std.proofs.Common.{ap, ◌∙◌, arith}
use Rattle.fm_lattice.specs.Maps.{put}
use Rattle.fm_store.proofs.Halving.{next_in_front, next_behind}
use Rattle.fm_store.proofs.pieces.split_map.Goals as goal

pub loop-key-preserved-in_ok-put : goal.loop-key-preserved-in_ok-put
loop-key-preserved-in_ok-put g c =
    let new = c.in_ok-put.ensures.ok ∙ ap (λ v. put g.K.Ord.cmp g.V.Join.join c.in-Some.key.now v c.loop-key.front) c.in_ok-copied.ensures in
    next_in_front g.K.Ord.cmp g.met.K.Ord.total g.V.Join.join c.args.count c.args.map.now c.loop-key.front c.loop-key.behind c.loop-key.key-iterator c.next.new.self c.put.new.self (c.in-Some.key.now, c.in-Some.value.now)
    c.iter-key-items.ensures.map.rising c.loop-key.invariant c.in-Some.ensures.steps (omega arith) new

pub loop-key-preserved : goal.loop-key-preserved
loop-key-preserved g c =
    let new = c.in_ok-put-2.ensures.ok ∙ ap (λ v. put g.K.Ord.cmp g.V.Join.join c.in-Some.key.now v c.loop-key.behind) c.in_ok-copied-2.ensures in
    next_behind g.K.Ord.cmp g.met.K.Ord.total g.V.Join.join c.args.count c.args.map.now c.loop-key.front c.loop-key.behind c.loop-key.key-iterator c.next.new.self c.put-else-len-count.new.self (c.in-Some.key.now, c.in-Some.value.now)
    c.iter-key-items.ensures.map.rising c.loop-key.invariant c.in-Some.ensures.steps (omega arith) new
