use Rattle.std.proofs.Common.{◌∙◌, ap, take, add-one}
use Rattle.fm_lattice.specs.Maps.{put, keep_new}
use Rattle.fm_lattice.proofs.Taken.{put_next}
use Rattle.fm_net.proofs.hybrid_map.cells_of.Goals as goal

pub loop-key-preserved : goal.loop-key-preserved
loop-key-preserved g c =
    let pair = c.loop-key-item.result in
    let next = put_next g.K.Ord.cmp g.met.K.Ord.total g.met.K.Chain.same keep_new c.args.pairs.now c.loop-key.key-index pair c.requires c.loop-key-test.true in
    rw add-one (c.in_ok-put.ensures.ok
    ∙ ap (put g.K.Ord.cmp keep_new pair.0 pair.1) c.loop-key.invariant
    ∙ ap (λ p. put g.K.Ord.cmp keep_new p.0 p.1 (take c.loop-key.key-index c.args.pairs.now)) c.loop-key-item.is
    ∙ next)
