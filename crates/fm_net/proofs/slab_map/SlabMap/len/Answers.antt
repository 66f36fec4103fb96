use Rattle.std.proofs.Common.{sym, ap, ◌∙◌, length}
use Rattle.slab.specs.Slab.{get}
use Rattle.fm_net.proofs.Shown.{length_shown}
use Rattle.fm_net.proofs.slab_map.SlabMap.len.Goals as goal

pub returns-clause-len : goal.returns-clause-len
returns-clause-len g c =
    c.len.ensures.len
    ∙ sym (length_shown g.K.Ord.cmp g.met.K.Ord.total (get c.self.inside.cells) c.self.inside.places.entries c.self.invariant.indexed.cells)
    ∙ ap length c.self.view_is
