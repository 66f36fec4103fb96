use Rattle.std.proofs.Common.{◌<◌, ◌^◌, sym, ap, ◌∙◌, length, subst}
use Rattle.slab.specs.Slab.{get}
use Rattle.fm_net.proofs.Shown.{length_shown}
use Rattle.fm_net.proofs.slab_map.SlabMap.iter.Goals as goal

pub returns-clause-fits : goal.returns-clause-fits
returns-clause-fits g c =
    subst (λ n. n < 2 ^ 63)
    (sym (length_shown g.K.Ord.cmp g.met.K.Ord.total (get c.self.inside.cells) c.self.inside.places.entries c.self.invariant.indexed.cells) ∙ ap length c.self.view_is)
    c.iter.ensures.fits
