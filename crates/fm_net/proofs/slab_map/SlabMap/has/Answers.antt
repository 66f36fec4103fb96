use Rattle.std.proofs.Common.{is_some, ap, ◌∙◌}
use Rattle.slab.specs.Slab.{get}
use Rattle.fm_lattice.specs.Maps.{lookup}
use Rattle.fm_net.proofs.Shown.{is_shown}
use Rattle.fm_net.proofs.slab_map.SlabMap.has.Goals as goal

pub returns : goal.returns
returns g c =
    c.contains_key.ensures
    ∙ is_shown g.K.Ord.cmp g.met.K.Ord.total (get c.self.inside.cells) c.args.key.now c.self.inside.places.entries c.self.invariant.indexed.cells
    ∙ ap (λ es. is_some (lookup g.K.Ord.cmp c.args.key.now es)) c.self.view_is
