use Rattle.std.proofs.Common.{sym, ap, ◌∙◌}
use Rattle.slab.specs.Slab.{get}
use Rattle.fm_lattice.specs.Maps.{lookup}
use Rattle.fm_net.proofs.Shown.{stands, value_stands, nothing_stands}
use Rattle.fm_net.proofs.slab_map.SlabMap.get.Goals as goal

pub index-requires : goal.index-requires
index-requires g c = stands g.K.Ord.cmp g.met.K.Ord.total (get c.self.inside.cells) (get c.self.inside.cells) c.in-Some.place.now c.args.key.now c.self.inside.places.entries c.self.inside.places.entries c.self.invariant.indexed (sym c.in-Some.ensures.value)

pub returns-in-Some : goal.returns-in-Some
returns-in-Some g c =
    value_stands g.K.Ord.cmp g.met.K.Ord.total (get c.self.inside.cells) (get c.self.inside.cells) c.in-Some.place.now c.args.key.now c.self.inside.places.entries c.self.inside.places.entries c.self.invariant.indexed (sym c.in-Some.ensures.value) c.index.result.now c.index.ensures
    ∙ ap (lookup g.K.Ord.cmp c.args.key.now) c.self.view_is

pub returns-in-None : goal.returns-in-None
returns-in-None g c =
    nothing_stands g.K.Ord.cmp g.met.K.Ord.total (get c.self.inside.cells) c.args.key.now c.self.inside.places.entries c.self.invariant.indexed (sym c.in-None.ensures.value)
    ∙ ap (lookup g.K.Ord.cmp c.args.key.now) c.self.view_is
