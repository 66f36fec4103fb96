use Rattle.std.proofs.Common.{◌∙◌}
use Rattle.fm_net.proofs.Copied.{both_plain, slots_same, entries_same, kept_same, shown_same}
use Rattle.fm_net.proofs.slab_map.SlabMap.copy.Goals as goal

pub invariant_of-result : goal.invariant_of-result
invariant_of-result g c =
    let slots = slots_same _ (both_plain g.K.Clone.is_clone g.V.Clone.is_clone c.requires.key c.requires.value) c.self.inside.cells c.in_ok-cells.cells c.in_ok-cells.ensures.cases in
    let is = entries_same g.K.Clone.is_clone _ c.requires.key (λ x y h. h) c.self.inside.places.entries c.in_ok-places.places.entries c.in_ok-places.ensures.cases in
    kept_same g.K.Ord.cmp c.self.inside.cells c.in_ok-cells.cells c.self.inside.places.entries c.in_ok-places.places.entries slots is c.self.invariant

pub returns : goal.returns
returns g c =
    let slots = slots_same _ (both_plain g.K.Clone.is_clone g.V.Clone.is_clone c.requires.key c.requires.value) c.self.inside.cells c.in_ok-cells.cells c.in_ok-cells.ensures.cases in
    let is = entries_same g.K.Clone.is_clone _ c.requires.key (λ x y h. h) c.self.inside.places.entries c.in_ok-places.places.entries c.in_ok-places.ensures.cases in
    shown_same g.K.Ord.cmp c.self.inside.cells c.in_ok-cells.cells c.self.inside.places.entries c.in_ok-places.places.entries slots is ∙ c.self.view_is
