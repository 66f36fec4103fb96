use Rattle.std.proofs.Common.{◌==◌, position, sym, ap, ◌∙◌}
use Rattle.fm_world.specs.Represents.{Kept, number_of, state_with}
use Rattle.fm_world.proofs.Places.{found_at, missing}
use Rattle.fm_world.proofs.world.World.numbered.Goals as goal

pub returns-in-None : goal.returns-in-None
returns-in-None g c =
    let none = missing c.self.inside.coordinators.items c.args.number (c.in-None.ensures ∙ ap (position (λ d. number_of d == c.args.number)) c.as_slice.ensures.value) in
    sym (ap (λ (l : Kept). state_with l.coordinators c.args.number) (sym c.self.view_is) ∙ none)

pub returns-in-Some : goal.returns-in-Some
returns-in-Some g c =
    let there = found_at c.self.inside.coordinators.items c.args.number c.in-Some.place c.index.result.now (c.in-Some.ensures ∙ ap (position (λ d. number_of d == c.args.number)) c.as_slice.ensures.value) c.index.ensures in
    sym (ap (λ (l : Kept). state_with l.coordinators c.args.number) (sym c.self.view_is) ∙ there)
