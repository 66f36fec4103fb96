use Rattle.std.proofs.Common.{◌==◌, position, ap, ◌∙◌, subst}
use Rattle.fm_world.specs.Represents.{number_of, IsReached}
use Rattle.fm_world.proofs.Reached.{reached_by}
use Rattle.fm_world.proofs.Steps.{nobody, named, refuses, shows, stands_on, accepts, stays}
use Rattle.fm_world.proofs.world.World.step.Goals as goal

pub returns-in-None-clause-err : goal.returns-in-None-clause-err
returns-in-None-clause-err g c =
    nobody c.self.inside.coordinators.items c.self.inside.packets.items c.args.step.now (c.in-None.ensures ∙ ap (position (λ d. number_of d == c.args.step.now.at)) c.as_slice.ensures.value) c.args.self.now c.self.view_is

pub returns-in-Some-clause-stands : goal.returns-in-Some-clause-stands
returns-in-Some-clause-stands g c =
    stands_on c.self.inside.coordinators.items c.self.inside.packets.items c.args.step.now c.in-Some.place c.index_mut.result.now c.act_at.new.coordinator
    (c.in-Some.ensures ∙ ap (position (λ d. number_of d == c.args.step.now.at)) c.as_slice.ensures.value) c.index_mut.ensures.value c.args.self.now c.self.view_is c.act_at.result c.act_at.new.packets.items c.act_at.ensures.acted

pub returns-in-Some-clause-accepted : goal.returns-in-Some-clause-accepted
returns-in-Some-clause-accepted g c =
    accepts c.self.inside.coordinators.items c.self.inside.packets.items c.args.step.now c.in-Some.place c.index_mut.result.now c.act_at.new.coordinator
    (c.in-Some.ensures ∙ ap (position (λ d. number_of d == c.args.step.now.at)) c.as_slice.ensures.value) c.index_mut.ensures.value c.args.self.now c.self.view_is c.act_at.result c.act_at.new.packets.items c.act_at.ensures.acted

pub returns-in-Some-clause-view : goal.returns-in-Some-clause-view
returns-in-Some-clause-view g c =
    shows _ _ c.args.step.now.act c.act_at.result
    (named c.self.inside.coordinators.items c.self.inside.packets.items c.args.step.now c.in-Some.place c.index_mut.result.now c.act_at.new.coordinator
    (c.in-Some.ensures ∙ ap (position (λ d. number_of d == c.args.step.now.at)) c.as_slice.ensures.value) c.index_mut.ensures.value c.args.self.now c.self.view_is c.act_at.result)
    c.act_at.ensures.view

pub returns-in-Some-clause-err : goal.returns-in-Some-clause-err
returns-in-Some-clause-err g c = λ w h.
    refuses c.self.inside.coordinators.items c.self.inside.packets.items c.args.step.now c.in-Some.place c.index_mut.result.now c.act_at.new.coordinator
    (c.in-Some.ensures ∙ ap (position (λ d. number_of d == c.args.step.now.at)) c.as_slice.ensures.value) c.index_mut.ensures.value c.args.self.now c.self.view_is c.act_at.result w h c.act_at.ensures.err

pub returns-in-Some-clause-unchanged : goal.returns-in-Some-clause-unchanged
returns-in-Some-clause-unchanged g c =
    stays c.self.inside.coordinators.items c.self.inside.packets.items c.args.step.now c.in-Some.place c.index_mut.result.now c.act_at.new.coordinator
    (c.in-Some.ensures ∙ ap (position (λ d. number_of d == c.args.step.now.at)) c.as_slice.ensures.value) c.index_mut.ensures.value c.args.self.now c.self.view_is c.act_at.result c.act_at.new.packets.items c.act_at.ensures.same_state c.act_at.ensures.same_packets

pub invariant_of-self : goal.invariant_of-self
invariant_of-self g c =
    reached_by c.act_at.result c.args.self.now _ c.args.step.now (subst IsReached c.self.view_is c.self.invariant)
    (stands_on c.self.inside.coordinators.items c.self.inside.packets.items c.args.step.now c.in-Some.place c.index_mut.result.now c.act_at.new.coordinator
    (c.in-Some.ensures ∙ ap (position (λ d. number_of d == c.args.step.now.at)) c.as_slice.ensures.value) c.index_mut.ensures.value c.args.self.now c.self.view_is c.act_at.result c.act_at.new.packets.items c.act_at.ensures.acted)
    (accepts c.self.inside.coordinators.items c.self.inside.packets.items c.args.step.now c.in-Some.place c.index_mut.result.now c.act_at.new.coordinator
    (c.in-Some.ensures ∙ ap (position (λ d. number_of d == c.args.step.now.at)) c.as_slice.ensures.value) c.index_mut.ensures.value c.args.self.now c.self.view_is c.act_at.result c.act_at.new.packets.items c.act_at.ensures.acted)
    (stays c.self.inside.coordinators.items c.self.inside.packets.items c.args.step.now c.in-Some.place c.index_mut.result.now c.act_at.new.coordinator
    (c.in-Some.ensures ∙ ap (position (λ d. number_of d == c.args.step.now.at)) c.as_slice.ensures.value) c.index_mut.ensures.value c.args.self.now c.self.view_is c.act_at.result c.act_at.new.packets.items c.act_at.ensures.same_state c.act_at.ensures.same_packets)
