use Rattle.std.proofs.Common.{◌≡◌, ◌==◌, position, ap, ◌∙◌, subst, ℕ, Result, Err}
use Rattle.std.specs.Option.{IfSome}
use Rattle.fm_records.specs.declared.refusal.Refusal.{Refusal}
use Rattle.fm_records.specs.declared.refusal.Refusal.TheVariants.{NoCoordinator}
use Rattle.fm_coord.specs.declared.entry.Call.TheVariants as call
use Rattle.fm_coord.specs.Causes.{refusal_for}
use Rattle.fm_coord.specs.States.{cut_packet}
use Rattle.fm_coord.proofs.StepLaws.{same_bounds}
use Rattle.fm_world.specs.declared.step.Act.TheVariants as act
use Rattle.fm_world.specs.Represents.{number_of, IsReached}
use Rattle.fm_world.proofs.Reached.{reached_by}
use Rattle.fm_world.proofs.Acts.{by_cause}
use Rattle.fm_world.proofs.Steps.{nobody, named, refuses, stands_on, accepts, stays}
use Rattle.fm_world.proofs.world.World.give.Goals as goal

pub returns-in-None-clause-err : goal.returns-in-None-clause-err
returns-in-None-clause-err g c =
    nobody c.self.inside.coordinators.items c.self.inside.packets.items (record { at = c.args.at; by = c.args.by; act = act.Cut c.args.range }) (c.in-None.ensures ∙ ap (position (λ d. number_of d == c.args.at)) c.as_slice.ensures.value) c.args.self.now c.self.view_is

pub returns-in-Some-clause-stands : goal.returns-in-Some-clause-stands
returns-in-Some-clause-stands g c =
    stands_on c.self.inside.coordinators.items c.self.inside.packets.items (record { at = c.args.at; by = c.args.by; act = act.Cut c.args.range }) c.in-Some.place c.index_mut.result.now c.give_at.new.coordinator
    (c.in-Some.ensures ∙ ap (position (λ d. number_of d == c.args.at)) c.as_slice.ensures.value) c.index_mut.ensures.value c.args.self.now c.self.view_is c.give_at.result c.give_at.new.packets.items c.give_at.ensures.acted

pub returns-in-Some-clause-accepted : goal.returns-in-Some-clause-accepted
returns-in-Some-clause-accepted g c =
    accepts c.self.inside.coordinators.items c.self.inside.packets.items (record { at = c.args.at; by = c.args.by; act = act.Cut c.args.range }) c.in-Some.place c.index_mut.result.now c.give_at.new.coordinator
    (c.in-Some.ensures ∙ ap (position (λ d. number_of d == c.args.at)) c.as_slice.ensures.value) c.index_mut.ensures.value c.args.self.now c.self.view_is c.give_at.result c.give_at.new.packets.items c.give_at.ensures.acted

pub returns-in-Some-clause-err : goal.returns-in-Some-clause-err
returns-in-Some-clause-err g c = λ w h.
    refuses c.self.inside.coordinators.items c.self.inside.packets.items (record { at = c.args.at; by = c.args.by; act = act.Cut c.args.range }) c.in-Some.place c.index_mut.result.now c.give_at.new.coordinator
    (c.in-Some.ensures ∙ ap (position (λ d. number_of d == c.args.at)) c.as_slice.ensures.value) c.index_mut.ensures.value c.args.self.now c.self.view_is c.give_at.result w h
    (λ r sent st is. by_cause c.give_at.result _ _ (ap (λ b. refusal_for b (call.Cut c.args.range)) (same_bounds _ r st)) c.give_at.ensures.err)

pub returns-in-Some-clause-unchanged : goal.returns-in-Some-clause-unchanged
returns-in-Some-clause-unchanged g c =
    stays c.self.inside.coordinators.items c.self.inside.packets.items (record { at = c.args.at; by = c.args.by; act = act.Cut c.args.range }) c.in-Some.place c.index_mut.result.now c.give_at.new.coordinator
    (c.in-Some.ensures ∙ ap (position (λ d. number_of d == c.args.at)) c.as_slice.ensures.value) c.index_mut.ensures.value c.args.self.now c.self.view_is c.give_at.result c.give_at.new.packets.items c.give_at.ensures.same_state c.give_at.ensures.same_packets

pub invariant_of-self : goal.invariant_of-self
invariant_of-self g c =
    reached_by c.give_at.result c.args.self.now _ (record { at = c.args.at; by = c.args.by; act = act.Cut c.args.range }) (subst IsReached c.self.view_is c.self.invariant)
    (stands_on c.self.inside.coordinators.items c.self.inside.packets.items (record { at = c.args.at; by = c.args.by; act = act.Cut c.args.range }) c.in-Some.place c.index_mut.result.now c.give_at.new.coordinator
    (c.in-Some.ensures ∙ ap (position (λ d. number_of d == c.args.at)) c.as_slice.ensures.value) c.index_mut.ensures.value c.args.self.now c.self.view_is c.give_at.result c.give_at.new.packets.items c.give_at.ensures.acted)
    (accepts c.self.inside.coordinators.items c.self.inside.packets.items (record { at = c.args.at; by = c.args.by; act = act.Cut c.args.range }) c.in-Some.place c.index_mut.result.now c.give_at.new.coordinator
    (c.in-Some.ensures ∙ ap (position (λ d. number_of d == c.args.at)) c.as_slice.ensures.value) c.index_mut.ensures.value c.args.self.now c.self.view_is c.give_at.result c.give_at.new.packets.items c.give_at.ensures.acted)
    (stays c.self.inside.coordinators.items c.self.inside.packets.items (record { at = c.args.at; by = c.args.by; act = act.Cut c.args.range }) c.in-Some.place c.index_mut.result.now c.give_at.new.coordinator
    (c.in-Some.ensures ∙ ap (position (λ d. number_of d == c.args.at)) c.as_slice.ensures.value) c.index_mut.ensures.value c.args.self.now c.self.view_is c.give_at.result c.give_at.new.packets.items c.give_at.ensures.same_state c.give_at.ensures.same_packets)

pub give_at-requires : goal.give_at-requires
give_at-requires g c =
    let none : Result ℕ Refusal = Err NoCoordinator in
    subst (λ o. IfSome o (λ s. c.args.packet ≡ cut_packet s c.args.range))
    (named c.self.inside.coordinators.items c.self.inside.packets.items (record { at = c.args.at; by = c.args.by; act = act.Cut c.args.range }) c.in-Some.place c.index_mut.result.now c.index_mut.result.now
    (c.in-Some.ensures ∙ ap (position (λ d. number_of d == c.args.at)) c.as_slice.ensures.value) c.index_mut.ensures.value c.args.self.now c.self.view_is none)
    c.requires
