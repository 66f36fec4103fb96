use Rattle.std.proofs.Common.{◌==◌, position, ap, ◌∙◌, subst, ℕ, Result, Err}
use Rattle.std.specs.Option.{IfSome}
use Rattle.fm_records.specs.declared.refusal.Refusal.{Refusal}
use Rattle.fm_records.specs.declared.refusal.Refusal.TheVariants.{NoCoordinator}
use Rattle.fm_coord.specs.declared.entry.Call.TheVariants as call
use Rattle.fm_coord.specs.Causes.{refusal_for}
use Rattle.fm_coord.specs.Decisions.{IsDecidedBy}
use Rattle.fm_coord.proofs.StepLaws.{same_bounds}
use Rattle.fm_world.specs.declared.step.Act.TheVariants as act
use Rattle.fm_world.specs.Represents.{number_of, IsReached}
use Rattle.fm_world.proofs.Reached.{reached_by}
use Rattle.fm_world.proofs.Acts.{by_cause}
use Rattle.fm_world.proofs.Steps.{nobody, committed_acted, named, refuses, same_state, still, stands_on, accepts, stays}
use Rattle.fm_world.proofs.world.World.accept.Goals as goal

pub returns-in-None-clause-err : goal.returns-in-None-clause-err
returns-in-None-clause-err g c =
    nobody c.self.inside.coordinators.items c.self.inside.packets.items (record { at = c.args.at; by = c.args.by; act = act.Commit c.args.decision.plan })
    (c.in-None.ensures ∙ ap (position (λ d. number_of d == c.args.at)) c.as_slice.ensures.value) c.args.self.now c.self.view_is

pub returns-in-Some-clause-stands : goal.returns-in-Some-clause-stands
returns-in-Some-clause-stands g c =
    stands_on c.self.inside.coordinators.items c.self.inside.packets.items (record { at = c.args.at; by = c.args.by; act = act.Commit c.args.decision.plan }) c.in-Some.place c.index_mut.result.now c.accept.new.self
    (c.in-Some.ensures ∙ ap (position (λ d. number_of d == c.args.at)) c.as_slice.ensures.value) c.index_mut.ensures.value c.args.self.now c.self.view_is c.accept.result c.self.inside.packets.items
    (λ r sent st is. committed_acted c.accept.new.self.state r sent c.self.inside.packets.items c.args.by c.args.decision.plan c.accept.result is (c.accept.ensures.event r st))

pub returns-in-Some-clause-accepted : goal.returns-in-Some-clause-accepted
returns-in-Some-clause-accepted g c =
    accepts c.self.inside.coordinators.items c.self.inside.packets.items (record { at = c.args.at; by = c.args.by; act = act.Commit c.args.decision.plan }) c.in-Some.place c.index_mut.result.now c.accept.new.self
    (c.in-Some.ensures ∙ ap (position (λ d. number_of d == c.args.at)) c.as_slice.ensures.value) c.index_mut.ensures.value c.args.self.now c.self.view_is c.accept.result c.self.inside.packets.items
    (λ r sent st is. committed_acted c.accept.new.self.state r sent c.self.inside.packets.items c.args.by c.args.decision.plan c.accept.result is (c.accept.ensures.event r st))

pub returns-in-Some-clause-err : goal.returns-in-Some-clause-err
returns-in-Some-clause-err g c = λ w h.
    refuses c.self.inside.coordinators.items c.self.inside.packets.items (record { at = c.args.at; by = c.args.by; act = act.Commit c.args.decision.plan }) c.in-Some.place c.index_mut.result.now c.accept.new.self
    (c.in-Some.ensures ∙ ap (position (λ d. number_of d == c.args.at)) c.as_slice.ensures.value) c.index_mut.ensures.value c.args.self.now c.self.view_is c.accept.result w h (λ r sent st is. by_cause c.accept.result _ _ (ap (λ b. refusal_for b (call.Commit c.args.decision.plan)) (same_bounds _ r st)) c.accept.ensures.err)

pub returns-in-Some-clause-unchanged : goal.returns-in-Some-clause-unchanged
returns-in-Some-clause-unchanged g c =
    stays c.self.inside.coordinators.items c.self.inside.packets.items (record { at = c.args.at; by = c.args.by; act = act.Commit c.args.decision.plan }) c.in-Some.place c.index_mut.result.now c.accept.new.self
    (c.in-Some.ensures ∙ ap (position (λ d. number_of d == c.args.at)) c.as_slice.ensures.value) c.index_mut.ensures.value c.args.self.now c.self.view_is c.accept.result c.self.inside.packets.items (same_state _ _ c.accept.result c.accept.ensures.unchanged) (still _ c.accept.result)

pub invariant_of-self : goal.invariant_of-self
invariant_of-self g c =
    reached_by c.accept.result c.args.self.now _ (record { at = c.args.at; by = c.args.by; act = act.Commit c.args.decision.plan }) (subst IsReached c.self.view_is c.self.invariant)
    (stands_on c.self.inside.coordinators.items c.self.inside.packets.items (record { at = c.args.at; by = c.args.by; act = act.Commit c.args.decision.plan }) c.in-Some.place c.index_mut.result.now c.accept.new.self
    (c.in-Some.ensures ∙ ap (position (λ d. number_of d == c.args.at)) c.as_slice.ensures.value) c.index_mut.ensures.value c.args.self.now c.self.view_is c.accept.result c.self.inside.packets.items
    (λ r sent st is. committed_acted c.accept.new.self.state r sent c.self.inside.packets.items c.args.by c.args.decision.plan c.accept.result is (c.accept.ensures.event r st)))
    (accepts c.self.inside.coordinators.items c.self.inside.packets.items (record { at = c.args.at; by = c.args.by; act = act.Commit c.args.decision.plan }) c.in-Some.place c.index_mut.result.now c.accept.new.self
    (c.in-Some.ensures ∙ ap (position (λ d. number_of d == c.args.at)) c.as_slice.ensures.value) c.index_mut.ensures.value c.args.self.now c.self.view_is c.accept.result c.self.inside.packets.items
    (λ r sent st is. committed_acted c.accept.new.self.state r sent c.self.inside.packets.items c.args.by c.args.decision.plan c.accept.result is (c.accept.ensures.event r st)))
    (stays c.self.inside.coordinators.items c.self.inside.packets.items (record { at = c.args.at; by = c.args.by; act = act.Commit c.args.decision.plan }) c.in-Some.place c.index_mut.result.now c.accept.new.self
    (c.in-Some.ensures ∙ ap (position (λ d. number_of d == c.args.at)) c.as_slice.ensures.value) c.index_mut.ensures.value c.args.self.now c.self.view_is c.accept.result c.self.inside.packets.items (same_state _ _ c.accept.result c.accept.ensures.unchanged) (still _ c.accept.result))

pub accept-requires : goal.accept-requires
accept-requires g c =
    let none : Result ℕ Refusal = Err NoCoordinator in
    subst (λ o. IfSome o (λ s. IsDecidedBy s c.args.decision))
    (named c.self.inside.coordinators.items c.self.inside.packets.items (record { at = c.args.at; by = c.args.by; act = act.Commit c.args.decision.plan }) c.in-Some.place c.index_mut.result.now c.index_mut.result.now
    (c.in-Some.ensures ∙ ap (position (λ d. number_of d == c.args.at)) c.as_slice.ensures.value) c.index_mut.ensures.value c.args.self.now c.self.view_is none)
    c.requires
