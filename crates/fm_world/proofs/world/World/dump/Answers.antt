use Rattle.std.proofs.Common.{◌≡◌, ◌==◌, Some, List, position, refl, sym, ap, ◌∙◌, subst}
use Rattle.std.proofs.lemmas.List.Quantifiers.{position-Some}
use Rattle.fm_coord.specs.States.{State}
use Rattle.fm_world.specs.Represents.{Kept, IsReached, state_of, number_of, state_with}
use Rattle.fm_world.proofs.Places.{found_at, missing, same_states}
use Rattle.fm_world.proofs.Reached.{reached_still}
use Rattle.fm_world.proofs.Runs.{dumped, at_none, at_some, on_err, if_err}
use Rattle.fm_world.proofs.world.World.dump.Goals as goal

pub returns-in-None-clause-err : goal.returns-in-None-clause-err
returns-in-None-clause-err g c =
    let none = missing c.self.inside.coordinators.items c.args.number (c.in-None.ensures ∙ (λ i. position (λ d. number_of d == c.value.ensures.number i) (c.as_slice.ensures.value i))) in
    at_none _ _ (state_with c.args.self.now.coordinators c.args.number) (ap (λ (l : Kept). state_with l.coordinators c.args.number) (sym c.self.view_is) ∙ none) refl

pub returns-in-None-clause-cause : goal.returns-in-None-clause-cause
returns-in-None-clause-cause g c =
    let none = missing c.self.inside.coordinators.items c.args.number (c.in-None.ensures ∙ (λ i. position (λ d. number_of d == c.value.ensures.number i) (c.as_slice.ensures.value i))) in
    at_none _ _ (state_with c.args.self.now.coordinators c.args.number) (ap (λ (l : Kept). state_with l.coordinators c.args.number) (sym c.self.view_is) ∙ none) refl

pub returns-in-Some-clause-ok : goal.returns-in-Some-clause-ok
returns-in-Some-clause-ok g c = λ w h.
    let old = c.index_mut.result.now in
    let there : state_with c.args.self.now.coordinators c.args.number ≡ Some old.state = ap
    (λ (l : Kept). state_with l.coordinators c.args.number) (sym c.self.view_is) ∙ found_at c.self.inside.coordinators.items
    c.args.number c.in-Some.place old
    (c.in-Some.ensures ∙ (λ i. position (λ d. number_of d == c.value.ensures.number i) (c.as_slice.ensures.value i)))
    c.index_mut.ensures.value in
    dumped c.args.self.now w h c.args.number old.state there _ _ c.dump.result c.dump.ensures.ok

pub returns-in-Some-clause-err : goal.returns-in-Some-clause-err
returns-in-Some-clause-err g c =
    let old = c.index_mut.result.now in
    let there : state_with c.args.self.now.coordinators c.args.number ≡ Some old.state = ap
    (λ (l : Kept). state_with l.coordinators c.args.number) (sym c.self.view_is) ∙ found_at c.self.inside.coordinators.items
    c.args.number c.in-Some.place old
    (c.in-Some.ensures ∙ (λ i. position (λ d. number_of d == c.value.ensures.number i) (c.as_slice.ensures.value i)))
    c.index_mut.ensures.value in
    on_err c.dump.result (at_some _ _ (state_with c.args.self.now.coordinators c.args.number) old.state there) c.dump.ensures.err

pub returns-in-Some-clause-cause : goal.returns-in-Some-clause-cause
returns-in-Some-clause-cause g c =
    let old = c.index_mut.result.now in
    let there : state_with c.args.self.now.coordinators c.args.number ≡ Some old.state = ap
    (λ (l : Kept). state_with l.coordinators c.args.number) (sym c.self.view_is) ∙ found_at c.self.inside.coordinators.items
    c.args.number c.in-Some.place old
    (c.in-Some.ensures ∙ (λ i. position (λ d. number_of d == c.value.ensures.number i) (c.as_slice.ensures.value i)))
    c.index_mut.ensures.value in
    if_err c.dump.result (λ e stop. at_some _ _ (state_with c.args.self.now.coordinators c.args.number) old.state there stop) c.dump.ensures.cause

pub returns-in-Some-clause-same : goal.returns-in-Some-clause-same
returns-in-Some-clause-same g c =
    let old = c.index_mut.result.now in
    let cs = c.self.inside.coordinators.items in
    let at = c.in-Some.ensures ∙ (λ i. position (λ d. number_of d == c.value.ensures.number i) (c.as_slice.ensures.value i)) in
    let place = position-Some (λ d. number_of d == c.args.number) cs c.in-Some.place old (sym at) in
    let states = same_states cs c.in-Some.place old c.dump.new.self place.0 (c.dump.ensures.state ∙ ap state_of c.index_mut.ensures.value) in
    ap (λ (ss : List State). record { coordinators = ss; packets = c.self.inside.packets.items }) states ∙ c.self.view_is

pub invariant_of-self : goal.invariant_of-self
invariant_of-self g c =
    let old = c.index_mut.result.now in
    let cs = c.self.inside.coordinators.items in
    let at = c.in-Some.ensures ∙ (λ i. position (λ d. number_of d == c.value.ensures.number i) (c.as_slice.ensures.value i)) in
    let place = position-Some (λ d. number_of d == c.args.number) cs c.in-Some.place old (sym at) in
    let states = same_states cs c.in-Some.place old c.dump.new.self place.0 (c.dump.ensures.state ∙ ap state_of c.index_mut.ensures.value) in
    reached_still c.args.self.now _ (ap (λ (ss : List State). record { coordinators = ss; packets = c.self.inside.packets.items }) states ∙ c.self.view_is) (subst IsReached c.self.view_is c.self.invariant)
