-- A step of a world that stands for a world of sets.
use Rattle.std.proofs.Common.{◌≡◌, ◌==◌, ℕ, List, [], Option, Some, None, Result, Ok, Err, length, map, get_or, slice_set, position, refl, sym, ap, ◌∙◌, subst}
use Rattle.std.specs.Result.{IfOk, IfErr, OnOk, OnErr}
use Rattle.std.proofs.lemmas.List.{append-nil}
use Rattle.std.proofs.lemmas.List.Quantifiers.{position-Some}
use Rattle.fm_records.specs.declared.refusal.Refusal.{Refusal}
use Rattle.fm_records.specs.declared.refusal.Refusal.TheVariants.{OutOfMemory, NoCoordinator}
use Rattle.fm_records.specs.Options.{or_else}
use Rattle.fm_delta.specs.declared.packet.Packet.{Packet}
use Rattle.fm_net.specs.Network.{net_of}
use Rattle.fm_round.specs.declared.plan.Plan.{Plan}
use Rattle.fm_round.specs.declared.plan.Admitted.{Admitted}
use Rattle.fm_coord.specs.declared.entry.Reply.TheVariants as reply
use Rattle.fm_coord.specs.declared.view.View.{View}
use Rattle.fm_coord.specs.declared.view.TallyView.{TallyView}
use Rattle.fm_coord.specs.Events.{Sent, Replica, opening}
use Rattle.fm_coord.specs.Events as event
use Rattle.fm_coord.specs.Replays.{seen_packet, replay}
use Rattle.fm_coord.specs.States.{State, WithKeeper, Represents, IsEventAt, IsCoordinator}
use Rattle.fm_world.specs.declared.step.Act.{Act}
use Rattle.fm_world.specs.declared.step.Act.TheVariants as act
use Rattle.fm_world.specs.declared.step.Step.{Step}
use Rattle.fm_world.specs.Worlds.{WorldOfSets, with_number, event_asked, after_maybe, cause_here, cause_at, cause_of, refusal_of, sent_at, step_of}
use Rattle.fm_world.specs.Represents.{Kept, state_of, number_of, WorldRepresents, state_with, view_shown}
use Rattle.fm_world.specs.inner.ActedWorld.{IsActed}
use Rattle.fm_world.proofs.Acts.{by_cause}
use Rattle.fm_world.proofs.Places.{Stood, stood, absent, put_back, same_states, found_at, missing}

-- a coordinator to which nothing happened stands for a replica to which nothing happened
pub unused : (s : State) → IsCoordinator s → s.history ≡ [] → Represents s (opening s.number s.limit)
unused s is none = subst (λ es. Represents s (replay (opening s.number s.limit) es)) none is.stands

abbrev kept : {N : Type 0} → List (WithKeeper N) → List Packet → Kept
kept cs ps = record { coordinators = map state_of cs; packets = ps }

-- if no coordinator has the number
pub nobody : {N : Type 0} (cs : List (WithKeeper N)) (ps : List Packet) (step : Step) → None ≡ position (λ c. number_of c == step.at) cs → (k : Kept) → kept cs ps ≡ k → (w : WorldOfSets) → WorldRepresents k w → NoCoordinator ≡ refusal_of w step
nobody cs ps step none k whole w h =
    let stands : WorldRepresents (kept cs ps) w = subst (λ (l : Kept). WorldRepresents l w) (sym whole) h in
    ap (λ o. or_else OutOfMemory (cause_at o (event_asked w.packets step.act)))
    (sym (absent step.at (map state_of cs) w.replicas stands.coordinators (missing cs step.at none)))

module _ {N T : Type 0} (cs : List (WithKeeper N)) (ps : List Packet) (step : Step) (i : ℕ) (old new : WithKeeper N) (at : Some i ≡ position (λ c. number_of c == step.at) cs) (is : old ≡ get_or cs i old) (k : Kept) (whole : kept cs ps ≡ k) (result : Result T Refusal) where
  here : state_with (map state_of cs) step.at ≡ Some old.state
  here = found_at cs step.at i old at is

  module _ (w : WorldOfSets) (h : WorldRepresents k w) where
    stands : WorldRepresents (kept cs ps) w
    stands = subst (λ (l : Kept). WorldRepresents l w) (sym whole) h

    one : Stood (with_number w.replicas step.at) old.state
    one = stood step.at (map state_of cs) w.replicas stands.coordinators old.state here

    pub refuses : ((r : Replica) (sent : List Sent) → Represents old.state r → ps ≡ map seen_packet sent → IfErr result (λ refusal. refusal ≡ or_else OutOfMemory (cause_here r (event_asked sent step.act)))) → IfErr result (λ refusal. refusal ≡ refusal_of w step)
    refuses err =
        by_cause result _ _ (ap (λ o. or_else OutOfMemory (cause_at o (event_asked w.packets step.act))) (sym one.at))
        (err one.replica w.packets one.stands stands.packets)

  -- the coordinator that the number names
  pub named : state_with k.coordinators step.at ≡ Some old.state
  named = ap (λ (l : Kept). state_with l.coordinators step.at) (sym whole) ∙ here

  module _ (new_ps : List Packet) where
    after_it : (w : WorldOfSets) (h : WorldRepresents k w) → IsActed new.state new_ps (one w h).replica w.packets step.by step.act → WorldRepresents (kept (slice_set cs i new) new_ps) (step_of w step)
    after_it w h a =
        let place = position-Some (λ c. number_of c == step.at) cs i old (sym at) in
        let event = event_asked w.packets step.act in
        record {
          coordinators =
              put_back step.at cs w.replicas i old new (after_maybe step.by event) (stands w h).coordinators place.0 place.1 place.2
              (λ r there. let same : (one w h).replica ≡ r = let e = (one w h).at in cc in subst (λ (q : Replica). Represents new.state (after_maybe step.by event q)) same a.stands);
          packets = a.packets ∙ ap (λ o. map seen_packet (sent_at w.packets o event)) (sym (one w h).at);
        }

    module _ (acts : (r : Replica) (sent : List Sent) → Represents old.state r → ps ≡ map seen_packet sent → OnOk result (IsActed new.state new_ps r sent step.by step.act)) (w : WorldOfSets) (h : WorldRepresents k w) where
      on_ok : {P Q : Type 0} (res : Result T Refusal) → (P → Q) → OnOk res P → OnOk res Q
      on_ok (Ok v) f p = f p
      on_ok (Err e) f p = tt

      its : OnOk result (IsActed new.state new_ps (one w h).replica w.packets step.by step.act)
      its = acts (one w h).replica w.packets (one w h).stands (stands w h).packets

      pub stands_on : OnOk result (WorldRepresents (kept (slice_set cs i new) new_ps) (step_of w step))
      stands_on = on_ok result (after_it w h) its

      pub accepts : OnOk result (cause_of w step ≡ None)
      accepts = on_ok result (λ (a : IsActed new.state new_ps (one w h).replica w.packets step.by step.act). ap (λ o. cause_at o (event_asked w.packets step.act)) (one w h).at ∙ a.accepted) its

    pub stays : OnErr result (new.state ≡ old.state) → OnErr result (new_ps ≡ ps) → OnErr result (kept (slice_set cs i new) new_ps ≡ k)
    stays a b = stays_by result a b where
      stays_by : (res : Result T Refusal) → OnErr res (new.state ≡ old.state) → OnErr res (new_ps ≡ ps) → OnErr res (kept (slice_set cs i new) new_ps ≡ k)
      stays_by (Ok v) s p = tt
      stays_by (Err e) s p =
          let place = position-Some (λ c. number_of c == step.at) cs i old (sym at) in
          let states = same_states cs i old new place.0 (s ∙ ap state_of is) in
          (λ j. record { coordinators = states j; packets = p j }) ∙ whole

-- a view shows what the coordinator that the number names has to show
pub shows : (o : Option State) (s : State) (a : Act) (result : Result (Option View) Refusal) → o ≡ Some s → IfOk result (λ view. view ≡ view_shown (Some s) a) → IfOk result (λ view. view ≡ view_shown o a)
shows o s a result named h = subst (λ (p : Option State). IfOk result (λ view. view ≡ view_shown p a)) (sym named) h

-- and so does a look without a network
pub sees : (o : Option State) (s : State) (result : Result TallyView Refusal) → o ≡ Some s → IfOk result (λ sight. sight.at ≡ length s.history) → IfOk result (λ sight. sight.knowledge ≡ s.knowledge)
    → IfOk result (λ sight. view_shown o act.View ≡ Some (record { at = sight.at; knowledge = sight.knowledge; network = net_of sight.knowledge }))
sees o s (Ok sight) named at known =
    ap (λ p. view_shown p act.View) named ∙ (λ i. Some (record { at = (sym at) i; knowledge = (sym known) i; network = net_of ((sym known) i) }))
sees o s (Err e) named at known = tt

-- it is an accepted view
pub seen_acted : (new : State) (r : Replica) (sent : List Sent) (ps : List Packet) (by : ℕ) (result : Result TallyView Refusal) → ps ≡ map seen_packet sent
    → IfOk result (λ sight. IsEventAt r by event.View (reply.Seen sight.at sight.knowledge) new) → OnOk result (IsActed new ps r sent by act.View)
seen_acted new r sent ps by (Ok sight) is e =
    record {
      accepted = e.accepted;
      stands = e.stands;
      packets = is ∙ ap (map seen_packet) (sym (append-nil sent));
    }
seen_acted new r sent ps by (Err e) is h = tt

-- and so is a commit
pub committed_acted : (new : State) (r : Replica) (sent : List Sent) (ps : List Packet) (by : ℕ) (plan : Plan) (result : Result Admitted Refusal) → ps ≡ map seen_packet sent
    → IfOk result (λ made. IsEventAt r by (event.Commit plan) (reply.Admitted made) new) → OnOk result (IsActed new ps r sent by (act.Commit plan))
committed_acted new r sent ps by plan (Ok made) is e =
    record {
      accepted = e.accepted;
      stands = e.stands;
      packets = is ∙ ap (map seen_packet) (sym (append-nil sent));
    }
committed_acted new r sent ps by plan (Err e) is h = tt

-- a refusal that changes nothing leaves the state
pub same_state : {N T : Type 0} (new old : WithKeeper N) (result : Result T Refusal) → OnErr result (new ≡ old) → OnErr result (new.state ≡ old.state)
same_state new old (Ok t) same = tt
same_state new old (Err e) same = ap state_of same

-- what no refusal changes is as it was
pub still : {A T : Type 0} (a : A) (result : Result T Refusal) → OnErr result (a ≡ a)
still a (Ok t) = tt
still a (Err e) = refl
