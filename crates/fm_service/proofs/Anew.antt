-- Worlds of coordinators that are renewed, one after another.
use Rattle.std.proofs.Common.{◌≡◌, ◌<◌, ◌≤◌, ◌==◌, ◌+◌, ℕ, zero, suc, Bool, true, false, cond, List, [], ◌∷◌, Option, Some, None, length, map, take, get_or, refl, sym, ap, ◌∙◌, subst, inl, inr, arith, add-one}
use Rattle.std.proofs.lemmas.Bool.{ne_eqb, eq-eqb}
use Rattle.std.proofs.lemmas.List.{length-map, take_all}
use Rattle.fm_records.specs.declared.refusal.Refusal.{Refusal}
use Rattle.fm_records.specs.declared.refusal.Refusal.TheVariants.{OutOfMemory}
use Rattle.fm_records.specs.Options.{or_else}
use Rattle.fm_records.specs.Sets.{IsMember}
use Rattle.fm_delta.specs.declared.packet.Packet.{Packet}
use Rattle.fm_coord.specs.Events.{Sent, Event, Replica, opening, happens}
use Rattle.fm_coord.specs.Events as event
use Rattle.fm_coord.specs.Numbers.{AreDistinct}
use Rattle.fm_coord.specs.Replays.{seen_packet}
use Rattle.fm_coord.specs.States.{State, WithKeeper, Represents}
use Rattle.fm_world.specs.declared.step.Act.TheVariants as act
use Rattle.fm_world.specs.declared.step.Step.{Step}
use Rattle.fm_world.specs.Worlds.{WorldOfSets, opening_world, with_number, changed_at, event_asked, after_maybe, cause_at, refusal_of, step_of, run_of, taken_in, spelled_out}
use Rattle.fm_world.specs.Represents.{Kept, state_of, number_of, AllStand, WorldRepresents, IsReached}
use Rattle.fm_script.specs.Openings.{history_limit, new_world}
use Rattle.fm_service.specs.Renewing.{whole_of, renewed_replica, renewed_world}
use Rattle.fm_service.specs.inner.ReopenedWorld.{reopened_world}

abbrev pub number : Replica → ℕ
number r = r.number

-- no step changes a replica's number
pub same_number : (by : ℕ) (e : Event) (r : Replica) → number (happens r by e) ≡ number r
same_number by (event.Tell op) r = refl
same_number by (event.Merge packet) r = refl
same_number by (event.Cut range) r = refl
same_number by (event.Trim n) r = refl
same_number by event.View r = refl
same_number by (event.Commit plan) r = refl

pub same_acted : (by : ℕ) (o : Option Event) (r : Replica) → number (after_maybe by o r) ≡ number r
same_acted by None r = refl
same_acted by (Some e) r = same_number by e r

same_one : (b : Bool) (r s : Replica) (rs ss : List Replica) → number s ≡ number r → map number ss ≡ map number rs → map number (cond b (s ∷ rs) (r ∷ ss)) ≡ number r ∷ map number rs
same_one true r s rs ss e h = ap (λ n. n ∷ map number rs) e
same_one false r s rs ss e h = ap (λ ns. number r ∷ ns) h

pub same_changed : (n : ℕ) (change : Replica → Replica) → ((r : Replica) → number (change r) ≡ number r) → (rs : List Replica) → map number (changed_at n change rs) ≡ map number rs
same_changed n change same [] = refl
same_changed n change same (r ∷ rs) = same_one (r.number == n) r (change r) rs (changed_at n change rs) (same r) (same_changed n change same rs)

same_run : (w : WorldOfSets) (ss : List Step) → map number (run_of w ss).replicas ≡ map number w.replicas
same_run w [] = refl
same_run w (s ∷ ss) =
    same_run (step_of w s) ss
    ∙ same_changed s.at (after_maybe s.by (event_asked w.packets s.act)) (same_acted s.by (event_asked w.packets s.act)) w.replicas

at_first : (openings : List (ℕ × ℕ)) → map number (opening_world openings).replicas ≡ map (λ o. o.0) openings
at_first [] = refl
at_first (o ∷ openings) = ap (λ ns. o.0 ∷ ns) (at_first openings)

-- coordinators have the numbers of the replicas for which they stand
same_numbers : {N : Type 0} (cs : List (WithKeeper N)) (rs : List Replica) → AllStand (map state_of cs) rs → map number_of cs ≡ map number rs
same_numbers [] [] h = refl
same_numbers [] (r ∷ rs) h = absurd h
same_numbers (c ∷ cs) [] h = absurd h
same_numbers (c ∷ cs) (r ∷ rs) h = λ i. h.0.number i ∷ same_numbers cs rs h.1 i

-- the first i replicas renewed, the others with nothing that happened to them
abbrev pub halfway : ℕ → List Replica → List Replica
halfway zero rs = (new_world (map number rs)).replicas
halfway (suc i) [] = []
halfway (suc i) (r ∷ rs) = renewed_replica r ∷ halfway i rs

abbrev pub halfway_world : ℕ → WorldOfSets → WorldOfSets
halfway_world i w = record { replicas = halfway i w.replicas; packets = [] }

-- the coordinator s is next after the first i: the replica for which it stands is still the one of its number to which
-- nothing happened, and what that one takes in makes it anew
pub record IsNext (s : State) (i : ℕ) (rs : List Replica) : Type 0 where
  pub replica : Replica
  pub stands : Represents s replica
  pub untouched : with_number (halfway i rs) s.number ≡ Some (opening s.number history_limit)
  pub taken : changed_at s.number (λ r. happens r 0 (event.Merge (whole_of replica))) (halfway i rs) ≡ halfway (suc i) rs

module _ {N : Type 0} where
  listed : (cs : List (WithKeeper N)) (i : ℕ) (c : WithKeeper N) → i < length cs → c ≡ get_or cs i c → IsMember c.state.number (map number_of cs)
  listed [] i c lt is = absurd (omega arith)
  listed (d ∷ cs) zero c lt is = inl (ap number_of (sym is))
  listed (d ∷ cs) (suc i) c lt is = inr (listed cs i c (omega arith) is)

  here : (c d : WithKeeper N) (r : Replica) (rs : List Replica) → c ≡ d → Represents d.state r → IsNext c.state 0 (r ∷ rs)
  here c d r rs is h =
      let st : Represents c.state r = subst (λ (x : WithKeeper N). Represents x.state r) (sym is) h in
      let on : (r.number == c.state.number) ≡ true = eq-eqb r.number c.state.number (sym st.number) in
      record {
        replica = r;
        stands = st;
        untouched = ap (λ b. cond b (Some (opening r.number history_limit)) (with_number (halfway 0 rs) c.state.number)) on ∙ ap (λ n. Some (opening n history_limit)) (sym st.number);
        taken = ap (λ b. cond b (renewed_replica r ∷ halfway 0 rs) (opening r.number history_limit ∷ changed_at c.state.number (λ x. happens x 0 (event.Merge (whole_of r))) (halfway 0 rs))) on;
      }

  later : (c : WithKeeper N) (i : ℕ) (r : Replica) (rs : List Replica) → (r.number ≡ c.state.number → ⊥) → IsNext c.state i rs → IsNext c.state (suc i) (r ∷ rs)
  later c i r rs other h =
      let off : (r.number == c.state.number) ≡ false = ne_eqb r.number c.state.number other in
      record {
        replica = h.replica;
        stands = h.stands;
        untouched = ap (λ b. cond b (Some (renewed_replica r)) (with_number (halfway i rs) c.state.number)) off ∙ h.untouched;
        taken =
            ap (λ b. cond b (happens (renewed_replica r) 0 (event.Merge (whole_of h.replica)) ∷ halfway i rs) (renewed_replica r ∷ changed_at c.state.number (λ x. happens x 0 (event.Merge (whole_of h.replica))) (halfway i rs))) off
            ∙ ap (λ xs. renewed_replica r ∷ xs) h.taken;
      }

  pub next : (cs : List (WithKeeper N)) (rs : List Replica) (i : ℕ) (c : WithKeeper N) → AllStand (map state_of cs) rs → AreDistinct (map number_of cs) → i < length cs → c ≡ get_or cs i c → IsNext c.state i rs
  next [] rs i c h d lt is = absurd (omega arith)
  next (x ∷ cs) [] i c h d lt is = absurd h
  next (x ∷ cs) (r ∷ rs) zero c h d lt is = here c x r rs is h.0
  next (x ∷ cs) (r ∷ rs) (suc i) c h d lt is =
      later c i r rs
      (λ e. d.0 (subst (λ n. IsMember n (map number_of cs)) (sym (h.0.number ∙ e)) (listed cs i c (omega arith) is)))
      (next cs rs i c h.1 d.1 (omega arith) is)

-- after all of them
pub all_renewed : (n : ℕ) (rs : List Replica) → length rs ≤ n → halfway n rs ≡ map renewed_replica rs
all_renewed zero [] le = refl
all_renewed zero (r ∷ rs) le = absurd (omega arith)
all_renewed (suc n) [] le = refl
all_renewed (suc n) (r ∷ rs) le = ap (λ xs. renewed_replica r ∷ xs) (all_renewed n rs (omega arith))

-- a world of coordinators that is renewed
module _ {N : Type 0} (cs : List (WithKeeper N)) (old : Kept) (those : map state_of cs ≡ old.coordinators) where
  -- for whatever world of sets they stand
  pub all_stand : (w : WorldOfSets) → WorldRepresents old w → AllStand (map state_of cs) w.replicas
  all_stand w h = subst (λ ss. AllStand ss w.replicas) (sym those) h.coordinators

  pub are_distinct : IsReached old → AreDistinct (map number_of cs)
  are_distinct r =
      let start = opening_world r.openings in
      subst AreDistinct
      (sym (same_numbers cs (run_of start r.steps).replicas (all_stand (run_of start r.steps) r.stands) ∙ same_run start r.steps ∙ at_first r.openings))
      r.distinct

  as_many : (rs : List Replica) → AllStand (map state_of cs) rs → length rs ≡ length cs
  as_many rs h = sym (length-map rs number) ∙ ap length (sym (same_numbers cs rs h)) ∙ length-map cs number_of

  -- once all of them are
  pub all_done : (n : ℕ) → length cs ≤ n → (anew : Kept) (w : WorldOfSets) → WorldRepresents old w → WorldRepresents anew (halfway_world n w) → WorldRepresents anew (renewed_world w)
  all_done n le anew w h =
      let many = as_many w.replicas (all_stand w h) in
      subst (λ (rs : List Replica). WorldRepresents anew (record { replicas = rs; packets = [] })) (all_renewed n w.replicas (omega (arith, many)))

  -- a world that opens with their numbers
  module _ (n : ℕ) (le : length cs ≤ n) (numbers : List ℕ) (listed : numbers ≡ map number_of (take n cs)) where
    all_listed : numbers ≡ map number_of cs
    all_listed = listed ∙ ap (map number_of) (take_all n cs le)

    pub listed_distinct : IsReached old → AreDistinct numbers
    listed_distinct reached = subst AreDistinct (sym all_listed) (are_distinct reached)

    pub all_numbers : (w : WorldOfSets) → WorldRepresents old w → numbers ≡ map number w.replicas
    all_numbers w h = all_listed ∙ same_numbers cs w.replicas (all_stand w h)

    pub same_opening : (w : WorldOfSets) → WorldRepresents old w → new_world numbers ≡ reopened_world w
    same_opening w h = ap new_world (all_numbers w h)

  -- of which the next takes in, as a packet, all that it knows
  module _ (reached : IsReached old) (i : ℕ) (c : WithKeeper N) (lt : i < length cs) (is : c ≡ get_or cs i c) (at : ℕ) (its : at ≡ c.state.number) (packet : Packet) (anew : Kept) where
    module _ (w : WorldOfSets) (h : WorldRepresents old w) where
      its_turn : IsNext c.state i w.replicas
      its_turn = next cs w.replicas i c (all_stand w h) (are_distinct reached) lt is

      merged : (n : ℕ) → n ≡ c.state.number → changed_at n (λ r. happens r 0 (event.Merge (whole_of its_turn.replica))) (halfway i w.replicas) ≡ halfway (i + 1) w.replicas
      merged n e =
          ap (λ m. changed_at m (λ r. happens r 0 (event.Merge (whole_of its_turn.replica))) (halfway i w.replicas)) e
          ∙ its_turn.taken ∙ ap (λ k. halfway k w.replicas) (sym (add-one i))

      pub one_more : ((r : Replica) → Represents c.state r → packet ≡ seen_packet (whole_of r)) → (after : Kept)
          → WorldRepresents anew (halfway_world i w)
          → ((v : WorldOfSets) (sent : Sent) → WorldRepresents anew v → packet ≡ seen_packet sent → WorldRepresents after (taken_in v at 0 sent))
          → WorldRepresents after (halfway_world (i + 1) w)
      one_more whole after before take =
          subst (λ (rs : List Replica). WorldRepresents after (record { replicas = rs; packets = [] })) (merged at its)
          (take (halfway_world i w) (whole_of its_turn.replica) before (whole its_turn.replica its_turn.stands))

    -- which is refused only if memory runs out: nothing had happened to it
    pub for_memory : ((w : WorldOfSets) → WorldRepresents old w → WorldRepresents anew (halfway_world i w)) → (refusal : Refusal)
        → ((v : WorldOfSets) → WorldRepresents anew v → refusal ≡ refusal_of v (record { at = at; by = 0; act = act.Take packet }))
        → refusal ≡ OutOfMemory
    for_memory before refusal why =
        let w = run_of (opening_world reached.openings) reached.steps in
        let untouched = ap (with_number (halfway i w.replicas)) its ∙ (its_turn w reached.stands).untouched in
        why (halfway_world i w) (before w reached.stands)
        ∙ ap (λ o. or_else OutOfMemory (cause_at o (Some (event.Merge (spelled_out packet))))) untouched
