-- Whole listings as runs.
use Rattle.std.proofs.Common.{◌≡◌, ◌==◌, ℕ, Bool, true, false, cond, List, [], ◌∷◌, ◌++◌, Some, None, map, refl, sym, ap, ◌∙◌, subst, inl, inr, eq-eqb}
use Rattle.std.proofs.lemmas.Bool.{eqb-true}
use Rattle.std.proofs.lemmas.List.{map-append, append-nil, append_assoc}
use Rattle.fm_records.specs.Sets.{IsMember}
use Rattle.fm_delta.specs.declared.packet.Packet.{Packet}
use Rattle.fm_coord.specs.declared.entry.Entry.{Entry}
use Rattle.fm_coord.specs.Events.{Sent, Event, Replica, opening, happens}
use Rattle.fm_coord.specs.Causes.{cause, bounds_of}
use Rattle.fm_coord.specs.Replays.{seen_packet, call_of, after_entry, replay, IsLegal}
use Rattle.fm_coord.specs.Numbers.{AreDistinct}
use Rattle.fm_coord.specs.States.{State, WithKeeper, Represents}
use Rattle.fm_world.specs.declared.step.Step.{Step}
use Rattle.fm_world.specs.Worlds.{WorldOfSets, with_number, changed_at, event_asked, after_maybe, cut_by, cause_at, cause_of, sent_at, step_of, run_of, AreAccepted}
use Rattle.fm_world.specs.Represents.{state_of, number_of, AllStand, state_with}
use Rattle.std.specs.Prelude.{◌⊎◌}
use Rattle.fm_world.specs.Listings.{packets_of, Made, entries_at, history_in, history_at, packet_in, IsGiven, Follows, IsWhole, AreCoordinators, number_in, opening_in, new_world_of, act_for, step_for, steps_for}
use Rattle.fm_world.proofs.Alike.{Alike, alike_self, alike_stands, Taken, taken, number_stays}

-- a replica of the world, and the one that the entries so far come to; these entries are left
pub record Goes (s : State) (r : Replica) (left : List Entry) : Type 0 where
  pub replayed : Replica
  pub alike : Alike r replayed
  pub number : s.number ≡ r.number
  pub legal : IsLegal replayed left
  pub ends : Represents s (replay replayed left)

abbrev pub AllGo : List State → List Replica → List Made → Type 0
AllGo [] [] ms = Unit {0}
AllGo (s ∷ ss) (r ∷ rs) ms = Goes s r (entries_at s.number ms) × AllGo ss rs ms
AllGo [] (r ∷ rs) ms = ⊥
AllGo (s ∷ ss) [] ms = ⊥

-- an entry of one coordinator taken as a step, after these packets
pub record Went (m : Made) (ms : List Made) (sent : List Sent) (ss : List State) (rs : List Replica) : Type 0 where
  pub replica : Replica
  pub there : with_number rs m.at ≡ Some replica
  pub event : Event
  pub asks : event_asked sent (act_for (map seen_packet sent) m.entry.call) ≡ Some event
  pub accepted : cause (bounds_of replica) (call_of event) ≡ None
  pub cut : map seen_packet (cut_by replica (Some event)) ≡ packet_in m.entry.reply
  pub next : AllGo ss (changed_at m.at (after_maybe m.entry.by (Some event)) rs) ms

module _ (m : Made) (ms : List Made) where
  other_number : (n : ℕ) → (n ≡ m.at → ⊥) → entries_at n (m ∷ ms) ≡ entries_at n ms
  other_number n far = by (m.at == n) (eqb-true m.at n) where
    by : (b : Bool) → (b ≡ true → m.at ≡ n) → cond b (m.entry ∷ entries_at n ms) (entries_at n ms) ≡ entries_at n ms
    by true is = absurd (far (sym (is refl)))
    by false is = refl

  its_number : (n : ℕ) → n ≡ m.at → entries_at n (m ∷ ms) ≡ m.entry ∷ entries_at n ms
  its_number n is = ap (λ b. cond b (m.entry ∷ entries_at n ms) (entries_at n ms)) (eq-eqb m.at n (sym is))

  -- the coordinators with other numbers are where they were
  elsewhere : (ss : List State) (rs : List Replica) → AllGo ss rs (m ∷ ms) → (IsMember m.at (map number_in ss) → ⊥) → AllGo ss rs ms
  elsewhere [] [] h far = tt
  elsewhere [] (r ∷ rs) h far = absurd h
  elsewhere (s ∷ ss) [] h far = absurd h
  elsewhere (s ∷ ss) (r ∷ rs) h far = (subst (λ es. Goes s r es) (other_number s.number (λ e. far (inl e))) h.0, elsewhere ss rs h.1 (λ at. far (inr at)))

  module _ (sent : List Sent) (can : IsGiven (map seen_packet sent) m.entry.call) where
    goes_on : (s : State) (r : Replica) (ss : List State) (rs : List Replica) → s.number ≡ m.at → Goes s r (m.entry ∷ entries_at s.number ms) → AllGo ss rs ms → Went m ms sent (s ∷ ss) (r ∷ rs)
    goes_on s r ss rs e g rest =
        let t : Taken r g.replayed sent (map seen_packet sent) m.entry = taken r g.replayed g.alike sent m.entry g.legal.0 can in
        let here : (r.number == m.at) ≡ true = eq-eqb r.number m.at (sym g.number ∙ e) in
        let one : Goes s (happens r m.entry.by t.event) (entries_at s.number ms) = record { replayed = after_entry g.replayed m.entry; alike = t.after; number = g.number ∙ number_stays r m.entry.by t.event; legal = g.legal.1; ends = g.ends } in
        record {
          replica = r;
          there = ap (λ b. cond b (Some r) (with_number rs m.at)) here;
          event = t.event;
          asks = t.asks;
          accepted = t.accepted;
          cut = t.cut;
          next = subst (λ b. AllGo (s ∷ ss) (cond b (happens r m.entry.by t.event ∷ rs) (r ∷ changed_at m.at (after_maybe m.entry.by (Some t.event)) rs)) ms) (sym here) (one, rest);
        }

    passes : (s : State) (r : Replica) (ss : List State) (rs : List Replica) → (s.number ≡ m.at → ⊥) → Goes s r (entries_at s.number ms) → Went m ms sent ss rs → Went m ms sent (s ∷ ss) (r ∷ rs)
    passes s r ss rs far g w =
        let here : (r.number == m.at) ≡ false = by (r.number == m.at) (eqb-true r.number m.at) in
        record {
          replica = w.replica;
          there = ap (λ b. cond b (Some r) (with_number rs m.at)) here ∙ w.there;
          event = w.event;
          asks = w.asks;
          accepted = w.accepted;
          cut = w.cut;
          next = subst (λ b. AllGo (s ∷ ss) (cond b (happens r m.entry.by w.event ∷ rs) (r ∷ changed_at m.at (after_maybe m.entry.by (Some w.event)) rs)) ms) (sym here) (g, w.next);
        } where
          by : (b : Bool) → (b ≡ true → r.number ≡ m.at) → b ≡ false
          by true is = absurd (far (g.number ∙ is refl))
          by false is = refl

    went : (ss : List State) (rs : List Replica) → AllGo ss rs (m ∷ ms) → AreDistinct (map number_in ss) → IsMember m.at (map number_in ss) → Went m ms sent ss rs
    went [] rs h distinct at = absurd at
    went (s ∷ ss) [] h distinct at = absurd h
    went (s ∷ ss) (r ∷ rs) h distinct (inl e) =
        goes_on s r ss rs e (subst (λ es. Goes s r es) (its_number s.number e) h.0) (elsewhere ss rs h.1 (λ at. distinct.0 (subst (λ n. IsMember n (map number_in ss)) (sym e) at)))
    went (s ∷ ss) (r ∷ rs) h distinct (inr at) =
        let far : s.number ≡ m.at → ⊥ = λ e. distinct.0 (subst (λ n. IsMember n (map number_in ss)) (sym e) at) in
        passes s r ss rs far (subst (λ es. Goes s r es) (other_number s.number far) h.0) (went ss rs h.1 distinct.1 at)

-- each entry is that of a coordinator
abbrev AllKnown : List ℕ → List Made → Type 0
AllKnown ns [] = Unit {0}
AllKnown ns (m ∷ ms) = IsMember m.at ns × AllKnown ns ms

all_stand : (ss : List State) (rs : List Replica) → AllGo ss rs [] → AllStand ss rs
all_stand [] [] h = tt
all_stand [] (r ∷ rs) h = absurd h
all_stand (s ∷ ss) [] h = absurd h
all_stand (s ∷ ss) (r ∷ rs) h = (alike_stands r h.0.replayed h.0.alike s h.0.ends, all_stand ss rs h.1)

pub record Ran (ss : List State) (w : WorldOfSets) (steps : List Step) (after : List Packet) : Type 0 where
  pub accepted : AreAccepted w steps
  pub stands : AllStand ss (run_of w steps).replicas
  pub packets : after ≡ map seen_packet (run_of w steps).packets

module _ (ss : List State) (distinct : AreDistinct (map number_in ss)) where
  runs : (ms : List Made) (w : WorldOfSets) (ps : List Packet) → ps ≡ map seen_packet w.packets → AllGo ss w.replicas ms → AllKnown (map number_in ss) ms → Follows ps ms → Ran ss w (steps_for ps ms) (ps ++ packets_of ms)
  runs [] w ps is h known follows = record { accepted = tt; stands = all_stand ss w.replicas h; packets = append-nil ps ∙ is }
  runs (m ∷ ms) w ps is h known follows =
      let q : Went m ms w.packets ss w.replicas = went m ms w.packets (subst (λ qs. IsGiven qs m.entry.call) is follows.0) ss w.replicas h distinct known.0 in
      let step : Step = step_for ps m in
      let asks : event_asked w.packets step.act ≡ Some q.event = ap (λ qs. event_asked w.packets (act_for qs m.entry.call)) is ∙ q.asks in
      let fine : cause_of w step ≡ None = (λ i. cause_at (q.there i) (asks i)) ∙ q.accepted in
      let packets : ps ++ packet_in m.entry.reply ≡ map seen_packet (step_of w step).packets =
      (λ i. is i ++ sym q.cut i) ∙ sym (map-append seen_packet w.packets (cut_by q.replica (Some q.event)))
      ∙ ap (map seen_packet) (sym (λ i. sent_at w.packets (q.there i) (asks i))) in
      let go : AllGo ss (step_of w step).replicas ms = subst (λ o. AllGo ss (changed_at m.at (after_maybe m.entry.by o) w.replicas) ms) (sym asks) q.next in
      let rest : Ran ss (step_of w step) (steps_for (ps ++ packet_in m.entry.reply) ms) ((ps ++ packet_in m.entry.reply) ++ packets_of ms) = runs ms (step_of w step) (ps ++ packet_in m.entry.reply) packets go known.1 follows.1 in
      record { accepted = (fine, rest.accepted); stands = rest.stands; packets = sym (append_assoc ps (packet_in m.entry.reply) (packets_of ms)) ∙ rest.packets }

pub same_numbers : {N : Type 0} (cs : List (WithKeeper N)) → map number_of cs ≡ map number_in (map state_of cs)
same_numbers [] = refl
same_numbers (c ∷ cs) = ap (λ ns. c.state.number ∷ ns) (same_numbers cs)

there_or_not : (ss : List State) (n : ℕ) → (state_with ss n ≡ None) ⊎ IsMember n (map number_in ss)
there_or_not [] n = inl refl
there_or_not (s ∷ ss) n = by (s.number == n) (eqb-true s.number n) (there_or_not ss n) where
  by : (b : Bool) → (b ≡ true → s.number ≡ n) → (state_with ss n ≡ None) ⊎ IsMember n (map number_in ss) → (cond b (Some s) (state_with ss n) ≡ None) ⊎ IsMember n (map number_in (s ∷ ss))
  by true is rest = inr (inl (is refl))
  by false is (inl none) = inl none
  by false is (inr at) = inr (inr at)

not_later : (b : Bool) (e : Entry) (es : List Entry) → cond b (e ∷ es) es ≡ [] → es ≡ []
not_later true e es is = absurd (let no : ⊥ = cc in no)
not_later false e es is = is

all_known : (ss : List State) (ms : List Made) → ((n : ℕ) → state_with ss n ≡ None → entries_at n ms ≡ []) → AllKnown (map number_in ss) ms
all_known ss [] h = tt
all_known ss (m ∷ ms) h =
    let first : IsMember m.at (map number_in ss) =
    elim (there_or_not ss m.at) as (λ _. IsMember m.at (map number_in ss)) [
      | inl none ↦ absurd (let is : m.entry ∷ entries_at m.at ms ≡ [] = sym (its_number m ms m.at refl) ∙ h m.at none in let no : ⊥ = cc in no)
      | inr at ↦ at
    ] in
    (first, all_known ss ms (λ n none. not_later (m.at == n) m.entry (entries_at n ms) (h n none)))

all_go : (ms : List Made) (ss : List State) → AreCoordinators ss → AreDistinct (map number_in ss) → ((n : ℕ) → IsMember n (map number_in ss) → entries_at n ms ≡ history_at ss n) → AllGo ss (map (λ c. opening c.0 c.1) (map opening_in ss)) ms
all_go ms [] is distinct h = tt
all_go ms (s ∷ ss) is distinct h =
    let n = s.number in
    let self : (n == n) ≡ true = eq-eqb n n refl in
    let whole : s.history ≡ entries_at n ms = sym (h n (inl refl) ∙ ap (λ b. history_in (cond b (Some s) (state_with ss n))) self) in
    let goes : Goes s (opening n s.limit) s.history = record { replayed = opening n s.limit; alike = alike_self (opening n s.limit); number = refl; legal = is.0.legal; ends = is.0.stands } in (
      subst (λ es. Goes s (opening n s.limit) es) whole goes,
      all_go ms ss is.1 distinct.1 (λ k at. h k (inr at) ∙ ap (λ b. history_in (cond b (Some s) (state_with ss k))) (far k at (n == k) (eqb-true n k))),
    ) where
      far : (k : ℕ) → IsMember k (map number_in ss) → (b : Bool) → (b ≡ true → s.number ≡ k) → b ≡ false
      far k at true same = absurd (distinct.0 (subst (λ j. IsMember j (map number_in ss)) (sym (same refl)) at))
      far k at false same = refl

pub whole_runs : (ss : List State) (ms : List Made) → AreCoordinators ss → AreDistinct (map number_in ss) → IsWhole ss ms → Ran ss (new_world_of ss) (steps_for [] ms) (packets_of ms)
whole_runs ss ms is distinct h =
    runs ss distinct ms (new_world_of ss) [] refl
    (all_go ms ss is distinct (λ n at. h.entries n))
    (all_known ss ms (λ n none. h.entries n ∙ ap history_in none)) h.follows
