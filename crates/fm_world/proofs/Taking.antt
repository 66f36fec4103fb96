-- A packet that another world cut stands for whatever operations come to its value.
use Rattle.std.proofs.Common.{◌≡◌, ◌==◌, ℕ, Bool, true, false, cond, List, [], ◌∷◌, ◌++◌, Option, Some, None, Result, Ok, Err, OnOk, length, drop, map, refl, sym, ap, ◌∙◌, subst, length-append, append-nil}
use Rattle.std.proofs.lemmas.List.{map-append, drop-map}
use Rattle.fm_records.specs.declared.refusal.Refusal.{Refusal}
use Rattle.fm_records.specs.Table.{Table}
use Rattle.fm_records.specs.Know.{table_of}
use Rattle.fm_records.specs.OpsOfTable.{ops}
use Rattle.fm_records.specs.Joined.{table_join}
use Rattle.fm_records.proofs.UnionLaws.{know_append}
use Rattle.fm_delta.specs.declared.packet.Packet.{Packet}
use Rattle.fm_coord.specs.declared.entry.Call.TheVariants as call
use Rattle.fm_coord.specs.Events.{Sent, Replica, happens}
use Rattle.fm_coord.specs.Events as event
use Rattle.fm_coord.specs.Replays.{seen_packet}
use Rattle.fm_coord.specs.States.{State, Represents, caller_and_call, step_asked}
use Rattle.fm_world.specs.declared.step.Step.{Step}
use Rattle.fm_world.specs.Worlds.{WorldOfSets, changed_at, after_maybe, sent_at, step_of, spelled_out, taken_in, event_asked}
use Rattle.fm_world.specs.declared.step.Act.TheVariants as act
use Rattle.fm_world.specs.Represents.{Kept, AllStand, WorldRepresents}

-- the sets of two packets that are seen alike come to the same
known_alike : (p q : Sent) → seen_packet p ≡ seen_packet q → table_of p.set ≡ table_of q.set
known_alike p q e = ap (λ (x : Packet). x.value) e

module _ (by : ℕ) (p q : Sent) (alike : seen_packet p ≡ seen_packet q) where
  -- what one packet's merge leaves, the other's does
  pub merged_alike : (s : State) (r : Replica) → Represents s (happens r by (event.Merge p)) → Represents s (happens r by (event.Merge q))
  merged_alike s r st =
      let e = known_alike p q alike in
      record {
        number = st.number;
        limit = st.limit;
        knowledge = st.knowledge ∙ know_append r.taken p.set ∙ ap (table_join (table_of r.taken)) e ∙ sym (know_append r.taken q.set);
        deltas =
            st.deltas ∙ sym (drop-map table_of r.floor (r.buffer ++ p.set ∷ []))
            ∙ ap (drop r.floor) (map-append table_of r.buffer (p.set ∷ []) ∙ (λ i. map table_of r.buffer ++ e i ∷ []) ∙ sym (map-append table_of r.buffer (q.set ∷ [])))
            ∙ drop-map table_of r.floor (r.buffer ++ q.set ∷ []);
        floor = st.floor;
        end = st.end ∙ length-append r.buffer (p.set ∷ []) ∙ sym (length-append r.buffer (q.set ∷ []));
        cuts = st.cuts;
        history =
            st.history ∙ map-append step_asked r.steps ((by, event.Merge p) ∷ []) ∙ (λ i. map step_asked r.steps ++ (by, call.Merge (alike i)) ∷ [])
            ∙ sym (map-append step_asked r.steps ((by, event.Merge q) ∷ []));
      }

  one_alike : (n : ℕ) (s : State) (ss : List State) (r : Replica) (rs : List Replica) (b : Bool)
      → (AllStand ss (changed_at n (λ x. happens x by (event.Merge p)) rs) → AllStand ss (changed_at n (λ x. happens x by (event.Merge q)) rs))
      → AllStand (s ∷ ss) (cond b (happens r by (event.Merge p) ∷ rs) (r ∷ changed_at n (λ x. happens x by (event.Merge p)) rs))
      → AllStand (s ∷ ss) (cond b (happens r by (event.Merge q) ∷ rs) (r ∷ changed_at n (λ x. happens x by (event.Merge q)) rs))
  one_alike n s ss r rs true rest k = (merged_alike s r k.0, k.1)
  one_alike n s ss r rs false rest k = (k.0, rest k.1)

  none_alike : (r : Replica) (rs others more : List Replica) (b : Bool) → AllStand [] (cond b (happens r by (event.Merge p) ∷ rs) (r ∷ others)) → AllStand [] (cond b (happens r by (event.Merge q) ∷ rs) (r ∷ more))
  none_alike r rs others more true k = absurd k
  none_alike r rs others more false k = absurd k

  pub all_alike : (n : ℕ) (ss : List State) (rs : List Replica) → AllStand ss (changed_at n (λ r. happens r by (event.Merge p)) rs) → AllStand ss (changed_at n (λ r. happens r by (event.Merge q)) rs)
  all_alike n ss [] h = h
  all_alike n [] (r ∷ rs) h = none_alike r rs (changed_at n (λ x. happens x by (event.Merge p)) rs) (changed_at n (λ x. happens x by (event.Merge q)) rs) (r.number == n) h
  all_alike n (s ∷ ss) (r ∷ rs) h = one_alike n s ss r rs (r.number == n) (all_alike n ss rs) h

uncut : (sent : List Sent) (o : Option Replica) (p : Sent) → sent_at sent o (Some (event.Merge p)) ≡ sent
uncut sent None p = refl
uncut sent (Some r) p = append-nil sent

-- after the step that takes a packet in, the coordinators stand for the world in which it stood for other operations
pub stands_alike : (k : Kept) (w : WorldOfSets) (at by : ℕ) (packet : Packet) (sent : Sent) → seen_packet (spelled_out packet) ≡ seen_packet sent → WorldRepresents k (step_of w (record { at = at; by = by; act = act.Take packet })) → WorldRepresents k (taken_in w at by sent)
stands_alike k w at by packet sent alike h =
    let with_other = λ (o : Option Replica). uncut w.packets o (spelled_out packet) in
    record {
      coordinators = all_alike by (spelled_out packet) sent alike at k.coordinators w.replicas h.coordinators;
      packets = h.packets ∙ ap (map seen_packet) (with_other _);
    }

-- a packet that is spelled out is seen as it came
pub as_it_came : (p : Packet) → table_of (ops p.value) ≡ p.value → seen_packet (spelled_out p) ≡ p
as_it_came p e = λ i. record { sender = p.sender; number = p.number; value = e i }

pub on_ok : {T : Type 0} {P Q : Type 0} (result : Result T Refusal) → (P → Q) → OnOk result P → OnOk result Q
on_ok (Ok t) f h = f h
on_ok (Err e) f h = tt
