-- What is stored of coordinators, and what they took in since, is all that they took in.
use Rattle.std.proofs.Common.{◌≡◌, ◌⊎◌, ◌<◌, ◌≤◌, ◌==◌, ℕ, Bool, true, false, cond, nat_le, nat_lt, List, [], ◌∷◌, ◌++◌, Option, Some, None, option_map, map, filter, length, drop, get_or, replicate, refl, sym, ap, ◌∙◌, subst, inl, inr, arith, append_assoc, eqb-true, ltb-false}
use Rattle.std.specs.List.{filter_map, cons_option}
use Rattle.std.proofs.lemmas.Bool.{ne_eqb, eq-eqb, eqb-false}
use Rattle.std.proofs.lemmas.List.{append-nil, drop_all, drop-append-le, length-append, get_or-replicate}
use Rattle.std.proofs.lemmas.List.FromFn.{get_or-map-range_with_len}
use Rattle.fm_records.specs.declared.ops.Op.{Op}
use Rattle.fm_records.specs.Sets.{IsMember, HaveSameMembers, union}
use Rattle.fm_records.specs.Know.{table_of}
use Rattle.fm_records.proofs.SetExtensionality.{know_same}
use Rattle.fm_net.proofs.ListLaws.{member_before, member_behind}
use Rattle.fm_delta.specs.declared.packet.Packet.{Packet}
use Rattle.fm_coord.specs.declared.entry.Range.TheVariants.{Interval, Full}
use Rattle.fm_coord.specs.Events.{Sent, Event, Replica, opening, happens, set_of}
use Rattle.fm_coord.specs.Events as event
use Rattle.fm_world.specs.declared.step.Step.{Step}
use Rattle.fm_world.specs.Worlds.{WorldOfSets, with_number, changed_at, event_asked, after_maybe, step_of, taken_in}
use Rattle.fm_script.specs.Openings.{history_limit, new_world}
use Rattle.fm_service.specs.Renewing.{whole_of, renewed_replica, renewed_world}
use Rattle.fm_service.specs.StreamSteps.{Following, fresh, packet_by_ops}
use Rattle.fm_service.specs.Storing.{stored_mark_at, unstored_range, unstored_packet, unstored_by, unstored_at, unstored_of, full_packet_at, full_packets_of, end_in, ends_of, all_stored, restored_world, restored, IsStoredUpTo, AreStored, nothing_stored, sets_from, stored_also, HaveNothing}
use Rattle.fm_service.proofs.Anew.{number, same_acted, same_number}
use Rattle.fm_service.proofs.Members.{from_both, same_with, held, union_last, to_the_end}

-- one replica

more_stored : (S : List Op) (mark : ℕ) (r : Replica) (T : List Op) → IsStoredUpTo S mark r
    → HaveSameMembers (S ++ union (drop mark (r.buffer ++ T ∷ []))) (r.taken ++ T)
more_stored S mark r T h =
    let all : S ++ union (drop mark (r.buffer ++ T ∷ [])) ≡ (S ++ union (drop mark r.buffer)) ++ T =
    ap (λ xs. S ++ union xs) (drop-append-le mark r.buffer (T ∷ []) h.within) ∙ ap (λ xs. S ++ xs) (union_last (drop mark r.buffer) T) ∙ sym (append_assoc S (union (drop mark r.buffer)) T) in
    subst (λ xs. HaveSameMembers xs (r.taken ++ T)) (sym all) (same_with (S ++ union (drop mark r.buffer)) r.taken T h.together)

longer : (mark : ℕ) (xss : List (List Op)) (T : List Op) → mark ≤ length xss → mark ≤ length (xss ++ T ∷ [])
longer mark xss T le = omega (arith, length-append xss (T ∷ []))

-- what happens at a replica takes nothing of it away
stays_stored : (S : List Op) (mark by : ℕ) (e : Event) (r : Replica) → IsStoredUpTo S mark r → IsStoredUpTo S mark (happens r by e)
stays_stored S mark by (event.Tell op) r h = record { within = longer mark r.buffer _ h.within; together = more_stored S mark r _ h }
stays_stored S mark by (event.Merge packet) r h = record { within = longer mark r.buffer _ h.within; together = more_stored S mark r _ h }
stays_stored S mark by (event.Cut range) r h = record { within = h.within; together = h.together }
stays_stored S mark by (event.Trim n) r h = record { within = h.within; together = h.together }
stays_stored S mark by event.View r h = record { within = h.within; together = h.together }
stays_stored S mark by (event.Commit plan) r h = record { within = longer mark r.buffer _ h.within; together = more_stored S mark r _ h }

maybe_stored : (S : List Op) (mark by : ℕ) (o : Option Event) (r : Replica) → IsStoredUpTo S mark r → IsStoredUpTo S mark (after_maybe by o r)
maybe_stored S mark by None r h = h
maybe_stored S mark by (Some e) r h = stays_stored S mark by e r h

was_taken : (S : List Op) (mark : ℕ) (r : Replica) → IsStoredUpTo S mark r → (x : Op) → IsMember x S → IsMember x r.taken
was_taken S mark r h x m = h.together.0 x (member_before x S (union (drop mark r.buffer)) m)

was_buffered : (S : List Op) (mark : ℕ) (r : Replica) → IsStoredUpTo S mark r → (x : Op) → IsMember x (union (drop mark r.buffer)) → IsMember x r.taken
was_buffered S mark r h x m = h.together.0 x (member_behind x S (union (drop mark r.buffer)) m)

-- of a renewed replica all is one set
renewed_stored : (S : List Op) (mark : ℕ) (r : Replica) → IsStoredUpTo S mark r → IsStoredUpTo S 0 (renewed_replica r)
renewed_stored S mark r h = record {
  within = omega arith;
  together = subst (λ xs. HaveSameMembers (S ++ xs) r.taken) (sym (append-nil r.taken)) (held S r.taken (was_taken S mark r h));
}

-- replicas by their numbers

some_is : {A : Type 0} (a b : A) → Some a ≡ Some b → a ≡ b
some_is a b e = cc

no_some : {A P : Type 0} (a : A) → None ≡ Some a → P
no_some a e = absurd (let no : ⊥ = cc in no)

module _ (at n : ℕ) (change : Replica → Replica) (keeps : (r : Replica) → number (change r) ≡ number r) where
  -- the replica with the number n, after that with the number at was changed
  pub record Was (o : Option Replica) (now : Replica) : Type 0 where
    pub replica : Replica
    pub there : o ≡ Some replica
    pub is : now ≡ cond (at == n) (change replica) replica

  one : (b c : Bool) (r now : Replica) (rs ss : List Replica) → (r.number == at) ≡ b → (r.number == n) ≡ c → with_number (cond b (change r ∷ rs) (r ∷ ss)) n ≡ Some now
      → (with_number ss n ≡ Some now → Was (with_number rs n) now) → Was (cond c (Some r) (with_number rs n)) now
  one true true r now rs ss eb ec e later =
      let same : (at == n) ≡ true = ap (λ m. m == n) (sym (eqb-true r.number at eb)) ∙ ec in
      let now_is = some_is (change r) now (ap (λ b. cond b (Some (change r)) (with_number rs n)) (sym (ap (λ m. m == n) (keeps r) ∙ ec)) ∙ e) in
      record { replica = r; there = refl; is = sym now_is ∙ ap (λ b. cond b (change r) r) (sym same) }
  one true false r now rs ss eb ec e later =
      let same : (at == n) ≡ false = ap (λ m. m == n) (sym (eqb-true r.number at eb)) ∙ ec in
      record { replica = now; there = ap (λ b. cond b (Some (change r)) (with_number rs n)) (sym (ap (λ m. m == n) (keeps r) ∙ ec)) ∙ e; is = ap (λ b. cond b (change now) now) (sym same) }
  one false true r now rs ss eb ec e later =
      let other : (at == n) ≡ false = ne_eqb at n (λ same. eqb-false r.number at eb (eqb-true r.number n ec ∙ sym same)) in
      let now_is = some_is r now (ap (λ b. cond b (Some r) (with_number ss n)) (sym ec) ∙ e) in
      record { replica = r; there = refl; is = sym now_is ∙ ap (λ b. cond b (change r) r) (sym other) }
  one false false r now rs ss eb ec e later = later (ap (λ b. cond b (Some r) (with_number ss n)) (sym ec) ∙ e)

  pub was : (rs : List Replica) (now : Replica) → with_number (changed_at at change rs) n ≡ Some now → Was (with_number rs n) now
  was [] now e = no_some now e
  was (r ∷ rs) now e = one (r.number == at) (r.number == n) r now rs (changed_at at change rs) refl refl e (was rs now)

-- the replicas and the marks of a stream whose operations S are stored
abbrev pub Stored : (ℕ → List Op) → List ℕ → List Replica → Type 0
Stored S marks rs = (n : ℕ) (r : Replica) → n < 256 → with_number rs n ≡ Some r → IsStoredUpTo (S n) (get_or marks n 0) r

module _ (S : ℕ → List Op) (marks : List ℕ) where
  changed_stored : (at : ℕ) (change : Replica → Replica) → ((r : Replica) → number (change r) ≡ number r) → ((T : List Op) (mark : ℕ) (r : Replica) → IsStoredUpTo T mark r → IsStoredUpTo T mark (change r))
      → (rs : List Replica) → Stored S marks rs → Stored S marks (changed_at at change rs)
  changed_stored at change keeps safe rs h n r lt there =
      let w = was at n change keeps rs r there in
      let old = h n w.replica lt w.there in
      subst (IsStoredUpTo (S n) (get_or marks n 0)) (sym w.is)
      (elim (at == n) as (λ b. IsStoredUpTo (S n) (get_or marks n 0) (cond b (change w.replica) w.replica)) [ true ↦ safe (S n) (get_or marks n 0) w.replica old | false ↦ old ])

  pub step_stored : (w : WorldOfSets) (s : Step) → Stored S marks w.replicas → Stored S marks (step_of w s).replicas
  step_stored w s =
      changed_stored s.at (after_maybe s.by (event_asked w.packets s.act)) (same_acted s.by (event_asked w.packets s.act)) (λ T mark r. maybe_stored T mark s.by (event_asked w.packets s.act) r) w.replicas

  pub taken_stored : (w : WorldOfSets) (at : ℕ) (packet : Sent) → Stored S marks w.replicas → Stored S marks (taken_in w at 0 packet).replicas
  taken_stored w at packet =
      changed_stored at (λ r. happens r 0 (event.Merge packet)) (same_number 0 (event.Merge packet)) (λ T mark r. stays_stored T mark 0 (event.Merge packet) r) w.replicas

-- renewed replicas by their numbers
record WasRenewed (o : Option Replica) (now : Replica) : Type 0 where
  replica : Replica
  there : o ≡ Some replica
  is : now ≡ renewed_replica replica

renewed_one : (b : Bool) (r now : Replica) (o later : Option Replica) → cond b (Some (renewed_replica r)) later ≡ Some now → (later ≡ Some now → WasRenewed o now) → WasRenewed (cond b (Some r) o) now
renewed_one true r now o later e rest = record { replica = r; there = refl; is = sym (some_is (renewed_replica r) now e) }
renewed_one false r now o later e rest = rest e

was_renewed : (rs : List Replica) (n : ℕ) (now : Replica) → with_number (map renewed_replica rs) n ≡ Some now → WasRenewed (with_number rs n) now
was_renewed [] n now e = no_some now e
was_renewed (r ∷ rs) n now e = renewed_one (r.number == n) r now (with_number rs n) (with_number (map renewed_replica rs) n) e (was_renewed rs n now)

no_mark : (n mark : ℕ) → n < 256 → get_or (replicate 256 mark) n mark ≡ mark
no_mark n mark lt = get_or-replicate 256 n mark mark lt

pub anew_stored : (S : ℕ → List Op) (k : Following) → AreStored S k → AreStored S (fresh (renewed_world k.world))
anew_stored S k h n r lt there =
    let w = was_renewed k.world.replicas n r there in
    let renewed = renewed_stored (S n) (stored_mark_at k n) w.replica (h n w.replica lt w.there) in
    subst (λ mark. IsStoredUpTo (S n) mark r) (sym (no_mark n 0 lt)) (subst (IsStoredUpTo (S n) 0) (sym w.is) renewed)

-- new replicas
abbrev Unused : Replica → Type 0
Unused r = (r.taken ≡ []) × (r.buffer ≡ [])

unused_one : (b : Bool) (r now : Replica) (later : Option Replica) → Unused r → cond b (Some r) later ≡ Some now → (later ≡ Some now → Unused now) → Unused now
unused_one true r now later h e rest = subst Unused (some_is r now e) h
unused_one false r now later h e rest = rest e

are_unused : (listed : List ℕ) (n : ℕ) (now : Replica) → with_number (new_world listed).replicas n ≡ Some now → Unused now
are_unused [] n now e = no_some now e
are_unused (m ∷ listed) n now e = unused_one (m == n) (opening m history_limit) now (with_number (new_world listed).replicas n) (refl, refl) e (are_unused listed n now)

pub new_nothing : (listed : List ℕ) → HaveNothing (fresh (new_world listed))
new_nothing listed n r there = (are_unused listed n r there).0

pub renewed_nothing : (k : Following) → HaveNothing k → HaveNothing (fresh (renewed_world k.world))
renewed_nothing k h n r there = let w = was_renewed k.world.replicas n r there in ap (λ (x : Replica). x.taken) w.is ∙ h n w.replica w.there

unused_stored : (r : Replica) → Unused r → IsStoredUpTo [] 0 r
unused_stored r h = record {
  within = omega arith;
  together = (λ x m. absurd (subst (λ xss. IsMember x (union xss)) h.1 m), λ x m. absurd (subst (λ xs. IsMember x xs) h.0 m));
}

pub new_stored : (listed : List ℕ) → AreStored nothing_stored (fresh (new_world listed))
new_stored listed n r lt there = subst (λ mark. IsStoredUpTo [] mark r) (sym (no_mark n 0 lt)) (unused_stored r (are_unused listed n r there))

-- what is not stored is stored too

pub marked : (rs : List Replica) (n : ℕ) (r : Replica) → n < 256 → with_number rs n ≡ Some r → get_or (ends_of rs) n 0 ≡ length r.buffer
marked rs n r lt there = get_or-map-range_with_len (λ m. end_in (with_number rs m)) 0 256 n n 0 lt (omega arith) ∙ ap end_in there

all_within : (S T : List Op) (r : Replica) (mark : ℕ) → mark ≡ length r.buffer → HaveSameMembers (S ++ T) r.taken → IsStoredUpTo (S ++ T) mark r
all_within S T r mark is same = record {
  within = omega (arith, is);
  together =
      subst (λ xss. HaveSameMembers ((S ++ T) ++ union xss) r.taken) (sym (drop_all mark r.buffer (omega (arith, is))))
      (subst (λ xs. HaveSameMembers xs r.taken) (sym (append-nil (S ++ T))) same);
}

-- the set of a packet of what is not stored has what is in the deltas, and nothing that was not taken in
module _ (S : List Op) (mark : ℕ) (r : Replica) (h : IsStoredUpTo S mark r) (x : Op) where
  set_taken : (b c : Bool) → IsMember x (set_of r (cond b Full (cond c Full (Interval mark (length r.buffer))))) → IsMember x r.taken
  set_taken true c m = m
  set_taken false true m = m
  set_taken false false m = was_buffered S mark r h x (subst (λ xss. IsMember x (union xss)) (to_the_end r.buffer mark h.within) m)

  taken_set : (b c : Bool) → IsMember x (union (drop mark r.buffer)) → IsMember x (set_of r (cond b Full (cond c Full (Interval mark (length r.buffer)))))
  taken_set true c m = was_buffered S mark r h x m
  taken_set false true m = was_buffered S mark r h x m
  taken_set false false m = subst (λ xss. IsMember x (union xss)) (sym (to_the_end r.buffer mark h.within)) m

-- a packet that a test lets through
let_through : (b : Bool) (p q : Sent) → cond b (Some p) None ≡ Some q → (b ≡ true) × (p ≡ q)
let_through true p q e = (refl, some_is p q e)
let_through false p q e = no_some q e

numbered_one : (b : Bool) (r s : Replica) (n : ℕ) (later : Option Replica) → (r.number == n) ≡ b → cond b (Some r) later ≡ Some s → (later ≡ Some s → s.number ≡ n) → s.number ≡ n
numbered_one true r s n later is e rest = ap number (sym (some_is r s e)) ∙ eqb-true r.number n is
numbered_one false r s n later is e rest = rest e

numbered : (rs : List Replica) (n : ℕ) (s : Replica) → with_number rs n ≡ Some s → s.number ≡ n
numbered [] n s e = no_some s e
numbered (r ∷ rs) n s e = numbered_one (r.number == n) r s n (with_number rs n) refl e (numbered rs n s)

listed_one : (b : Bool) (r s : Replica) (n : ℕ) (rs : List Replica) → (r.number == n) ≡ b → cond b (Some r) (with_number rs n) ≡ Some s → (with_number rs n ≡ Some s → IsMember n (map number rs)) → IsMember n (r.number ∷ map number rs)
listed_one true r s n rs is e rest = inl (eqb-true r.number n is)
listed_one false r s n rs is e rest = inr (rest e)

is_listed : (rs : List Replica) (n : ℕ) (s : Replica) → with_number rs n ≡ Some s → IsMember n (map number rs)
is_listed [] n s e = no_some s e
is_listed (r ∷ rs) n s e = listed_one (r.number == n) r s n rs refl e (is_listed rs n s)

-- packets by their senders, each made for a number and with that as its sender
module _ (made : ℕ → Option Sent) (own : (n : ℕ) (p : Sent) → made n ≡ Some p → p.sender ≡ n) (n : ℕ) (x : Op) where
  abbrev From : List ℕ → Type 0
  From ns = IsMember x (union (sets_from n (filter_map made ns)))

  kept_one : (b : Bool) (p : Sent) (ps : List Sent) → (p.sender == n) ≡ b → IsMember x (union (map (λ q. q.set) (cond b (p ∷ ps) ps))) → ((p.sender ≡ n) × IsMember x p.set) ⊎ IsMember x (union (map (λ q. q.set) ps))
  kept_one true p ps is m = from_both x p.set (union (map (λ q. q.set) ps)) (λ a. inl (eqb-true p.sender n is, a)) (λ b. inr b) m
  kept_one false p ps is m = inr m

  came_one : (o : Option Sent) (m : ℕ) (ps : List Sent) → made m ≡ o → IsMember x (union (sets_from n (cons_option o ps))) → ((p : Sent) × (made n ≡ Some p) × IsMember x p.set) ⊎ IsMember x (union (sets_from n ps))
  came_one None m ps is h = inr h
  came_one (Some p) m ps is h =
      elim (kept_one (p.sender == n) p (filter (λ q. q.sender == n) ps) refl h) [
        | inl here ↦ inl (p, ap made (sym here.0 ∙ own m p is) ∙ is, here.1)
        | inr later ↦ inr later
      ]

  pub came_from : (ns : List ℕ) → From ns → (p : Sent) × (made n ≡ Some p) × IsMember x p.set
  came_from [] h = absurd h
  came_from (m ∷ ns) h = elim (came_one (made m) m (filter_map made ns) refl h) [ inl here ↦ here | inr later ↦ came_from ns later ]

  stay_one : (b : Bool) (p : Sent) (ps : List Sent) → IsMember x (union (map (λ q. q.set) ps)) → IsMember x (union (map (λ q. q.set) (cond b (p ∷ ps) ps)))
  stay_one true p ps h = member_behind x p.set (union (map (λ q. q.set) ps)) h
  stay_one false p ps h = h

  stays_from : (o : Option Sent) (ps : List Sent) → IsMember x (union (sets_from n ps)) → IsMember x (union (sets_from n (cons_option o ps)))
  stays_from None ps h = h
  stays_from (Some p) ps h = stay_one (p.sender == n) p (filter (λ q. q.sender == n) ps) h

  module _ (p : Sent) (is : made n ≡ Some p) (in_set : IsMember x p.set) where
    put_one : (b : Bool) (ps : List Sent) → b ≡ true → IsMember x (union (map (λ q. q.set) (cond b (p ∷ ps) ps)))
    put_one true ps e = member_before x p.set (union (map (λ q. q.set) ps)) in_set
    put_one false ps e = absurd (let no : ⊥ = cc in no)

    put : (ps : List Sent) → IsMember x (union (sets_from n (p ∷ ps)))
    put ps = put_one (p.sender == n) (filter (λ q. q.sender == n) ps) (eq-eqb p.sender n (own n p is))

    pub went_to : (ns : List ℕ) → IsMember n ns → From ns
    went_to [] m = absurd m
    went_to (k ∷ ns) (inl same) = subst (λ o. IsMember x (union (sets_from n (cons_option o (filter_map made ns))))) (sym (ap made same ∙ is)) (put (filter_map made ns))
    went_to (k ∷ ns) (inr later) = stays_from (made k) (filter_map made ns) (went_to ns later)

-- the packet of what is not stored of a coordinator
owned : (mark : ℕ) (o : Option Replica) (n : ℕ) (p : Sent) → ((r : Replica) → o ≡ Some r → r.number ≡ n) → unstored_by mark o ≡ Some p → p.sender ≡ n
owned mark None n p its e = no_some p e
owned mark (Some r) n p its e = ap (λ (q : Sent). q.sender) (sym (let_through (nat_lt mark (length r.buffer)) _ p e).1) ∙ its r refl

module _ (S : ℕ → List Op) (k : Following) (h : AreStored S k) (n : ℕ) (r : Replica) (lt : n < 256) (there : with_number k.world.replicas n ≡ Some r) where
  its_own : (m : ℕ) (p : Sent) → unstored_at k m ≡ Some p → p.sender ≡ m
  its_own m p e = owned (stored_mark_at k m) (with_number k.world.replicas m) m p (numbered k.world.replicas m) e

  abbrev mark : ℕ
  mark = stored_mark_at k n

  old : IsStoredUpTo (S n) mark r
  old = h n r lt there

  unstored_is : unstored_at k n ≡ unstored_packet mark r
  unstored_is = ap (unstored_by mark) there

  abbrev Anew : Op → Type 0
  Anew x = IsMember x (union (sets_from n (unstored_of k)))

  anew_taken : (x : Op) → Anew x → IsMember x r.taken
  anew_taken x m =
      let from = came_from (unstored_at k) its_own n x (map number k.world.replicas) m in
      let is = let_through (nat_lt mark (length r.buffer)) _ from.0 (sym unstored_is ∙ from.1) in
      set_taken (S n) mark r old x (nat_le r.limit (length r.steps)) (nat_lt mark r.floor) (subst (λ (p : Sent). IsMember x p.set) (sym is.1) from.2)

  buffered_anew : (x : Op) (b : Bool) → nat_lt mark (length r.buffer) ≡ b → IsMember x (union (drop mark r.buffer)) → Anew x
  buffered_anew x true is m =
      let packet : Sent = record { sender = r.number; number = 0; set = set_of r (unstored_range mark r) } in
      went_to (unstored_at k) its_own n x packet (unstored_is ∙ ap (λ b. cond b (Some packet) None) is)
      (taken_set (S n) mark r old x (nat_le r.limit (length r.steps)) (nat_lt mark r.floor) m)
      (map number k.world.replicas) (is_listed k.world.replicas n r there)
  buffered_anew x false is m = absurd (subst (λ xss. IsMember x (union xss)) (drop_all mark r.buffer (ltb-false mark (length r.buffer) is)) m)

  taken_anew : (x : Op) → IsMember x r.taken → IsMember x (stored_also S (unstored_of k) n)
  taken_anew x m =
      from_both x (S n) (union (drop mark r.buffer)) (λ a. member_before x (S n) _ a)
      (λ b. member_behind x (S n) _ (buffered_anew x (nat_lt mark (length r.buffer)) refl b))
      (old.together.1 x m)

  pub commit_stored : IsStoredUpTo (stored_also S (unstored_of k) n) (stored_mark_at (all_stored k) n) r
  commit_stored =
      all_within (S n) (union (sets_from n (unstored_of k))) r (stored_mark_at (all_stored k) n) (marked k.world.replicas n r lt there)
      (λ x. from_both x (S n) (union (sets_from n (unstored_of k))) (was_taken (S n) mark r old x) (anew_taken x), taken_anew)

  pub known_stored : mark ≡ length r.buffer → table_of (S n) ≡ table_of r.taken
  known_stored is =
      know_same (S n) r.taken
      (subst (λ xs. HaveSameMembers xs r.taken) (append-nil (S n)) (subst (λ xss. HaveSameMembers (S n ++ union xss) r.taken) (drop_all mark r.buffer (omega (arith, is))) old.together))

-- all that each knows is stored

full_own : (o : Option Replica) (n : ℕ) (p : Sent) → ((r : Replica) → o ≡ Some r → r.number ≡ n) → option_map whole_of o ≡ Some p → p.sender ≡ n
full_own None n p its e = no_some p e
full_own (Some r) n p its e = ap (λ (q : Sent). q.sender) (sym (some_is (whole_of r) p e)) ∙ its r refl

pub full_stored : (k : Following) → AreStored (stored_also nothing_stored (full_packets_of k)) (all_stored k)
full_stored k n r lt there =
    let own : (m : ℕ) (p : Sent) → full_packet_at k m ≡ Some p → p.sender ≡ m = λ m p e. full_own (with_number k.world.replicas m) m p (numbered k.world.replicas m) e in
    let is : full_packet_at k n ≡ Some (whole_of r) = ap (option_map whole_of) there in
    all_within [] (union (sets_from n (full_packets_of k))) r (stored_mark_at (all_stored k) n) (marked k.world.replicas n r lt there) (
      λ x m.
          let from = came_from (full_packet_at k) own n x (map number k.world.replicas) m in
          subst (λ (p : Sent). IsMember x p.set) (sym (some_is (whole_of r) from.0 (sym is ∙ from.1))) from.2,
      λ x m. went_to (full_packet_at k) own n x (whole_of r) is m (map number k.world.replicas) (is_listed k.world.replicas n r there),
    )

-- stored packets are merged

module _ (behind : Packet → List Op) (n : ℕ) where
  abbrev sets_behind : List Packet → List Op
  sets_behind ps = union (sets_from n (map (packet_by_ops behind) ps))

  -- what the replica took in, beside what it had
  record Restored (o : Option Replica) (ps : List Packet) (now : Replica) : Type 0 where
    replica : Replica
    there : o ≡ Some replica
    taken : now.taken ≡ replica.taken ++ sets_behind ps

  restored_one : (b : Bool) (p : Packet) (ps : List Packet) (r : Replica) → (p.sender == n) ≡ b
      → (cond b (happens r 0 (event.Merge (packet_by_ops behind p))) r).taken ++ sets_behind ps ≡ r.taken ++ sets_behind (p ∷ ps)
  restored_one true p ps r is = append_assoc r.taken (behind p) (sets_behind ps) ∙ ap (λ b. r.taken ++ union (map (λ q. q.set) (cond b (packet_by_ops behind p ∷ filter (λ q. q.sender == n) (map (packet_by_ops behind) ps)) (filter (λ q. q.sender == n) (map (packet_by_ops behind) ps))))) (sym is)
  restored_one false p ps r is = ap (λ b. r.taken ++ union (map (λ q. q.set) (cond b (packet_by_ops behind p ∷ filter (λ q. q.sender == n) (map (packet_by_ops behind) ps)) (filter (λ q. q.sender == n) (map (packet_by_ops behind) ps))))) (sym is)

  was_restored : (ps : List Packet) (w : WorldOfSets) (now : Replica) → with_number (restored_world behind w ps).replicas n ≡ Some now → Restored (with_number w.replicas n) ps now
  was_restored [] w now e = record { replica = now; there = e; taken = sym (append-nil now.taken) }
  was_restored (p ∷ ps) w now e =
      let packet = packet_by_ops behind p in
      let after = was_restored ps (taken_in w p.sender 0 packet) now e in
      let before = was p.sender n (λ r. happens r 0 (event.Merge packet)) (same_number 0 (event.Merge packet)) w.replicas after.replica after.there in
      record {
        replica = before.replica;
        there = before.there;
        taken = after.taken ∙ ap (λ (r : Replica). r.taken ++ sets_behind ps) before.is ∙ restored_one (p.sender == n) p ps before.replica refl;
      }

pub restored_stored : (behind : Packet → List Op) (k : Following) (packets : List Packet) → HaveNothing k
    → AreStored (stored_also nothing_stored (map (packet_by_ops behind) packets)) (all_stored (restored behind k packets))
restored_stored behind k packets h n r lt there =
    let now = was_restored behind n packets k.world r there in
    let taken : r.taken ≡ union (sets_from n (map (packet_by_ops behind) packets)) = now.taken ∙ ap (λ xs. xs ++ sets_behind behind n packets) (h n now.replica now.there) in
    all_within [] (union (sets_from n (map (packet_by_ops behind) packets))) r (stored_mark_at (all_stored (restored behind k packets)) n)
    (marked (restored_world behind k.world packets).replicas n r lt there)
    (subst (λ xs. HaveSameMembers xs r.taken) taken (λ x m. m, λ x m. m))
