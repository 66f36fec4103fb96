-- After each commit each coordinator would know again, by its packets in the store, what it knows.
use Rattle.std.proofs.Common.{◌≡◌, ◌==◌, ◌||◌, ◌<◌, ℕ, zero, suc, Bool, true, false, cond, List, [], ◌∷◌, ◌++◌, All, Option, Some, None, map, length, refl, sym, ap, ◌∙◌, subst, inl, inr, arith, eqb-true}
use Rattle.std.specs.List.{list_any}
use Rattle.std.proofs.lemmas.Bool.{eqb-false}
use Rattle.fm_records.specs.declared.ops.Op.{Op}
use Rattle.fm_records.specs.Sets.{IsMember}
use Rattle.fm_records.specs.Know.{table_of}
use Rattle.fm_records.specs.OpsOfTable.{ops}
use Rattle.fm_records.specs.Ranges.{CanBe}
use Rattle.fm_records.proofs.SpelledLaws.{know_ops}
use Rattle.fm_delta.specs.declared.packet.Packet.{Packet}
use Rattle.fm_coord.specs.Events.{Replica, happens}
use Rattle.fm_coord.specs.Events as event
use Rattle.fm_coord.specs.Replays.{seen_packet}
use Rattle.fm_world.specs.Worlds.{WorldOfSets, with_number, taken_in}
use Rattle.fm_store.specs.Stores.{recovered}
use Rattle.fm_io.specs.Runs.{IsTaken, Run}
use Rattle.fm_io.specs.Groups.{LineGroup, Groups}
use Rattle.fm_service.specs.StreamSteps.{Following, StandBehind, Answers, packet_by_ops}
use Rattle.fm_service.specs.Storing.{numbers_listed, stored_mark_at, unstored_of, full_packets_of, all_stored, restored_world, restored, AreStored, nothing_stored, stored_also, HaveNothing}
use Rattle.fm_service.proofs.Anew.{number, same_changed}
use Rattle.fm_store.specs.KnownPackets.{known_packets}
use Rattle.fm_durable.specs.DurableSteps.{Durable, not_opened, GoesOn, DurableAnswers, with_unstored, with_full, DurableCommits, AreRecoverable}
use Rattle.fm_durable.specs.DurableServices.{AreKnownAlike}
use Rattle.fm_durable.proofs.Recovering.{recovered_more, recovered_can_be, known_again, table_behind}

-- ---- the coordinators that are listed

pub same_restored : (behind : Packet → List Op) (w : WorldOfSets) (ps : List Packet) → map number (restored_world behind w ps).replicas ≡ map number w.replicas
same_restored behind w [] = refl
same_restored behind w (p ∷ ps) =
    same_restored behind (taken_in w p.sender 0 (packet_by_ops behind p)) ps
    ∙ same_changed p.sender (λ r. happens r 0 (event.Merge (packet_by_ops behind p))) (λ r. refl) w.replicas

abbrev is_listed : ℕ → List ℕ → Bool
is_listed n ns = list_any (λ m. m == n) ns

listed_one : (b e : Bool) (r s : Replica) (o : Option Replica) → cond b (Some r) o ≡ Some s → (o ≡ Some s → e ≡ true) → (b || e) ≡ true
listed_one true e r s o is rest = refl
listed_one false e r s o is rest = rest is

listed : (rs : List Replica) (n : ℕ) (s : Replica) → with_number rs n ≡ Some s → is_listed n (map number rs) ≡ true
listed [] n s e = absurd (let no : ⊥ = cc in no)
listed (r ∷ rs) n s e = listed_one (r.number == n) (is_listed n (map number rs)) r s (with_number rs n) e (listed rs n s)

member_one : (b e : Bool) (m n : ℕ) (ns : List ℕ) → (m == n) ≡ b → (b || e) ≡ true → (e ≡ true → IsMember n ns) → IsMember n (m ∷ ns)
member_one true e m n ns is h rest = inl (eqb-true m n is)
member_one false e m n ns is h rest = inr (rest h)

is_member : (ns : List ℕ) (n : ℕ) → is_listed n ns ≡ true → IsMember n ns
is_member [] n e = absurd (let no : ⊥ = cc in no)
is_member (m ∷ ns) n e = member_one (m == n) (is_listed n ns) m n ns refl e (is_member ns n)

there_one : (b : Bool) (r : Replica) (rs : List Replica) (n : ℕ) → (r.number == n) ≡ b → IsMember n (r.number ∷ map number rs) → (IsMember n (map number rs) → (s : Replica) × (with_number rs n ≡ Some s))
    → (s : Replica) × (cond b (Some r) (with_number rs n) ≡ Some s)
there_one true r rs n is m later = (r, refl)
there_one false r rs n is (inl same) later = absurd (eqb-false r.number n is same)
there_one false r rs n is (inr m) later = later m

-- a replica has a number that is listed
there : (rs : List Replica) (n : ℕ) → IsMember n (map number rs) → (s : Replica) × (with_number rs n ≡ Some s)
there [] n m = absurd m
there (r ∷ rs) n m = there_one (r.number == n) r rs n refl m (there rs n)

-- ---- one packet of all that each knew

abbrev Possible : List Packet → Type 0
Possible ps = All (λ p. CanBe p.value) ps

possible_more : (p : Packet) (ps : List Packet) → CanBe p.value → Possible ps → Possible (p ∷ ps)
possible_more p ps first rest zero d lt = first
possible_more p ps first rest (suc k) d lt = rest k d (omega arith)

possible_one : (b : Bool) (p : Packet) (ps : List Packet) → CanBe p.value → Possible ps → Possible (cond b (p ∷ []) [] ++ ps)
possible_one true p ps first rest = possible_more p ps first rest
possible_one false p ps first rest = rest

possible_known : (ns : List ℕ) (ps : List Packet) → Possible ps → Possible (known_packets ns ps)
possible_known [] ps h = λ k d lt. absurd (omega arith)
possible_known (m ∷ ns) ps h =
    possible_one (list_any (λ p. p.sender == m) ps) (record { sender = m; number = 0; value = recovered m ps }) (known_packets ns ps)
    (recovered_can_be m ps h) (possible_known ns ps h)

-- ---- what is kept

-- of what coordinators know these operations are stored, and these are what each would know again by its packets
pub record Kept (k : Following) (ps : List Packet) : Type 0 where
  pub set : ℕ → List Op
  pub stored : AreStored set k
  pub knows : (n : ℕ) → recovered n ps ≡ table_of (set n)

abbrev pub Holds : Durable → Type 0
Holds t = (k : Following) → t.following ≡ Some k → Kept k t.packets

some_is : {A : Type 0} (a b : A) → Some a ≡ Some b → a ≡ b
some_is a b e = cc

no_some : {A P : Type 0} (a : A) → None ≡ Some a → P
no_some a e = absurd (let no : ⊥ = cc in no)

-- what lines and commits do to what is stored
pub record StoredLaws (most : ℕ) (behind : Packet → List Op) : Type 0 where
  pub opened : (line answer : List ℕ) (k : Following) → Answers most behind None line answer (Some k) → HaveNothing k × AreStored nothing_stored k
  pub line : (S : ℕ → List Op) (line answer : List ℕ) (k j : Following) → Answers most behind (Some k) line answer (Some j) → AreStored S k → AreStored S j
  pub stored : (S : ℕ → List Op) (k : Following) → AreStored S k → AreStored (stored_also S (unstored_of k)) (all_stored k)
  pub full : (k : Following) → AreStored (stored_also nothing_stored (full_packets_of k)) (all_stored k)
  pub marked : (k : Following) (n : ℕ) (r : Replica) → n < 256 → with_number k.world.replicas n ≡ Some r → stored_mark_at (all_stored k) n ≡ length r.buffer
  pub restored_so : (k : Following) (packets : List Packet) → HaveNothing k → AreStored (stored_also nothing_stored (map (packet_by_ops behind) packets)) (all_stored (restored behind k packets))
  pub listed_so : (line answer : List ℕ) (k j : Following) → Answers most behind (Some k) line answer (Some j) → numbers_listed (Some j) ≡ numbers_listed (Some k)
  pub known : (S : ℕ → List Op) (k : Following) (n : ℕ) (r : Replica) → n < 256 → AreStored S k → with_number k.world.replicas n ≡ Some r → stored_mark_at k n ≡ length r.buffer
      → table_of (S n) ≡ table_of r.taken

module _ (most : ℕ) (behind : Packet → List Op) (stand : StandBehind behind) (laws : StoredLaws most behind) where
  -- at the opening

  module _ (k : Following) (ps : List Packet) (possible : Possible ps) where
    abbrev begun_with : List Packet
    begun_with = known_packets (numbers_listed (Some k)) ps

    abbrev set_begun : ℕ → List Op
    set_begun = stored_also nothing_stored (map (packet_by_ops behind) begun_with)

    -- of coordinators that are not listed whatever spells what the packets say
    abbrev chosen : ℕ → Bool → List Op
    chosen n b = cond b (set_begun n) (ops (recovered n ps))

    chosen_knows : (n : ℕ) (b : Bool) → is_listed n (numbers_listed (Some k)) ≡ b → recovered n ps ≡ table_of (chosen n b)
    chosen_knows n true e =
        sym (known_again n ps possible (numbers_listed (Some k)) (is_member (numbers_listed (Some k)) n e))
        ∙ sym (table_behind behind stand n begun_with (possible_known (numbers_listed (Some k)) ps possible))
    chosen_knows n false e = know_ops (recovered n ps) (recovered_can_be n ps possible).table

    begins : HaveNothing k → Kept (all_stored (restored behind k begun_with)) ps
    begins nothing = record {
      set = λ n. chosen n (is_listed n (numbers_listed (Some k)));
      stored = λ n r lt there.
          let is : is_listed n (numbers_listed (Some k)) ≡ true =
          ap (is_listed n) (sym (same_restored behind k.world begun_with)) ∙ listed (restored_world behind k.world begun_with).replicas n r there in
          rw is (laws.restored_so k begun_with nothing n r lt there);
      knows = λ n. chosen_knows n (is_listed n (numbers_listed (Some k))) refl;
    }

  -- at a line

  module _ (label : List ℕ) (content : Option (List ℕ)) where
    pub holds_after_line : (old mid : Option Following) (s t : Durable) (line answer : List ℕ) → ((k : Following) → old ≡ Some k → Kept k s.packets)
        → Answers most behind old line answer mid → GoesOn behind label content s old mid t → Holds t
    holds_after_line None None s t line answer h a on = λ j e. no_some j (sym (ap (λ (x : Durable). x.following) on) ∙ e)
    holds_after_line None (Some k) s t line answer h a on = λ j e.
        let begun = begins k t.packets on.can_be (laws.opened line answer k a).0 in
        let is : j ≡ all_stored (restored behind k (begun_with k t.packets on.can_be)) = sym (some_is on.begun j (sym on.is ∙ e)) ∙ on.restores.is in
        subst (λ (i : Following). Kept i t.packets) (sym is) begun
    holds_after_line (Some k) None s t line answer h a on = λ j e. no_some j (sym (ap (λ (x : Durable). x.following) on) ∙ e)
    holds_after_line (Some k) (Some i) s t line answer h a on = λ j e.
        let kept = h k refl in
        let is : j ≡ i = sym (some_is i j (sym (ap (λ (x : Durable). x.following) on) ∙ e)) in
        let packets : t.packets ≡ s.packets = ap (λ (x : Durable). x.packets) on in
        record {
          set = kept.set;
          stored = subst (AreStored kept.set) (sym is) (laws.line kept.set line answer k i a kept.stored);
          knows = λ n. ap (recovered n) packets ∙ kept.knows n;
        }

    abbrev Step : Durable → List ℕ → List ℕ → Durable → Type 0
    Step = DurableAnswers most behind label content

    after_taken : (s t : Durable) (line answer : List ℕ) → Holds s → IsTaken Step s line answer t → Holds t
    after_taken s t line answer h (inl skipped) = subst Holds (sym skipped.1) h
    after_taken s t line answer h (inr a) = holds_after_line s.following a.mid s t line answer h a.answered a.goes_on

    after_run : (s t : Durable) (lines : List (List ℕ)) (text : List ℕ) → Holds s → Run Step s lines text t → Holds t
    after_run s t [] text h r = subst Holds (sym r.1) h
    after_run s t (line ∷ lines) text h r = after_run r.0 t lines r.2 (after_taken s r.0 line r.1 h r.3) r.5

    -- at a commit

    -- all is stored, by these packets
    all_known : (k : Following) (ps : List Packet) (S : ℕ → List Op) → AreStored S (all_stored k) → ((n : ℕ) → recovered n ps ≡ table_of (S n))
        → (n : ℕ) (r : Replica) → n < 256 → with_number k.world.replicas n ≡ Some r → recovered n ps ≡ table_of r.taken
    all_known k ps S stored knows n r lt here = knows n ∙ laws.known S (all_stored k) n r lt stored here (laws.marked k n r lt here)

    recoverable : (k : Following) (t : Durable) (S : ℕ → List Op) → t.following ≡ Some (all_stored k) → AreStored S (all_stored k) → ((n : ℕ) → recovered n t.packets ≡ table_of (S n))
        → Holds t × AreRecoverable t
    recoverable k t S following stored knows = (
      λ j e. subst (λ (i : Following). Kept i t.packets) (some_is (all_stored k) j (sym following ∙ e)) (record { set = S; stored = stored; knows = knows }),
      λ j n r lt e there.
          let here : with_number k.world.replicas n ≡ Some r = ap (λ (i : Following). with_number i.world.replicas n) (some_is (all_stored k) j (sym following ∙ e)) ∙ there in
          all_known k t.packets S stored knows n r lt here,
    )

    -- what is added, and what would be put in the place of all
    more_known : (k : Following) (ps : List Packet) (kept : Kept k ps) (n : ℕ) → recovered n (ps ++ map seen_packet (unstored_of k)) ≡ table_of (stored_also kept.set (unstored_of k) n)
    more_known k ps kept n = recovered_more n ps (unstored_of k) (kept.set n) (kept.knows n)

    full_known : (k : Following) (n : ℕ) → recovered n (map seen_packet (full_packets_of k)) ≡ table_of (stored_also nothing_stored (full_packets_of k) n)
    full_known k n = recovered_more n [] (full_packets_of k) [] refl

    pub known_alike : (k : Following) (ps : List Packet) → Kept k ps → AreKnownAlike (numbers_listed (Some k)) (map seen_packet (full_packets_of k)) (ps ++ map seen_packet (unstored_of k))
    known_alike k ps kept n lt m =
        let its = there k.world.replicas n m in
        all_known k (map seen_packet (full_packets_of k)) (stored_also nothing_stored (full_packets_of k)) (laws.full k) (full_known k) n its.0 lt its.1
        ∙ sym (all_known k (ps ++ map seen_packet (unstored_of k)) (stored_also kept.set (unstored_of k)) (laws.stored kept.set k kept.stored) (more_known k ps kept) n its.0 lt its.1)

    adds : (o : Option Following) (s : Durable) → ((k : Following) → o ≡ Some k → Kept k s.packets) → Holds (with_unstored s o) × AreRecoverable (with_unstored s o)
    adds None s h = (λ j e. no_some j e, λ j n r lt e there. no_some j e)
    adds (Some k) s h =
        let kept = h k refl in
        recoverable k (with_unstored s (Some k)) (stored_also kept.set (unstored_of k)) refl (laws.stored kept.set k kept.stored) (more_known k s.packets kept)

    puts : (o : Option Following) (s : Durable) → Holds (with_full s o) × AreRecoverable (with_full s o)
    puts None s = (λ j e. no_some j e, λ j n r lt e there. no_some j e)
    puts (Some k) s = recoverable k (with_full s (Some k)) (stored_also nothing_stored (full_packets_of k)) refl (laws.full k) (full_known k)

    pub after_commit : (s t : Durable) → Holds s → DurableCommits s t → Holds t × AreRecoverable t
    after_commit s t h (inl c) = subst (λ (x : Durable). Holds x × AreRecoverable x) (sym c) (adds s.following s h)
    after_commit s t h (inr c) = subst (λ (x : Durable). Holds x × AreRecoverable x) (sym c) (puts s.following s)

    after_groups : (s t : Durable) (groups : List LineGroup) → Holds s → AreRecoverable s → Groups Step DurableCommits s groups t → AreRecoverable t
    after_groups s t [] h kept e = subst AreRecoverable (sym e) kept
    after_groups s t (g ∷ gs) h kept r =
        let done = r.1 in
        let both = after_commit done.ran r.0 (after_run s done.ran g.lines g.answers h done.run) done.commit in
        after_groups r.0 t gs both.0 both.1 r.2

    pub all_kept : (t : Durable) (groups : List LineGroup) → Groups Step DurableCommits (not_opened label) groups t → AreRecoverable t
    all_kept t groups r = after_groups (not_opened label) t groups (λ k e. no_some k e) (λ k n s lt e there. no_some k e) r
