-- More entries at the end of a listing.
use Rattle.std.proofs.Common.{◌≡◌, ◌<◌, ◌≤◌, ◌==◌, ◌+◌, ℕ, zero, suc, Bool, true, false, cond, List, [], ◌∷◌, ◌++◌, Some, None, length, take, drop, get_or, slice_set, map, refl, sym, ap, ◌∙◌, subst, inl, inr, arith, eq-eqb, not, nat_lt, ltb-true, ltb-false}
use Rattle.std.specs.Prelude.{option_map, ◌⊎◌}
use Rattle.std.specs.Bool.{Decides}
use Rattle.std.specs.List.{position_or_len}
use Rattle.std.proofs.lemmas.Bool.{eqb-true}
use Rattle.std.proofs.lemmas.List.{append-nil, append_assoc, take_more, map-append, length-drop, take-append-drop}
use Rattle.fm_records.specs.Sets.{IsMember}
use Rattle.fm_delta.specs.declared.packet.Packet.{Packet}
use Rattle.fm_delta.specs.Packets.{same_packet}
use Rattle.fm_delta.specs.laws.PacketLaws.{packet_Decides}
use Rattle.fm_coord.specs.declared.entry.Call.{Call}
use Rattle.fm_coord.specs.declared.entry.Call.TheVariants as call
use Rattle.fm_coord.specs.declared.entry.Entry.{Entry}
use Rattle.fm_coord.specs.declared.entry.Reply.{Reply}
use Rattle.fm_coord.specs.declared.entry.Reply.TheVariants as reply
use Rattle.fm_coord.specs.States.{State}
use Rattle.fm_world.specs.declared.step.Act.{Act}
use Rattle.fm_world.specs.declared.step.Act.TheVariants as act
use Rattle.fm_world.specs.declared.step.Step.{Step}
use Rattle.fm_coord.specs.Numbers.{AreDistinct}
use Rattle.fm_world.specs.Listings.{StopsAfter, IsStuck, Made, entries_at, packet_in, packets_of, IsGiven, Follows, act_for, step_for, steps_for, CannotGo, number_in, Continues, history_at, history_in, IsListing}
use Rattle.fm_world.specs.inner.Sweeps.{AreStopped, act_asked, AreTaken, IsSwept, IsOneTaken, AreFirstTaken, made_at}
use Rattle.fm_world.specs.Represents.{state_with}

steps_more : (ps : List Packet) (ms ns : List Made) → steps_for ps (ms ++ ns) ≡ steps_for ps ms ++ steps_for (ps ++ packets_of ms) ns
steps_more ps [] ns = ap (λ qs. steps_for qs ns) (sym (append-nil ps))
steps_more ps (x ∷ ms) ns =
    ap (λ ss. step_for ps x ∷ ss) (steps_more (ps ++ packet_in x.entry.reply) ms ns ∙ ap (λ qs. steps_for (ps ++ packet_in x.entry.reply) ms ++ steps_for qs ns) (append_assoc ps (packet_in x.entry.reply) (packets_of ms)))

packets_more : (ms ns : List Made) → packets_of (ms ++ ns) ≡ packets_of ms ++ packets_of ns
packets_more [] ns = refl
packets_more (x ∷ ms) ns = ap (λ ps. packet_in x.entry.reply ++ ps) (packets_more ms ns) ∙ sym (append_assoc (packet_in x.entry.reply) (packets_of ms) (packets_of ns))

follows_more : (ps : List Packet) (ms ns : List Made) → Follows ps ms → Follows (ps ++ packets_of ms) ns → Follows ps (ms ++ ns)
follows_more ps [] ns h g = subst (λ qs. Follows qs ns) (append-nil ps) g
follows_more ps (x ∷ ms) ns h g = (h.0, follows_more (ps ++ packet_in x.entry.reply) ms ns h.1 (subst (λ qs. Follows qs ns) (sym (append_assoc ps (packet_in x.entry.reply) (packets_of ms))) g))

entries_more : (n : ℕ) (ms ns : List Made) → entries_at n (ms ++ ns) ≡ entries_at n ms ++ entries_at n ns
entries_more n [] ns = refl
entries_more n (x ∷ ms) ns = by (x.at == n) (entries_more n ms ns) where
  by : (b : Bool) → entries_at n (ms ++ ns) ≡ entries_at n ms ++ entries_at n ns → cond b (x.entry ∷ entries_at n (ms ++ ns)) (entries_at n (ms ++ ns)) ≡ cond b (x.entry ∷ entries_at n ms) (entries_at n ms) ++ entries_at n ns
  by true h = ap (λ es. x.entry ∷ es) h
  by false h = h

its_entries : (n : ℕ) (es : List Entry) → entries_at n (made_at n es) ≡ es
its_entries n [] = refl
its_entries n (e ∷ es) = ap (λ b. cond b (e ∷ entries_at n (made_at n es)) (entries_at n (made_at n es))) (eq-eqb n n refl) ∙ ap (λ l. e ∷ l) (its_entries n es)

not_its : (n k : ℕ) (es : List Entry) → (n ≡ k → ⊥) → entries_at k (made_at n es) ≡ []
not_its n k [] far = refl
not_its n k (e ∷ es) far = by (n == k) (eqb-true n k) (not_its n k es far) where
  by : (b : Bool) → (b ≡ true → n ≡ k) → entries_at k (made_at n es) ≡ [] → cond b (e ∷ entries_at k (made_at n es)) (entries_at k (made_at n es)) ≡ []
  by true is h = absurd (far (is refl))
  by false is h = h

-- the others have what they had
others : (n : ℕ) (es : List Entry) (ss : List State) (ns : List ℕ) (ms : List Made) → (IsMember n (map number_in ss) → ⊥) → AreTaken ss ns ms → AreTaken ss ns (ms ++ made_at n es)
others n es [] [] ms far h = tt
others n es [] (k ∷ ns) ms far h = absurd h
others n es (s ∷ ss) [] ms far h = absurd h
others n es (s ∷ ss) (k ∷ ns) ms far h = (
  (entries_more s.number ms (made_at n es) ∙ ap (λ l. entries_at s.number ms ++ l) (not_its n s.number es (λ e. far (inl (sym e)))) ∙ append-nil (entries_at s.number ms) ∙ h.0.0, h.0.1),
  others n es ss ns ms (λ at. far (inr at)) h.1,
)

module _ (p : Packet) where
  member_before : (ps : List Packet) → IsMember p ps → position_or_len (λ q. same_packet q p) ps < length ps
  member_before [] h = absurd h
  member_before (x ∷ ps) h = by (same_packet x p) (packet_Decides x p) h (member_before ps) where
    by : (b : Bool) → Decides b (x ≡ p) → IsMember p (x ∷ ps) → (IsMember p ps → position_or_len (λ q. same_packet q p) ps < length ps) → cond (not b) (1 + position_or_len (λ q. same_packet q p) ps) 0 < length (x ∷ ps)
    by true d h rest = omega arith
    by false d (inl e) rest = absurd (let is = d.1 e in let no : ⊥ = cc in no)
    by false d (inr h) rest = let lt = rest h in omega arith

  before_member : (ps : List Packet) → position_or_len (λ q. same_packet q p) ps < length ps → IsMember p ps
  before_member [] lt = absurd (omega arith)
  before_member (x ∷ ps) lt = by (same_packet x p) (packet_Decides x p) lt (before_member ps) where
    by : (b : Bool) → Decides b (x ≡ p) → cond (not b) (1 + position_or_len (λ q. same_packet q p) ps) 0 < length (x ∷ ps) → (position_or_len (λ q. same_packet q p) ps < length ps → IsMember p ps) → IsMember p (x ∷ ps)
    by true d lt rest = inl (d.0 refl)
    by false d lt rest = inr (rest (omega arith))

test_held : {A B : Type 0} (f : A → B) (b : Bool) (a : A) (c : B) → option_map f (cond b (Some a) None) ≡ Some c → (b ≡ true) × (c ≡ f a)
test_held f true a c h = (refl, let is : c ≡ f a = cc in is)
test_held f false a c h = absurd (let no : ⊥ = cc in no)

test_fell : {A B : Type 0} (f : A → B) (b : Bool) (a : A) → option_map f (cond b (Some a) None) ≡ None → b ≡ false
test_fell f true a h = absurd (let no : ⊥ = cc in no)
test_fell f false a h = refl

some_is : {A : Type 0} (a b : A) → Some a ≡ Some b → b ≡ a
some_is a b h = let is : b ≡ a = cc in is

some_not : {A : Type 0} (a : A) → Some a ≡ None → ⊥
some_not a h = let no : ⊥ = cc in no

-- an act that is asked for is the one that the listing has
pub asked_can : (ps : List Packet) (c : Call) (a : Act) → act_asked ps c ≡ Some a → (a ≡ act_for ps c) × IsGiven ps c
asked_can ps (call.Tell op) a h = (some_is (act.Tell op) a h, tt)
asked_can ps (call.Cut range) a h = (some_is (act.Cut range) a h, tt)
asked_can ps (call.Trim n) a h = (some_is (act.Trim n) a h, tt)
asked_can ps call.View a h = (some_is act.View a h, tt)
asked_can ps (call.Commit plan) a h = (some_is (act.Commit plan) a h, tt)
asked_can ps (call.Merge p) a h =
    let at = position_or_len (λ q. same_packet q p) ps in
    let held = test_held act.Deliver (nat_lt at (length ps)) at a h in
    (held.1, before_member p ps (ltb-true at (length ps) held.0))

-- and one that is not asked for is a merge that follows no cut
pub asked_not : (ps : List Packet) (c : Call) → act_asked ps c ≡ None → IsGiven ps c → ⊥
asked_not ps (call.Tell op) h g = some_not (act.Tell op) h
asked_not ps (call.Cut range) h g = some_not (act.Cut range) h
asked_not ps (call.Trim n) h g = some_not (act.Trim n) h
asked_not ps call.View h g = some_not act.View h
asked_not ps (call.Commit plan) h g = some_not (act.Commit plan) h
asked_not ps (call.Merge p) h g =
    let at = position_or_len (λ q. same_packet q p) ps in
    let far = ltb-false at (length ps) (test_fell act.Deliver (nat_lt at (length ps)) at h) in
    let lt = member_before p ps g in
    let no : ⊥ = omega arith in no

-- a reply without a packet gives none
pub given_none : (r : Reply) → ((p : Packet) → r ≡ reply.Packet p → ⊥) → packet_in r ≡ []
given_none reply.Nothing h = refl
given_none (reply.Packet p) h = absurd (h p refl)
given_none (reply.Admitted a) h = refl
given_none (reply.Seen n k) h = refl

-- one more of the entries
module _ (n : ℕ) (entries : List Entry) (steps new : List Step) (packets gave : List Packet) where
  pub none_yet : AreFirstTaken n entries 0 steps steps packets packets
  none_yet = record { as_steps = sym (append-nil steps); given_too = sym (append-nil packets); follows = tt }

  pub one_further : (k : ℕ) (e : Entry) → k < length entries → e ≡ get_or entries k e → AreFirstTaken n entries k steps new packets gave
      → (newer : List Step) (more : List Packet) → IsOneTaken (record { at = n; entry = e }) true new newer gave more → AreFirstTaken n entries (k + 1) steps newer packets more
  one_further k e lt is h newer more t =
      let m : Made = record { at = n; entry = e } in
      let before = made_at n (take k entries) in
      let next : made_at n (take (k + 1) entries) ≡ before ++ m ∷ [] =
      ap (made_at n) (take_more entries k e lt ∙ ap (λ (x : Entry). take k entries ++ x ∷ []) (sym is)) ∙ map-append (λ (x : Entry). record { at = n; entry = x }) (take k entries) (e ∷ []) in
      record {
        as_steps =
            t.0 ∙ (λ i. h.as_steps i ++ step_for (h.given_too i) m ∷ [])
            ∙ append_assoc steps (steps_for packets before) (step_for (packets ++ packets_of before) m ∷ [])
            ∙ ap (λ ss. steps ++ ss) (sym (steps_more packets before (m ∷ []))) ∙ ap (λ ms. steps ++ steps_for packets ms) (sym next);
        given_too =
            t.1 ∙ (λ i. h.given_too i ++ sym (append-nil (packet_in e.reply)) i) ∙ append_assoc packets (packets_of before) (packets_of (m ∷ []))
            ∙ ap (λ ps. packets ++ ps) (sym (packets_more before (m ∷ []))) ∙ ap (λ ms. packets ++ packets_of ms) (sym next);
        follows =
            subst (λ ms. Follows packets ms) (sym next)
            (follows_more packets before (m ∷ []) h.follows (subst (λ qs. IsGiven qs e.call) h.given_too t.2, tt));
      }

-- if the next entry cannot be taken
pub stops_here : (packets : List Packet) (entries : List Entry) (k : ℕ) (e : Entry) → k < length entries → e ≡ get_or entries k e → (IsGiven packets e.call → ⊥) → CannotGo packets (drop k entries)
stops_here packets [] k e lt is h = absurd (omega arith)
stops_here packets (x ∷ es) zero e lt is h = λ g. h (subst (λ (y : Entry). IsGiven packets y.call) (sym is) g)
stops_here packets (x ∷ es) (suc k) e lt is h = stops_here packets es k e (omega arith) is h

pub stops_at_end : (packets : List Packet) (entries : List Entry) (k : ℕ) → length entries ≤ k → CannotGo packets (drop k entries)
stops_at_end packets [] zero le = tt
stops_at_end packets [] (suc k) le = tt
stops_at_end packets (x ∷ es) zero le = absurd (omega arith)
stops_at_end packets (x ∷ es) (suc k) le = stops_at_end packets es k (omega arith)

is_member : (ss : List State) (i : ℕ) (s : State) → i < length ss → s ≡ get_or ss i s → IsMember s.number (map number_in ss)
is_member [] i s lt is = absurd (omega arith)
is_member (x ∷ ss) zero s lt is = inl (ap number_in (sym is))
is_member (x ∷ ss) (suc i) s lt is = inr (is_member ss i s (omega arith) is)

no_take : (n : ℕ) → take {A = Entry} n [] ≡ []
no_take zero = refl
no_take (suc n) = refl

two_parts : (p k : ℕ) (es : List Entry) → take p es ++ take k (drop p es) ≡ take (p + k) es
two_parts zero k es = let is : k ≡ 0 + k = omega arith in ap (λ n. take n es) is
two_parts (suc p) k [] = no_take k ∙ sym (no_take (suc p + k))
two_parts (suc p) k (x ∷ es) = let is : suc (p + k) ≡ suc p + k = omega arith in ap (λ l. x ∷ l) (two_parts p k es) ∙ ap (λ n. take n (x ∷ es)) is

-- more entries of the i-th coordinator
taken_more : (ms : List Made) (ss : List State) (ns : List ℕ) (i : ℕ) (s : State) (p k : ℕ) → AreDistinct (map number_in ss) → AreTaken ss ns ms → i < length ss → s ≡ get_or ss i s → p ≡ get_or ns i p → k ≤ length (drop p s.history)
    → AreTaken ss (slice_set ns i (p + k)) (ms ++ made_at s.number (take k (drop p s.history)))
taken_more ms [] ns i s p k distinct h lt is at le = absurd (omega arith)
taken_more ms (x ∷ ss) [] i s p k distinct h lt is at le = absurd h
taken_more ms (x ∷ ss) (n ∷ ns) zero s p k distinct h lt is at le =
    let es = take k (drop p s.history) in
    let same : entries_at s.number ms ≡ take p s.history = subst (λ (y : State). entries_at y.number ms ≡ take p y.history) (sym is) (subst (λ m. entries_at x.number ms ≡ take m x.history) (sym at) h.0.0) in
    let inside : p ≤ length s.history = subst (λ (y : State). p ≤ length y.history) (sym is) (subst (λ m. m ≤ length x.history) (sym at) h.0.1) in
    let all : entries_at s.number (ms ++ made_at s.number es) ≡ take (p + k) s.history =
    entries_more s.number ms (made_at s.number es) ∙ (λ j. same j ++ its_entries s.number es j) ∙ two_parts p k s.history in
    let far : IsMember s.number (map number_in ss) → ⊥ = subst (λ (y : State). IsMember y.number (map number_in ss) → ⊥) (sym is) distinct.0 in (
      (
        subst (λ (y : State). entries_at y.number (ms ++ made_at s.number es) ≡ take (p + k) y.history) is all,
        subst (λ (y : State). p + k ≤ length y.history) is (omega (arith, length-drop p s.history)),
      ),
      others s.number es ss ns ms far h.1,
    )
taken_more ms (x ∷ ss) (n ∷ ns) (suc i) s p k distinct h lt is at le =
    let es = take k (drop p s.history) in
    let there : IsMember s.number (map number_in ss) = is_member ss i s (omega arith) is in
    let far : s.number ≡ x.number → ⊥ = λ e. distinct.0 (subst (λ m. IsMember m (map number_in ss)) e there) in (
      (entries_more x.number ms (made_at s.number es) ∙ ap (λ l. entries_at x.number ms ++ l) (not_its s.number x.number es far) ∙ append-nil (entries_at x.number ms) ∙ h.0.0, h.0.1),
      taken_more ms ss ns i s p k distinct.1 h.1 (omega arith) is at le,
    )

-- a visit of the i-th coordinator
pub swept_more : (ss : List State) (places : List ℕ) (i : ℕ) (s : State) (p k : ℕ) (steps new : List Step) (packets gave : List Packet) → AreDistinct (map number_in ss) → IsSwept ss places steps packets → i < length ss → s ≡ get_or ss i s → p ≡ get_or places i p → k ≤ length (drop p s.history)
    → AreFirstTaken s.number (drop p s.history) k steps new packets gave → IsSwept ss (slice_set places i (p + k)) new gave
swept_more ss places i s p k steps new packets gave distinct h lt is at le t =
    let more = made_at s.number (take k (drop p s.history)) in
    record {
      made = h.made ++ more;
      as_steps = t.as_steps ∙ (λ j. h.as_steps j ++ steps_for (h.gave j) more) ∙ sym (steps_more [] h.made more);
      gave = t.given_too ∙ ap (λ ps. ps ++ packets_of more) h.gave ∙ sym (packets_more h.made more);
      follows = follows_more [] h.made more h.follows (subst (λ ps. Follows ps more) h.gave t.follows);
      taken = taken_more h.made ss places i s p k distinct h.taken lt is at le;
      only = λ n far.
          entries_more n h.made more
          ∙ (λ j. h.only n far j ++ not_its s.number n (take k (drop p s.history)) (λ e. far (subst (λ m. IsMember m (map number_in ss)) e (is_member ss i s lt is))) j);
    }

either : {A B : Type 0} → A ⊎ B → (A → ⊥) → (B → ⊥) → ⊥
either (inl a) f g = f a
either (inr b) f g = g b

-- the sweeps have prefixes
continues : (ms : List Made) (n : ℕ) (ss : List State) (ns : List ℕ) → AreTaken ss ns ms → ((IsMember n (map number_in ss) → ⊥) → entries_at n ms ≡ []) → Continues (history_at ss n) (entries_at n ms)
continues ms n [] [] h only = record { rest = []; is = sym (only (λ at. at)) ∙ sym (append-nil (entries_at n ms)) }
continues ms n [] (k ∷ ns) h only = absurd h
continues ms n (s ∷ ss) [] h only = absurd h
continues ms n (s ∷ ss) (k ∷ ns) h only = by (s.number == n) (eqb-true s.number n) (eq-eqb s.number n) (λ e. only e) (continues ms n ss ns h.1) where
  by : (b : Bool) → (b ≡ true → s.number ≡ n) → (s.number ≡ n → b ≡ true) →
      ((IsMember n (map number_in (s ∷ ss)) → ⊥) → entries_at n ms ≡ []) →
      (((IsMember n (map number_in ss) → ⊥) → entries_at n ms ≡ []) → Continues (history_at ss n) (entries_at n ms)) → Continues
      (history_in (cond b (Some s) (state_with ss n))) (entries_at n ms)
  by true is back only rest = record { rest = drop k s.history; is = sym (take-append-drop k s.history) ∙ ap (λ es. es ++ drop k s.history) (sym h.0.0 ∙ ap (λ m. entries_at m ms) (is refl)) }
  by false is back only rest = rest (λ far. only (λ at. either at (λ e. let f = back e in let no : ⊥ = cc in no) far))

pub swept_listing : (ss : List State) (places : List ℕ) (steps : List Step) (packets : List Packet) → (h : IsSwept ss places steps packets) → IsListing ss h.made
swept_listing ss places steps packets h = record { prefixes = λ n. continues h.made n ss places h.taken (h.only n); follows = h.follows }

-- if no coordinator can go on, nothing can be added
stops : (packets : List Packet) (ms : List Made) (n : ℕ) (ss : List State) (ns : List ℕ) → AreTaken ss ns ms → AreStopped packets ss ns → ((IsMember n (map number_in ss) → ⊥) → entries_at n ms ≡ []) → StopsAfter packets (history_at ss n) (entries_at n ms)
stops packets ms n [] [] h f only = record { rest = []; is = sym (only (λ at. at)) ∙ sym (append-nil (entries_at n ms)); stop = tt }
stops packets ms n [] (k ∷ ns) h f only = absurd h
stops packets ms n (s ∷ ss) [] h f only = absurd h
stops packets ms n (s ∷ ss) (k ∷ ns) h f only = by (s.number == n) (eqb-true s.number n) (eq-eqb s.number n) (λ e. only e) (stops packets ms n ss ns h.1 (λ i lt. f (suc i) (omega arith))) where
  by : (b : Bool) → (b ≡ true → s.number ≡ n) → (s.number ≡ n → b ≡ true) →
      ((IsMember n (map number_in (s ∷ ss)) → ⊥) → entries_at n ms ≡ []) →
      (((IsMember n (map number_in ss) → ⊥) → entries_at n ms ≡ []) → StopsAfter packets (history_at ss n) (entries_at n ms)) →
      StopsAfter packets (history_in (cond b (Some s) (state_with ss n))) (entries_at n ms)
  by true is back only rest = record { rest = drop k s.history; is = sym (take-append-drop k s.history) ∙ ap (λ es. es ++ drop k s.history) (sym h.0.0 ∙ ap (λ m. entries_at m ms) (is refl)); stop = f zero (omega arith) }
  by false is back only rest = rest (λ far. only (λ at. either at (λ e. let f = back e in let no : ⊥ = cc in no) far))

pub swept_stuck : (ss : List State) (places : List ℕ) (steps : List Step) (packets : List Packet) → (h : IsSwept ss places steps packets) → AreStopped packets ss places → IsStuck ss h.made
swept_stuck ss places steps packets h f n = stops (packets_of h.made) h.made n ss places h.taken (subst (λ ps. AreStopped ps ss places) h.gave f) (h.only n)
