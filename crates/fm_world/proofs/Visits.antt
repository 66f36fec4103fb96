-- What visits and sweeps come to.
use Rattle.std.proofs.Common.{◌≡◌, ◌<◌, ◌≤◌, ◌==◌, ◌+◌, ℕ, zero, suc, Bool, true, false, cond, List, [], ◌∷◌, ◌++◌, Some, length, take, drop, get_or, slice_set, map, refl, sym, ap, ◌∙◌, subst, inl, inr, arith, nat_lt, ltb-true, ltb-false, length-drop, add-zero, eq-eqb}
use Rattle.std.specs.Prelude.{filter}
use Rattle.std.proofs.Math.ListN.{replicate}
use Rattle.std.proofs.lemmas.Bool.{eqb-true}
use Rattle.std.proofs.lemmas.Bool.Decides.{nat_tests}
use Rattle.std.proofs.lemmas.List.{append-nil, length-append, length-take-le, length-map, get_or-map, drop-drop}
use Rattle.fm_records.specs.Sets.{IsMember}
use Rattle.fm_delta.specs.declared.packet.Packet.{Packet}
use Rattle.fm_coord.specs.declared.entry.Entry.{Entry}
use Rattle.fm_coord.specs.Numbers.{AreDistinct}
use Rattle.fm_coord.specs.States.{State, WithKeeper}
use Rattle.fm_world.specs.declared.step.Step.{Step}
use Rattle.fm_world.specs.Worlds.{run_of, AreAccepted}
use Rattle.fm_world.specs.Represents.{state_of, number_of, state_with, WorldRepresents}
use Rattle.fm_world.specs.Listings.{Made, entries_at, history_in, history_at, CannotGo, IsListing, IsWhole, IsWholeRun, Halts, IsStuck, AreCoordinators, number_in, new_world_of, left_of, packets_of}
use Rattle.fm_world.specs.inner.Sweeps.{AreTaken, IsSwept, AreFirstTaken, rest_at, count_left, Moves, IsVisit, AreStopped, left_at, made_at}
use Rattle.fm_world.proofs.Growing.{swept_more, swept_listing, swept_stuck}
use Rattle.fm_world.proofs.Maximal.{stuck_maximal}
use Rattle.fm_world.proofs.Running.{whole_runs, same_numbers}

-- before the first visit
none_taken : (ss : List State) → AreTaken ss (replicate (length ss) 0) []
none_taken [] = tt
none_taken (s ∷ ss) = ((refl, omega arith), none_taken ss)

pub swept_first : (ss : List State) (places : List ℕ) (steps : List Step) (packets : List Packet) → places ≡ replicate (length ss) 0 → steps ≡ [] → packets ≡ [] → IsSwept ss places steps packets
swept_first ss places steps packets at none nothing = record { made = []; as_steps = none; gave = nothing; follows = tt; taken = subst (λ ns. AreTaken ss ns []) (sym at) (none_taken ss); only = λ n far. refl }

-- a place lies within the history
place_within : (ss : List State) (ns : List ℕ) (ms : List Made) (i : ℕ) (s : State) (p : ℕ) → AreTaken ss ns ms → i < length ss → s ≡ get_or ss i s → p ≡ get_or ns i p → p ≤ length s.history
place_within [] ns ms i s p h lt is at = absurd (omega arith)
place_within (x ∷ ss) [] ms i s p h lt is at = absurd h
place_within (x ∷ ss) (n ∷ ns) ms zero s p h lt is at = subst (λ (y : State). p ≤ length y.history) (sym is) (subst (λ m. m ≤ length x.history) (sym at) h.0.1)
place_within (x ∷ ss) (n ∷ ns) ms (suc i) s p h lt is at = place_within ss ns ms i s p h.1 (omega arith) is at

many_places : (ss : List State) (ns : List ℕ) (ms : List Made) → AreTaken ss ns ms → length ns ≡ length ss
many_places [] [] ms h = refl
many_places [] (n ∷ ns) ms h = absurd h
many_places (s ∷ ss) [] ms h = absurd h
many_places (s ∷ ss) (n ∷ ns) ms h = ap suc (many_places ss ns ms h.1)

-- what is left of the i-th after its place is set
rest_here : (ss : List State) (ns : List ℕ) (i : ℕ) (s : State) (m : ℕ) → length ns ≡ length ss → i < length ss → s ≡ get_or ss i s → rest_at ss (slice_set ns i m) i ≡ drop m s.history
rest_here [] ns i s m long lt is = absurd (omega arith)
rest_here (x ∷ ss) [] i s m long lt is = absurd (omega arith)
rest_here (x ∷ ss) (n ∷ ns) zero s m long lt is = ap (λ (y : State). drop m y.history) (sym is)
rest_here (x ∷ ss) (n ∷ ns) (suc i) s m long lt is = rest_here ss ns i s m (omega arith) (omega arith) is

fewer_left : (ss : List State) (ns : List ℕ) (i : ℕ) (s : State) (p m : ℕ) → length ns ≡ length ss → i < length ss → s ≡ get_or ss i s → p ≡ get_or ns i p → p < m → m ≤ length s.history → count_left ss (slice_set ns i m) < count_left ss ns
fewer_left [] ns i s p m long lt is at more within = absurd (omega arith)
fewer_left (x ∷ ss) [] i s p m long lt is at more within = absurd (omega arith)
fewer_left (x ∷ ss) (n ∷ ns) zero s p m long lt is at more within = let inside : m ≤ length x.history = subst (λ (y : State). m ≤ length y.history) is within in omega arith
fewer_left (x ∷ ss) (n ∷ ns) (suc i) s p m long lt is at more within = let less = fewer_left ss ns i s p m (omega arith) (omega arith) is at more within in omega arith

same_place : (ns : List ℕ) (i p : ℕ) → p ≡ get_or ns i p → slice_set ns i p ≡ ns
same_place [] i p at = refl
same_place (n ∷ ns) zero p at = ap (λ m. m ∷ ns) at
same_place (n ∷ ns) (suc i) p at = ap (λ ms. n ∷ ms) (same_place ns i p at)

module _ (ss : List State) (places : List ℕ) (i : ℕ) (s : State) (p k : ℕ) (steps new : List Step) (packets gave : List Packet) where
  moves : IsSwept ss places steps packets → i < length ss → s ≡ get_or ss i s → p ≡ get_or places i p → k ≤ length (drop p s.history) → AreFirstTaken s.number (drop p s.history) k steps new packets gave → (b : Bool) → b ≡ nat_lt 0 k → Moves b ss places (slice_set places i (p + k)) packets gave
  moves h lt is at le t true more =
      let some : 0 < k = ltb-true 0 k (sym more) in
      let within : p + k ≤ length s.history = omega (arith, place_within ss places h.made i s p h.taken lt is at, length-drop p s.history) in
      fewer_left ss places i s p (p + k) (many_places ss places h.made h.taken) lt is at (omega arith) within
  moves h lt is at le t false none =
      let zero_taken : k ≡ 0 = omega (arith, ltb-false 0 k (sym none)) in (
        ap (slice_set places i) (ap (λ n. p + n) zero_taken ∙ add-zero p) ∙ same_place places i p at,
        t.given_too ∙ ap (λ n. packets ++ packets_of (made_at s.number (take n (drop p s.history)))) zero_taken ∙ append-nil packets,
      )

  pub visited : IsSwept ss places steps packets → i < length ss → s ≡ get_or ss i s → p ≡ get_or places i p → k ≤ length (drop p s.history) → AreFirstTaken s.number (drop p s.history) k steps new packets gave → CannotGo gave (drop k (drop p s.history))
      → (b : Bool) → b ≡ nat_lt 0 k → IsVisit ss i b places (slice_set places i (p + k)) packets gave
  visited h lt is at le t stop b moved = record {
    moves = moves h lt is at le t b moved;
    stops = subst (CannotGo gave) (drop-drop k p s.history ∙ sym (rest_here ss places i s (p + k) (many_places ss places h.made h.taken) lt is)) stop;
  }

abbrev has_more : List Made → State → Bool
has_more ms s = nat_lt (length (entries_at s.number ms)) (length s.history)

numbers_kept : (b : Bool) (s : State) (l : List ℕ) (ss : List State) → l ≡ map number_in ss → cond b (s.number ∷ l) l ≡ map number_in (cond b (s ∷ ss) ss)
numbers_kept true s l ss is = ap (λ ns. s.number ∷ ns) is
numbers_kept false s l ss is = is

-- the coordinators that have more than is listed
left_is : (ss : List State) (ns : List ℕ) (ms : List Made) → AreTaken ss ns ms → left_at ss ns ≡ left_of ss ms
left_is [] [] ms h = refl
left_is [] (n ∷ ns) ms h = absurd h
left_is (s ∷ ss) [] ms h = absurd h
left_is (s ∷ ss) (n ∷ ns) ms h =
    let long : n ≡ length (entries_at s.number ms) = sym (ap length h.0.0 ∙ length-take-le n s.history h.0.1) in
    numbers_kept (nat_lt n (length s.history)) s (left_at ss ns) (filter (has_more ms) ss) (left_is ss ns ms h.1)
    ∙ ap (λ k. map number_in (cond (nat_lt k (length s.history)) (s ∷ filter (has_more ms) ss) (filter (has_more ms) ss))) long

pub halts : (ss : List State) (places : List ℕ) (steps : List Step) (packets : List Packet) (left : List ℕ) → IsSwept ss places steps packets → AreStopped packets ss places → left ≡ left_at ss places → Halts ss left steps
halts ss places steps packets left h stopped is =
    let stuck = swept_stuck ss places steps packets h stopped in
    record {
      made = h.made;
      listing = swept_listing ss places steps packets h;
      as_steps = h.as_steps;
      leaves = is ∙ left_is ss places h.made h.taken;
      stuck = stuck;
      maximal = stuck_maximal ss h.made stuck;
    }

module _ (ms : List Made) (n : ℕ) (s : State) (ss : List State) where
  -- it, or one after it, has the number
  reached_by : (b : Bool) → (b ≡ true → s.number ≡ n) → length s.history ≤ length (entries_at s.number ms) → length (history_at ss n) ≤ length (entries_at n ms) → length (history_in (cond b (Some s) (state_with ss n))) ≤ length (entries_at n ms)
  reached_by true is within rest = subst (λ k. length s.history ≤ length (entries_at k ms)) (is refl) within
  reached_by false is within rest = rest

  none_first : (b : Bool) → has_more ms s ≡ b → map number_in (cond b (s ∷ filter (has_more ms) ss) (filter (has_more ms) ss)) ≡ [] → (length s.history ≤ length (entries_at s.number ms)) × (left_of ss ms ≡ [])
  none_first true is none = absurd (let not_so : ⊥ = cc in not_so)
  none_first false is none = (ltb-false (length (entries_at s.number ms)) (length s.history) is, none)

-- if no coordinator has more, each is listed to its end
reached : (ms : List Made) (n : ℕ) (ss : List State) → left_of ss ms ≡ [] → length (history_at ss n) ≤ length (entries_at n ms)
reached ms n [] h = omega arith
reached ms n (s ∷ ss) h =
    let first = none_first ms n s ss (has_more ms s) refl h in
    reached_by ms n s ss (s.number == n) (eqb-true s.number n) first.0 (reached ms n ss first.1)

nothing_more : (all first rest : List Entry) → all ≡ first ++ rest → length all ≤ length first → first ≡ all
nothing_more all first [] is le = sym (append-nil first) ∙ sym is
nothing_more all first (e ∷ rest) is le = absurd (let many : length all ≡ length first + length (e ∷ rest) = ap length is ∙ length-append first (e ∷ rest) in omega arith)

pub whole_then : (ss : List State) (ms : List Made) → IsListing ss ms → left_of ss ms ≡ [] → IsWhole ss ms
whole_then ss ms h none = record { entries = λ n. nothing_more (history_at ss n) (entries_at n ms) (h.prefixes n).rest (h.prefixes n).is (reached ms n ss none); follows = h.follows }

member_number : (s : State) (ss : List State) → IsMember s ss → IsMember s.number (map number_in ss)
member_number s (x ∷ ss) (inl e) = inl (ap number_in e)
member_number s (x ∷ ss) (inr at) = inr (member_number s ss at)
member_number s [] at = at

-- a coordinator's history is found by its number
own_history : (ss : List State) → AreDistinct (map number_in ss) → (s : State) → IsMember s ss → history_at ss s.number ≡ s.history
own_history [] distinct s at = absurd at
own_history (x ∷ ss) distinct s (inl e) = ap (λ b. history_in (cond b (Some x) (state_with ss s.number))) (eq-eqb x.number s.number (ap number_in e)) ∙ ap (λ (y : State). y.history) e
own_history (x ∷ ss) distinct s (inr at) = by (x.number == s.number) (eqb-true x.number s.number) (own_history ss distinct.1 s at) where
  by : (b : Bool) → (b ≡ true → x.number ≡ s.number) → history_at ss s.number ≡ s.history → history_in (cond b (Some x) (state_with ss s.number)) ≡ s.history
  by true is rest = absurd (distinct.0 (subst (λ n. IsMember n (map number_in ss)) (sym (is refl)) (member_number s ss at)))
  by false is rest = rest

not_more : (b : Bool) (s : State) (ss : List State) → b ≡ false → map number_in ss ≡ [] → map number_in (cond b (s ∷ ss) ss) ≡ []
not_more true s ss is none = absurd (let no : ⊥ = cc in no)
not_more false s ss is none = none

none_left : (ms : List Made) (ss : List State) → ((s : State) → IsMember s ss → length s.history ≤ length (entries_at s.number ms)) → left_of ss ms ≡ []
none_left ms [] all = refl
none_left ms (s ∷ ss) all =
    let within : length s.history ≤ length (entries_at s.number ms) = all s (inl refl) in
    let test : nat_lt (length (entries_at s.number ms)) (length s.history) ≡ false = grind (arith, nat_tests) in
    not_more (has_more ms s) s (filter (has_more ms) ss) test (none_left ms ss (λ x at. all x (inr at)))

-- if a listing is stuck and another is whole, it leaves nothing
pub none_whole : (ss : List State) (ms other : List Made) → AreDistinct (map number_in ss) → IsStuck ss ms → IsWhole ss other → left_of ss ms ≡ []
none_whole ss ms other distinct stuck whole =
    let listing : IsListing ss other = record { prefixes = λ n. record { rest = []; is = sym (whole.entries n) ∙ sym (append-nil (entries_at n other)) }; follows = whole.follows } in
    none_left ms ss (λ s at.
    let all : length (entries_at s.number other) ≡ length s.history = ap length (whole.entries s.number ∙ own_history ss distinct s at) in
    let most = stuck_maximal ss ms stuck other listing s.number in
    subst (λ n. n ≤ length (entries_at s.number ms)) all most)

module _ (ss : List State) (is : AreCoordinators ss) (distinct : AreDistinct (map number_in ss)) (left : List ℕ) (steps : List Step) (h : Halts ss left steps) (none : left ≡ []) where
  all_there : IsWhole ss h.made
  all_there = whole_then ss h.made h.listing (sym h.leaves ∙ none)

  pub whole_run : IsWholeRun ss steps
  whole_run =
      let ran = whole_runs ss h.made is distinct all_there in
      record {
        made = h.made;
        whole = all_there;
        as_steps = h.as_steps;
        stands = subst (λ l. WorldRepresents (record { coordinators = ss; packets = packets_of h.made }) (run_of (new_world_of ss) l)) (sym h.as_steps) (record { coordinators = ran.stands; packets = ran.packets });
      }

  pub whole_accepted : AreAccepted (new_world_of ss) steps
  whole_accepted = subst (AreAccepted (new_world_of ss)) (sym h.as_steps) (whole_runs ss h.made is distinct all_there).accepted

-- the coordinator at a place
state_at : {N : Type 0} (cs : List (WithKeeper N)) (i : ℕ) (c : WithKeeper N) → i < length cs → c ≡ get_or cs i c → c.state ≡ get_or (map state_of cs) i c.state
state_at cs i c lt is = ap state_of is ∙ sym (get_or-map state_of cs i c c.state lt)

place_there : (ns : List ℕ) (i : ℕ) → i < length ns → get_or ns i 0 ≡ get_or ns i (get_or ns i 0)
place_there [] i lt = absurd (omega arith)
place_there (n ∷ ns) zero lt = refl
place_there (n ∷ ns) (suc i) lt = place_there ns i (omega arith)

module _ {N : Type 0} (cs : List (WithKeeper N)) (i : ℕ) (places : List ℕ) (steps : List Step) (packets : List Packet) (h : IsSwept (map state_of cs) places steps packets) (lt : i < length cs) where
  inside : i < length (map state_of cs)
  inside = omega (arith, length-map cs state_of)

  pub place_inside : i < length places
  place_inside = omega (arith, length-map cs state_of, many_places (map state_of cs) places h.made h.taken)

  module _ (c : WithKeeper N) (is : c ≡ get_or cs i c) where
    pub within_history : get_or places i 0 ≤ length c.state.history
    within_history = place_within (map state_of cs) places h.made i c.state (get_or places i 0) h.taken inside (state_at cs i c lt is) (place_there places i place_inside)

    -- the coordinator was visited
    pub visit_of : (new : List Step) (gave : List Packet) (k number : ℕ) (entries : List Entry) → number ≡ c.state.number →
        entries ≡ drop (get_or places i 0) c.state.history → AreDistinct (map number_of cs) → k ≤ length entries → AreFirstTaken
        number entries k steps new packets gave → CannotGo gave (drop k entries)
        → IsSwept (map state_of cs) (slice_set places i (get_or places i 0 + k)) new gave × IsVisit (map state_of cs) i (nat_lt 0 k) places (slice_set places i (get_or places i 0 + k)) packets gave
    visit_of new gave k number entries same part distinct le t stop =
        let p = get_or places i 0 in
        let rest = drop p c.state.history in
        let state = state_at cs i c lt is in
        let at = place_there places i place_inside in
        let fits : k ≤ length rest = subst (λ (es : List Entry). k ≤ length es) part le in
        let taken : AreFirstTaken c.state.number rest k steps new packets gave = subst (λ es. AreFirstTaken c.state.number es k steps new packets gave) part (subst (λ n. AreFirstTaken n entries k steps new packets gave) same t) in
        let ends : CannotGo gave (drop k rest) = subst (λ (es : List Entry). CannotGo gave (drop k es)) part stop in (
          swept_more (map state_of cs) places i c.state p k steps new packets gave (subst AreDistinct (same_numbers cs) distinct) h inside state at fits taken,
          visited (map state_of cs) places i c.state p k steps new packets gave h inside state at fits taken ends (nat_lt 0 k) refl,
        )
