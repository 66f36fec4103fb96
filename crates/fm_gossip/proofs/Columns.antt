-- Ports of members by their inboxes.
use Rattle.std.proofs.Common.{◌≡◌, ⊎_elim, ℕ, zero, suc, ◌+◌, ◌==◌, ◌<◌, ◌≤◌, Bool, true, false, cond, List, [], ◌∷◌, ◌++◌, All, length, map, take, drop, set, get_or, refl, sym, ap, ◌∙◌, subst, append_assoc, eq-eqb, arith}
use Rattle.std.specs.Prelude.{Result, Ok, Err, OnOk, slice_get, Some, option_map}
use Rattle.std.proofs.lemmas.Bool.{eqb-true, cases_lt}
use Rattle.std.proofs.lemmas.List.{append-nil, length-append, length-map, map-set}
use Rattle.std.proofs.lemmas.List.Elements.{All-nil, All-cons}
use Rattle.std.proofs.lemmas.Option.{slice_get_within, slice_get-map, slice_get-get_or}
use Rattle.std.proofs.Math.Seq.{take-append_seam}
use Rattle.fm_delta.specs.declared.packet.Packet.{Packet}
use Rattle.fm_inbox.specs.Conservation.{weigh, SamePackets}
use Rattle.fm_inbox.specs.Ports.{InboxModel, PortModel, IsPortOf, IsNewPortOf, after_put, all_put, all_taken}
use Rattle.fm_inbox.proofs.Keeps.{weigh-append}
use Rattle.fm_gossip.specs.Passing.{Passed, passing, all_sent, ArePassedOn}
use Rattle.fm_gossip.specs.inner.Used.{new_port, put_past, after_takes, used_port, used_ports, AreUsed, column}

pub used_last : (own at : ℕ) (m : Passed) (bs : List InboxModel) (b : InboxModel) → used_ports own at m (bs ++ b ∷ []) ≡ used_ports own at m bs ++ used_port (at + length bs == own) m b ∷ []
used_last own at m [] b = ap (λ n. used_port (n == own) m b ∷ []) (let e : at ≡ at + 0 = omega arith in e)
used_last own at m (c ∷ bs) b =
    ap (λ qs. used_port (at == own) m c ∷ qs)
    (used_last own (at + 1) m bs b ∙ ap (λ n. used_ports own (at + 1) m bs ++ used_port (n == own) m b ∷ []) (let e : (at + 1) + length bs ≡ at + length (c ∷ bs) = omega arith in e))

pub on_ok : {T E : Type 0} {P Q : Type 0} (r : Result T E) → (P → Q) → OnOk r P → OnOk r Q
on_ok (Ok x) f h = f h
on_ok (Err e) f h = h

-- the last port of one member, and then those of the members after it
pub column_step : (coords : List Passed) (ports : List (List PortModel)) (m : Passed) (ms : List Passed) (qs now : List PortModel) (qss nows : List (List PortModel)) (old mid new : List PortModel) → coords ≡ m ∷ ms → ports ≡ qs ∷ qss
    → ((ps : List PortModel) (q : PortModel) → qs ≡ ps ++ q ∷ [] → (now ≡ ps) × (mid ≡ old ++ q ∷ []))
    → ((at : ℕ) (bs : List InboxModel) (b : InboxModel) → AreUsed at (bs ++ b ∷ []) ms qss → AreUsed at bs ms nows × (new ≡ mid ++ column (length bs) at b ms))
    → (at : ℕ) (bs : List InboxModel) (b : InboxModel) → AreUsed at (bs ++ b ∷ []) coords ports → AreUsed at bs coords (now ∷ nows) × (new ≡ old ++ column (length bs) at b coords)
column_step coords ports m ms qs now qss nows old mid new these there first later at bs b used =
    let u : AreUsed at (bs ++ b ∷ []) (m ∷ ms) (qs ∷ qss) = subst (λ ps. AreUsed at (bs ++ b ∷ []) (m ∷ ms) ps) there (subst (λ cs. AreUsed at (bs ++ b ∷ []) cs ports) these used) in
    let place : 0 + length bs ≡ length bs = omega arith in
    let q = used_port (length bs == at) m b in
    let f = first (used_ports at 0 m bs) q (u.0 ∙ used_last at 0 m bs b ∙ ap (λ n. used_ports at 0 m bs ++ used_port (n == at) m b ∷ []) place) in
    let l = later (at + 1) bs b u.1 in
    let rest = column (length bs) (at + 1) b ms in (
      subst (λ cs. AreUsed at bs cs (now ∷ nows)) (sym these) (f.0, l.0),
      subst (λ cs. new ≡ old ++ column (length bs) at b cs) (sym these) (l.1 ∙ ap (λ z. z ++ rest) f.1 ∙ append_assoc old (q ∷ []) rest),
    )

all_of : {A B : Type 0} (f : A → B) (P : B → Type 0) (xs : List A) → All P (map f xs) → All (λ x. P (f x)) xs
all_of f P [] h = All-nil (λ x. P (f x))
all_of f P (x ∷ xs) h = All-cons (λ x. P (f x)) x xs (h 0 (f x) (omega arith)) (all_of f P xs (λ k d lt. h (suc k) d (omega (arith, lt))))

-- the ports of an inbox are its ports

column_ports : (own at : ℕ) (b : InboxModel) (ms : List Passed) → All (IsPortOf b) (column own at b ms)
column_ports own at b [] = All-nil (IsPortOf b)
column_ports own at b (m ∷ ms) = All-cons (IsPortOf b) _ _ (of_one (own == at)) (column_ports own (at + 1) b ms) where
  of_one : (is : Bool) → IsPortOf b (used_port is m b)
  of_one true = (refl, refl)
  of_one false = (refl, refl)

-- there is one for each member
pub length-column : (own at : ℕ) (b : InboxModel) (ms : List Passed) → length (column own at b ms) ≡ length ms
length-column own at b [] = refl
length-column own at b (m ∷ ms) = ap suc (length-column own (at + 1) b ms)

-- the inboxes but for these are closed, and the members' ports of these are used
pub record AreClosed (bs : List InboxModel) (ms : List Passed) (ports : List (List PortModel)) : Type 0 where
  pub used : AreUsed 0 bs ms ports
  pub passed : (i : ℕ) (m : Passed) → length bs ≤ i → slice_get ms i ≡ Some m → SamePackets (m.got ++ m.sent) (all_sent ms)

-- what goes into an inbox and what comes out of it

differ : (a b : ℕ) → (a ≡ b → ⊥) → (a == b) ≡ false
differ a b h = elim (a == b) as (λ z. (a == b) ≡ z → z ≡ false) [ true ↦ λ e. absurd (h (eqb-true a b e)) | false ↦ λ e. refl ] refl

beyond : (own at : ℕ) (b : InboxModel) (ms : List Passed) (h : Packet → ℕ) → own < at → (weigh h (all_put (column own at b ms)) ≡ weigh h (all_sent ms)) × (all_taken (column own at b ms) ≡ [])
beyond own at b [] h lt = (refl, refl)
beyond own at b (m ∷ ms) h lt =
    let after = column own (at + 1) b ms in
    let rest = beyond own (at + 1) b ms h (omega (arith, lt)) in
    let other : (own == at) ≡ false = differ own at (λ e. omega (arith, lt, e)) in (
      ap (λ z. weigh h (all_put (used_port z m b ∷ after))) other ∙ weigh-append h m.sent (all_put after) ∙ ap (λ n. weigh h m.sent + n) rest.0 ∙ sym (weigh-append h m.sent (all_sent ms)),
      ap (λ z. all_taken (used_port z m b ∷ after)) other ∙ rest.1,
    )

at_own : (own at : ℕ) (b : InboxModel) (ms : List Passed) (h : Packet → ℕ) (m : Passed) (k : ℕ) → own ≡ at + k → slice_get ms k ≡ Some m → (weigh h (all_put (column own at b ms)) + weigh h m.sent ≡ weigh h (all_sent ms)) × (all_taken (column own at b ms) ≡ m.got)
at_own own at b [] h m k place there = absurd (omega (arith, slice_get_within [] k m there))
at_own own at b (n ∷ ms) h m zero place there =
    let same : n ≡ m = cc in
    let after = column own (at + 1) b ms in
    let rest = beyond own (at + 1) b ms h (omega (arith, place)) in
    let its : (own == at) ≡ true = eq-eqb own at (omega (arith, place)) in
    let put : weigh h (all_put (column own at b (n ∷ ms))) ≡ weigh h (all_put after) = ap (λ z. weigh h (all_put (used_port z n b ∷ after))) its in
    let sent : weigh h n.sent ≡ weigh h m.sent = ap (λ (z : Passed). weigh h z.sent) same in (
      omega (arith, put, rest.0, sent, weigh-append h n.sent (all_sent ms)),
      ap (λ z. all_taken (used_port z n b ∷ after)) its ∙ ap (λ z. n.got ++ z) rest.1 ∙ append-nil n.got ∙ ap (λ (z : Passed). z.got) same,
    )
at_own own at b (n ∷ ms) h m (suc k) place there =
    let after = column own (at + 1) b ms in
    let rest = at_own own (at + 1) b ms h m k (omega (arith, place)) there in
    let other : (own == at) ≡ false = differ own at (λ e. omega (arith, place, e)) in
    let put : weigh h (all_put (column own at b (n ∷ ms))) ≡ weigh h n.sent + weigh h (all_put after) =
    ap (λ z. weigh h (all_put (used_port z n b ∷ after))) other ∙ weigh-append h n.sent (all_put after) in (
      omega (arith, put, rest.0, weigh-append h n.sent (all_sent ms)),
      ap (λ z. all_taken (used_port z n b ∷ after)) other ∙ rest.1,
    )

-- one inbox more is closed
pub closed_next : (bs whole : List InboxModel) (b : InboxModel) (ms : List Passed) (ports nows : List (List PortModel)) (col : List PortModel) → whole ≡ bs ++ b ∷ [] → AreClosed whole ms ports → AreUsed 0 bs ms nows → col ≡ column (length bs) 0 b ms → SamePackets (all_put col) (all_taken col) → AreClosed bs ms nows
closed_next bs whole b ms ports nows col is before used its same =
    record {
      used = used;
      passed = λ i m le there h.
          let long : length whole ≡ length bs + 1 = ap length is ∙ length-append bs (b ∷ []) in
          ⊎_elim
          (λ (lt : i < length whole).
          let own = at_own (length bs) 0 b ms h m i (omega (arith, le, lt, long)) there in
          let got : weigh h (all_taken col) ≡ weigh h m.got = ap (λ z. weigh h (all_taken z)) its ∙ ap (weigh h) own.1 in
          let put : weigh h (all_put col) ≡ weigh h (all_put (column (length bs) 0 b ms)) = ap (λ z. weigh h (all_put z)) its in
          let e : weigh h (m.got ++ m.sent) ≡ weigh h (all_sent ms) = omega (arith, same h, got, put, own.0, weigh-append h m.got m.sent) in
          e)
          (λ (ge : length whole ≤ i). before.passed i m ge there h)
          (cases_lt i (length whole));
    }

pub all_closed : (bs : List InboxModel) (ms : List Passed) (ports : List (List PortModel)) → length bs ≡ 0 → AreClosed bs ms ports → ArePassedOn ms
all_closed bs ms ports none closed = λ i m there. closed.passed i m (omega (arith, none)) there

pub none_closed : (bs : List InboxModel) (ms : List Passed) (ports : List (List PortModel)) → length bs ≡ length ms → AreUsed 0 bs ms ports → AreClosed bs ms ports
none_closed bs ms ports long used = record { used = used; passed = λ i m le there. absurd (omega (arith, le, long, slice_get_within ms i m there)) }

pub its_ports : {D : Type 0} (port : D → PortModel) (ds : List D) (own : ℕ) (b : InboxModel) (ms : List Passed) → map port ds ≡ column own 0 b ms → All (λ d. IsPortOf b (port d)) ds
its_ports port [] own b ms is = All-nil (λ d. IsPortOf b (port d))
its_ports port (d ∷ ds) own b ms is = all_of port (IsPortOf b) (d ∷ ds) (subst (All (IsPortOf b)) (sym is) (column_ports own 0 b ms))

-- what taking the last ports comes to
pub taken_now : (whole bs : List InboxModel) (b : InboxModel) (ms now : List Passed) (ports before nows : List (List PortModel)) (none col : List PortModel) → whole ≡ bs ++ b ∷ [] → now ≡ ms → before ≡ ports → none ≡ [] → AreClosed whole ms ports
    → ((at : ℕ) (bs : List InboxModel) (b : InboxModel) → AreUsed at (bs ++ b ∷ []) now before → AreUsed at bs now nows × (col ≡ none ++ column (length bs) at b now))
    → AreUsed 0 bs ms nows × (col ≡ column (length bs) 0 b ms)
taken_now whole bs b ms now ports before nows none col is same kept empty closed taken =
    let used : AreUsed 0 (bs ++ b ∷ []) now before =
    subst (λ z. AreUsed 0 z now before) is (subst (λ z. AreUsed 0 whole z before) (sym same) (subst (λ z. AreUsed 0 whole ms z) (sym kept) closed.used)) in
    let t = taken 0 bs b used in (
      subst (λ z. AreUsed 0 bs z nows) same t.0,
      t.1 ∙ ap (λ z. z ++ column (length bs) 0 b now) empty ∙ ap (column (length bs) 0 b) same,
    )

-- a slice that was written is the whole list
pub written : {A : Type 0} (n : ℕ) (now before : List A) → length now ≡ n → length before ≡ n → take n (now ++ drop (length now) before) ≡ now
written n now before is was =
    ap (λ k. take k (now ++ drop (length now) before)) (sym is) ∙ take-append_seam now (drop (length now) before)

pub is_new : (b : InboxModel) (p : PortModel) → IsNewPortOf b p → p ≡ new_port b
is_new b p h = λ i. record { inbox = h.0 i; ports = h.1 i; put = h.2 i; taken = h.3 i }

-- ports through which a packet was put, but for the own one

after_all : (b : InboxModel) (sent done ps : List Packet) → after_takes (record { inbox = b.id; ports = b.ports; put = sent; taken = done }) ps ≡ record { inbox = b.id; ports = b.ports; put = sent; taken = done ++ ps }
after_all b sent done [] = ap (λ z. record { inbox = b.id; ports = b.ports; put = sent; taken = z }) (sym (append-nil done))
after_all b sent done (p ∷ ps) = after_all b sent (done ++ p ∷ []) ps ∙ ap (λ z. record { inbox = b.id; ports = b.ports; put = sent; taken = z }) (append_assoc done (p ∷ []) ps)

puts_past : (own at : ℕ) (p : Packet) (got : List Packet) (bs : List InboxModel) → own < at → put_past own at p (map new_port bs) ≡ used_ports own at (passing (p ∷ []) got) bs
puts_past own at p got [] lt = refl
puts_past own at p got (b ∷ bs) lt =
    elim (at == own) as (λ z. (at == own) ≡ z → cond z (new_port b) (after_put (new_port b) p) ∷ put_past own (at + 1) p (map new_port bs) ≡ used_port z (passing (p ∷ []) got) b ∷ used_ports own (at + 1) (passing (p ∷ []) got) bs) [
      | true ↦ λ e. absurd (omega (arith, eqb-true at own e, lt))
      | false ↦ λ e. ap (λ qs. after_put (new_port b) p ∷ qs) (puts_past own (at + 1) p got bs (omega (arith, lt)))
    ] refl

uses_own : (own at k : ℕ) (p : Packet) (got : List Packet) (bs : List InboxModel) (q : PortModel) → own ≡ at + k → slice_get (put_past own at p (map new_port bs)) k ≡ Some q → set (put_past own at p (map new_port bs)) k (after_takes q got) ≡ used_ports own at (passing (p ∷ []) got) bs
uses_own own at k p got [] q place there = absurd (omega (arith, slice_get_within [] k q there))
uses_own own at zero p got (b ∷ bs) q place there =
    let its : (at == own) ≡ true = eq-eqb at own (omega (arith, place)) in
    let is : cond (at == own) (new_port b) (after_put (new_port b) p) ≡ q = cc in
    let head : after_takes q got ≡ used_port true (passing (p ∷ []) got) b =
    ap (λ z. after_takes z got) (sym is ∙ ap (λ z. cond z (new_port b) (after_put (new_port b) p)) its) ∙ after_all b [] [] got in
    (λ i. head i ∷ puts_past own (at + 1) p got bs (omega (arith, place)) i) ∙ ap (λ z. used_port z (passing (p ∷ []) got) b ∷ used_ports own (at + 1) (passing (p ∷ []) got) bs) (sym its)
uses_own own at (suc k) p got (b ∷ bs) q place there =
    let other : (at == own) ≡ false = differ at own (λ e. omega (arith, place, e)) in
    ap (λ z. cond z (new_port b) (after_put (new_port b) p) ∷ set (put_past own (at + 1) p (map new_port bs)) k (after_takes q got)) other
    ∙ ap (λ qs. after_put (new_port b) p ∷ qs) (uses_own own (at + 1) k p got bs q (omega (arith, place)) there)
    ∙ ap (λ z. used_port z (passing (p ∷ []) got) b ∷ used_ports own (at + 1) (passing (p ∷ []) got) bs) (sym other)

length-put_past : (own at : ℕ) (p : Packet) (qs : List PortModel) → length (put_past own at p qs) ≡ length qs
length-put_past own at p [] = refl
length-put_past own at p (q ∷ qs) = ap suc (length-put_past own (at + 1) p qs)

-- what a member's ports are once it passed its packet on and got those of the others
pub passed_through : {D : Type 0} (port : D → PortModel) (before puts : List D) (own : ℕ) (its last : D) (p : Packet) (got : List Packet) → own < length before → its ≡ get_or puts own its → map port puts ≡ put_past own 0 p (map port before) → port last ≡ after_takes (port its) got
    → (bs : List InboxModel) → map port before ≡ map new_port bs → map port (set puts own last) ≡ used_ports own 0 (passing (p ∷ []) got) bs
passed_through port before puts own its last p got within is put took bs new =
    let ports : map port puts ≡ put_past own 0 p (map new_port bs) = put ∙ ap (put_past own 0 p) new in
    let long : length puts ≡ length before = sym (length-map puts port) ∙ ap length put ∙ length-put_past own 0 p (map port before) ∙ length-map before port in
    let there : slice_get puts own ≡ Some its = slice_get-get_or puts own its (omega (arith, within, long)) ∙ ap Some (sym is) in
    let at : slice_get (put_past own 0 p (map new_port bs)) own ≡ Some (port its) = ap (λ z. slice_get z own) (sym ports) ∙ slice_get-map port puts own ∙ ap (option_map port) there in
    map-set port puts own last ∙ ap (λ z. set z own (port last)) ports ∙ ap (set (put_past own 0 p (map new_port bs)) own) took ∙ uses_own own 0 own p got bs (port its) (omega arith) at
