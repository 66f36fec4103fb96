-- A packet that was merged was cut by the coordinator that it names as its sender.
use Rattle.std.proofs.Common.{◌≡◌, ◌⊎◌, ◌==◌, ◌+◌, ◌<◌, ◌≤◌, ℕ, Bool, true, false, cond, List, [], ◌∷◌, ◌++◌, map, refl, sym, ap, ◌∙◌, subst, inl, inr, Some, arith, eq-eqb}
use Rattle.std.proofs.lemmas.Bool.{eqb-true}
use Rattle.fm_records.specs.Sets.{IsMember}
use Rattle.fm_delta.specs.declared.packet.Packet.{Packet}
use Rattle.fm_coord.specs.declared.entry.Call.{Call}
use Rattle.fm_coord.specs.declared.entry.Call.TheVariants as call
use Rattle.fm_coord.specs.declared.entry.Reply.{Reply}
use Rattle.fm_coord.specs.declared.entry.Reply.TheVariants as reply
use Rattle.fm_coord.specs.declared.entry.Entry.{Entry}
use Rattle.fm_coord.specs.Events.{Replica, opening, packet_of, happens}
use Rattle.fm_coord.specs.Replays.{seen_packet, reply_of, event_of, after_entry, IsLegal}
use Rattle.fm_coord.specs.Numbers.{AreDistinct}
use Rattle.fm_coord.specs.States.{State}
use Rattle.fm_world.specs.Represents.{state_with}
use Rattle.fm_world.specs.Listings.{Made, entries_at, history_in, history_at, packet_in, packets_of, IsGiven, Follows, IsWhole, AreCoordinators, number_in}
use Rattle.fm_world.proofs.Alike.{number_stays}
use Rattle.fm_gossip.specs.AfterExchange.{AreCutBySenders}
use Rattle.fm_gossip.proofs.Same.{left, right, either, mapped, of_member}

-- the packets of one coordinator: each has its number for a sender, and they are numbered in order

cut_entry : (r : Replica) (by : ℕ) (c : Call) (q : Packet) → reply_of r (event_of c) ≡ reply.Packet q → (q.sender ≡ r.number) × (q.number ≡ r.cuts + 1) × ((happens r by (event_of c)).cuts ≡ r.cuts + 1)
cut_entry r by (call.Tell op) q h = absurd (let never : ⊥ = cc in never)
cut_entry r by (call.Merge p) q h = absurd (let never : ⊥ = cc in never)
cut_entry r by (call.Cut range) q h = let is : seen_packet (packet_of r range) ≡ q = cc in (ap (λ (p : Packet). p.sender) (sym is), ap (λ (p : Packet). p.number) (sym is), refl)
cut_entry r by (call.Trim n) q h = absurd (let never : ⊥ = cc in never)
cut_entry r by call.View q h = absurd (let never : ⊥ = cc in never)
cut_entry r by (call.Commit plan) q h = absurd (let never : ⊥ = cc in never)

cuts_grow : (r : Replica) (by : ℕ) (c : Call) → r.cuts ≤ (happens r by (event_of c)).cuts
cuts_grow r by (call.Tell op) = omega arith
cuts_grow r by (call.Merge p) = omega arith
cuts_grow r by (call.Cut range) = omega arith
cuts_grow r by (call.Trim n) = omega arith
cuts_grow r by call.View = omega arith
cuts_grow r by (call.Commit plan) = omega arith

cut_number : (r : Replica) (es : List Entry) → IsLegal r es → (e : Entry) → IsMember e es → (q : Packet) → e.reply ≡ reply.Packet q → (q.sender ≡ r.number) × (r.cuts < q.number)
cut_number r [] legal e m q h = absurd m
cut_number r (f ∷ es) legal e (inl is) q h =
    let c = cut_entry r f.by f.call q (sym legal.0.reply ∙ ap (λ (y : Entry). y.reply) is ∙ h) in
    (c.0, omega (arith, c.1))
cut_number r (f ∷ es) legal e (inr m) q h =
    let c = cut_number (after_entry r f) es legal.1 e m q h in
    (c.0 ∙ sym (number_stays r f.by (event_of f.call)), let le = cuts_grow r f.by f.call in omega (arith, c.1, le))

cut_once : (r : Replica) (es : List Entry) → IsLegal r es → (e f : Entry) → IsMember e es → IsMember f es → (p q : Packet) → e.reply ≡ reply.Packet p → f.reply ≡ reply.Packet q → p.number ≡ q.number → p ≡ q
cut_once r [] legal e f m k p q hp hq same = absurd m
cut_once r (g ∷ es) legal e f (inl a) (inl b) p q hp hq same =
    let both : reply.Packet p ≡ reply.Packet q = sym hp ∙ ap (λ (y : Entry). y.reply) (sym a ∙ b) ∙ hq in
    let is : p ≡ q = cc in is
cut_once r (g ∷ es) legal e f (inl a) (inr k) p q hp hq same =
    let c = cut_entry r g.by g.call p (sym legal.0.reply ∙ ap (λ (y : Entry). y.reply) a ∙ hp) in
    let later = cut_number (after_entry r g) es legal.1 f k q hq in
    absurd (omega (arith, c.1, c.2, later.1, same))
cut_once r (g ∷ es) legal e f (inr m) (inl b) p q hp hq same =
    let c = cut_entry r g.by g.call q (sym legal.0.reply ∙ ap (λ (y : Entry). y.reply) b ∙ hq) in
    let later = cut_number (after_entry r g) es legal.1 e m p hp in
    absurd (omega (arith, c.1, c.2, later.1, same))
cut_once r (g ∷ es) legal e f (inr m) (inr k) p q hp hq same = cut_once (after_entry r g) es legal.1 e f m k p q hp hq same

-- a listing: what is merged was given before

given_before : (p : Packet) (ps qs rs : List Packet) → IsMember p (ps ++ qs) ⊎ IsMember p rs → IsMember p ps ⊎ IsMember p (qs ++ rs)
given_before p ps qs rs (inl a) = elim (either p ps qs a) [ inl x ↦ inl x | inr y ↦ inr (left p qs rs y) ]
given_before p ps qs rs (inr b) = inr (right p qs rs b)

was_given : (n : ℕ) (p : Packet) (ps : List Packet) (ms : List Made) → Follows ps ms → (e : Entry) → IsMember e (entries_at n ms) → e.call ≡ call.Merge p → IsMember p ps ⊎ IsMember p (packets_of ms)
was_given n p ps [] follows e at is = absurd at
was_given n p ps (m ∷ ms) follows e at is = here (m.at == n) (λ h. given_before p ps (packet_in m.entry.reply) (packets_of ms) (was_given n p (ps ++ packet_in m.entry.reply) ms follows.1 e h is)) at where
  here : (b : Bool) → (IsMember e (entries_at n ms) → IsMember p ps ⊎ IsMember p (packets_of (m ∷ ms))) → IsMember e (cond b (m.entry ∷ entries_at n ms) (entries_at n ms)) → IsMember p ps ⊎ IsMember p (packets_of (m ∷ ms))
  here false later h = later h
  here true later (inl same) = inl (subst (IsGiven ps) (ap (λ (y : Entry). y.call) same ∙ is) follows.0)
  here true later (inr h) = later h

gives : (p : Packet) (r : Reply) → IsMember p (packet_in r) → r ≡ reply.Packet p
gives p reply.Nothing m = absurd m
gives p (reply.Packet q) (inl e) = ap reply.Packet e
gives p (reply.Packet q) (inr m) = absurd m
gives p (reply.Seen at known) m = absurd m
gives p (reply.Admitted admitted) m = absurd m

among : (b : Bool) (e x : Entry) (xs : List Entry) → IsMember e xs → IsMember e (cond b (x ∷ xs) xs)
among false e x xs m = m
among true e x xs m = inr m

who_gave : (p : Packet) (ms : List Made) → IsMember p (packets_of ms) → (m : Made) × IsMember m.entry (entries_at m.at ms) × (m.entry.reply ≡ reply.Packet p)
who_gave p [] h = absurd h
who_gave p (m ∷ ms) h = elim (either p (packet_in m.entry.reply) (packets_of ms) h) [
  | inl a ↦ (m, subst (λ b. IsMember m.entry (cond b (m.entry ∷ entries_at m.at ms) (entries_at m.at ms))) (sym (eq-eqb m.at m.at refl)) (inl refl), gives p m.entry.reply a)
  | inr b ↦ let r = who_gave p ms b in (r.0, among (m.at == r.0.at) r.0.entry m.entry (entries_at r.0.at ms) r.1, r.2)
]

-- the histories of coordinators, by their numbers

found : (ss : List State) (n : ℕ) (e : Entry) → IsMember e (history_at ss n) → (r : State) × IsMember r ss × IsMember e r.history
found [] n e m = absurd m
found (s ∷ ss) n e m = here (s.number == n) (found ss n e) m where
  here : (b : Bool) → (IsMember e (history_at ss n) → (r : State) × IsMember r ss × IsMember e r.history) → IsMember e (history_in (cond b (Some s) (state_with ss n))) → (r : State) × IsMember r (s ∷ ss) × IsMember e r.history
  here true later h = (s, inl refl, h)
  here false later h = let r = later h in (r.0, inr r.1, r.2)

its_history : (ss : List State) (s : State) → AreDistinct (map number_in ss) → IsMember s ss → history_at ss s.number ≡ s.history
its_history [] s d m = absurd m
its_history (t ∷ ss) s d (inl e) = ap (λ b. history_in (cond b (Some t) (state_with ss s.number))) (eq-eqb t.number s.number (ap number_in e)) ∙ ap (λ (z : State). z.history) e
its_history (t ∷ ss) s d (inr m) =
    elim (t.number == s.number) as (λ b. (t.number == s.number) ≡ b → history_in (cond b (Some t) (state_with ss s.number)) ≡ s.history) [
      | true ↦ λ e. absurd (d.0 (subst (λ n. IsMember n (map number_in ss)) (sym (eqb-true t.number s.number e)) (mapped number_in ss s m)))
      | false ↦ λ e. its_history ss s d.1 m
    ] refl

pub cut_by_senders : (ss : List State) (ms : List Made) → AreCoordinators ss → AreDistinct (map number_in ss) → IsWhole ss ms → AreCutBySenders ss
cut_by_senders ss ms c d whole s p m (e, at, is) =
    let here : IsMember e (entries_at s.number ms) = subst (IsMember e) (sym (whole.entries s.number ∙ its_history ss s d m)) at in
    let g = who_gave p ms (elim (was_given s.number p [] ms whole.follows e here is) [ inl x ↦ absurd x | inr y ↦ y ]) in
    let r = found ss g.0.at g.0.entry (subst (IsMember g.0.entry) (whole.entries g.0.at) g.1) in
    let first = opening r.0.number r.0.limit in
    let legal = (of_member ss r.0 c r.1).legal in (
      r.0,
      r.1,
      record {
        sender = sym (cut_number first r.0.history legal g.0.entry r.2 p g.2).0;
        cut = (g.0.entry, r.2, g.2);
        only = λ q h same. cut_once first r.0.history legal h.0 g.0.entry h.1 r.2 q p h.2 g.2 same;
      },
    )
