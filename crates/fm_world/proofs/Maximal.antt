-- A listing to which nothing can be added has the most entries of each coordinator.
use Rattle.std.proofs.Common.{◌≡◌, ◌≤◌, ◌==◌, ℕ, Bool, true, false, cond, List, [], ◌∷◌, ◌++◌, length, refl, sym, ◌∙◌, subst, inl, inr, arith, eq-eqb}
use Rattle.std.specs.Prelude.{◌⊎◌}
use Rattle.fm_records.specs.Sets.{IsMember}
use Rattle.fm_delta.specs.declared.packet.Packet.{Packet}
use Rattle.fm_coord.specs.declared.entry.Call.{Call}
use Rattle.fm_coord.specs.declared.entry.Call.TheVariants as call
use Rattle.fm_coord.specs.declared.entry.Entry.{Entry}
use Rattle.fm_coord.specs.States.{State}
use Rattle.fm_world.specs.Listings.{Made, entries_at, packet_in, packets_of, IsGiven, Follows, CannotGo, IsStuck, IsMaximal}

-- all but the first
abbrev later : List Entry → List Entry
later [] = []
later (e ∷ es) = es

-- a merge of one of the packets is one of more packets
given_more : (ps qs : List Packet) → ((p : Packet) → IsMember p ps → IsMember p qs) → (c : Call) → IsGiven ps c → IsGiven qs c
given_more ps qs sub (call.Tell op) g = tt
given_more ps qs sub (call.Merge p) g = sub p g
given_more ps qs sub (call.Cut range) g = tt
given_more ps qs sub (call.Trim n) g = tt
given_more ps qs sub call.View g = tt
given_more ps qs sub (call.Commit plan) g = tt

member_either : {R : Type 0} (x : R) (xs ys : List R) → IsMember x (xs ++ ys) → IsMember x xs ⊎ IsMember x ys
member_either x [] ys h = inr h
member_either x (y ∷ xs) ys (inl e) = inl (inl e)
member_either x (y ∷ xs) ys (inr h) = elim (member_either x xs ys h) as (λ _. (IsMember x (y ∷ xs)) ⊎ IsMember x ys) [ inl a ↦ inl (inr a) | inr b ↦ inr b ]

member_right : {R : Type 0} (x : R) (xs ys : List R) → IsMember x ys → IsMember x (xs ++ ys)
member_right x [] ys h = h
member_right x (y ∷ xs) ys h = inr (member_right x xs ys h)

member_left : {R : Type 0} (x : R) (xs ys : List R) → IsMember x xs → IsMember x (xs ++ ys)
member_left x (y ∷ xs) ys (inl e) = inl e
member_left x (y ∷ xs) ys (inr h) = inr (member_left x xs ys h)
member_left x [] ys h = absurd h

module _ (most : List Packet) (e : Entry) (can : IsGiven most e.call) where
  -- c is what the stuck listing has beyond the other, r what the history has beyond it: the other's next entry is the first of c
  stays : (b : Bool) (c r t z : List Entry) → CannotGo most r → c ++ r ≡ cond b (e ∷ t) t ++ z → cond b (later c) c ++ r ≡ t ++ z
  stays false c r t z stuck h = h
  stays true [] [] t z stuck h = absurd (let no : ⊥ = cc in no)
  stays true [] (x ∷ r) t z stuck h = let is : e ≡ x = cc in absurd (stuck (subst (λ (y : Entry). IsGiven most y.call) is can))
  stays true (x ∷ c) r t z stuck h = let is : c ++ r ≡ t ++ z = cc in is

  its_first : (b : Bool) (c r t z : List Entry) → b ≡ true → CannotGo most r → c ++ r ≡ cond b (e ∷ t) t ++ z → IsMember e c
  its_first false c r t z is stuck h = absurd (let no : ⊥ = cc in no)
  its_first true [] [] t z is stuck h = absurd (let no : ⊥ = cc in no)
  its_first true [] (x ∷ r) t z is stuck h = let same : e ≡ x = cc in absurd (stuck (subst (λ (y : Entry). IsGiven most y.call) same can))
  its_first true (x ∷ c) r t z is stuck h = let same : x ≡ e = cc in inl same

  counts : (b : Bool) (c r t z : List Entry) → CannotGo most r → c ++ r ≡ cond b (e ∷ t) t ++ z → length t ≤ length (cond b (later c) c) → length (cond b (e ∷ t) t) ≤ length c
  counts false c r t z stuck h le = le
  counts true [] [] t z stuck h le = absurd (let no : ⊥ = cc in no)
  counts true [] (x ∷ r) t z stuck h le = let is : e ≡ x = cc in absurd (stuck (subst (λ (y : Entry). IsGiven most y.call) is can))
  counts true (x ∷ c) r t z stuck h le = omega arith

later_member : (b : Bool) (e : Entry) (c : List Entry) → IsMember e (cond b (later c) c) → IsMember e c
later_member false e c h = h
later_member true e [] h = h
later_member true e (x ∷ c) h = inr h

-- what the stuck listing has beyond the other, after one more entry of the other
abbrev less : Made → (ℕ → List Entry) → ℕ → List Entry
less m beyond n = cond (m.at == n) (later (beyond n)) (beyond n)

-- step by step the other stays within the stuck one
module _ (most : List Packet) (rest ends : ℕ → List Entry) (stuck : (n : ℕ) → CannotGo most (rest n)) where
  within : (todo : List Made) (ps : List Packet) (beyond : ℕ → List Entry) → Follows ps todo
      → ((p : Packet) → IsMember p ps → IsMember p most)
      → ((n : ℕ) (e : Entry) → IsMember e (beyond n) → (p : Packet) → IsMember p (packet_in e.reply) → IsMember p most)
      → ((n : ℕ) → beyond n ++ rest n ≡ entries_at n todo ++ ends n)
      → (n : ℕ) → length (entries_at n todo) ≤ length (beyond n)
  within [] ps beyond follows had has is n = omega arith
  within (m ∷ todo) ps beyond follows had has is n =
      let can : IsGiven most m.entry.call = given_more ps most had m.entry.call follows.0 in
      let self : (m.at == m.at) ≡ true = eq-eqb m.at m.at refl in
      let here : IsMember m.entry (beyond m.at) = its_first most m.entry can (m.at == m.at) (beyond m.at) (rest m.at) (entries_at m.at todo) (ends m.at) self (stuck m.at) (is m.at) in
      counts most m.entry can (m.at == n) (beyond n) (rest n) (entries_at n todo) (ends n) (stuck n) (is n)
      (within todo (ps ++ packet_in m.entry.reply) (less m beyond) follows.1
      (λ p at. elim (member_either p ps (packet_in m.entry.reply) at) as (λ _. IsMember p most) [ inl a ↦ had p a | inr b ↦ has m.at m.entry here p b ])
      (λ k e at p gives. has k e (later_member (m.at == k) e (beyond k) at) p gives)
      (λ k. stays most m.entry can (m.at == k) (beyond k) (rest k) (entries_at k todo) (ends k) (stuck k) (is k))
      n)

-- the packets of a coordinator's entries are packets of the listing
packets_at : (n : ℕ) (ms : List Made) (e : Entry) → IsMember e (entries_at n ms) → (p : Packet) → IsMember p (packet_in e.reply) → IsMember p (packets_of ms)
packets_at n [] e at p gives = at
packets_at n (m ∷ ms) e at p gives = by (m.at == n) (λ h. packets_at n ms e h p gives) at where
  by : (b : Bool) → (IsMember e (entries_at n ms) → IsMember p (packets_of ms)) → IsMember e (cond b (m.entry ∷ entries_at n ms) (entries_at n ms)) → IsMember p (packet_in m.entry.reply ++ packets_of ms)
  by false rest h = member_right p (packet_in m.entry.reply) (packets_of ms) (rest h)
  by true rest (inl is) = member_left p (packet_in m.entry.reply) (packets_of ms) (subst (λ (y : Entry). IsMember p (packet_in y.reply)) (sym is) gives)
  by true rest (inr h) = member_right p (packet_in m.entry.reply) (packets_of ms) (rest h)

pub stuck_maximal : (ss : List State) (ms : List Made) → IsStuck ss ms → IsMaximal ss ms
stuck_maximal ss ms stuck other o n =
    within (packets_of ms) (λ k. (stuck k).rest) (λ k. (o.prefixes k).rest) (λ k. (stuck k).stop) other [] (λ k. entries_at k ms) o.follows (λ p h. absurd h)
    (λ k e at p gives. packets_at k ms e at p gives) (λ k. sym (stuck k).is ∙ (o.prefixes k).is) n
