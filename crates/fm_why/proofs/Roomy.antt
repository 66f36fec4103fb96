-- To which machines a task has a way, by what is known.
use Rattle.std.proofs.Common.{◌≡◌, ◌∙◌, sym, subst, refl, inl, inr, ap, ℕ, ◌-◌, true, false, Bool, cond, not, ◌==◌, nat_le, List, [], ◌∷◌, Option, Some, None, arith}
use Rattle.std.specs.Prelude.{filter, is_some, IsSome, option_map}
use Rattle.std.specs.Map.{keys_of}
use Rattle.std.proofs.lemmas.Bool.{eqb-true}
use Rattle.fm_records.specs.declared.records.SpecReg.{SpecReg}
use Rattle.fm_records.specs.declared.records.MachineReg.{MachineReg}
use Rattle.fm_records.specs.Options.{when, and_then, passes}
use Rattle.fm_records.proofs.LookupLaws.{when_is_true, both_true}
use Rattle.fm_records.proofs.RangeLaws.{inside}
use Rattle.fm_records.specs.Table.{Table}
use Rattle.fm_records.specs.Facts.{live_spec, holder_of, holds, is_open, open_state, spare_of, load_of, has_room}
use Rattle.fm_net.specs.declared.node.Node.{Node}
use Rattle.fm_net.specs.declared.node.Node.TheVariants.{Request, Machine, Task}
use Rattle.fm_net.specs.Net.{arc_at}
use Rattle.fm_net.specs.Network.{is_held, waits_for, is_node, room_arc, place_arc, preferred_arc, arc_of, net_of}
use Rattle.fm_net.proofs.NetworkLaws.{where_true, Room, room_from, preferred_from, ends_of, is_network_of}
use Rattle.fm_certificate.specs.Flows.{Units}
use Rattle.fm_why.specs.Running.{RunsOn}
use Rattle.fm_why.specs.MachineOptions.{lesser, roomy}
use Rattle.fm_why.specs.inner.MachineWays.{has_way, machine_ways, IsOnlyRequest}

pub there : {A : Type 0} (o : Option A) → IsSome o → (a : A) × (o ≡ Some a)
there None h = absurd (let no : ⊥ = cc in no)
there (Some a) h = (a, refl)

differ : {P : Type 0} (b : Bool) → b ≡ true → b ≡ false → P
differ b t f = absurd (let no : ⊥ = cc in no)

module _ (k : Table) where
  -- an arc of the network, by the table
  pub arc_is : (from to : Node) → IsSome (arc_at (net_of k) from to) → (a : ℕ × ℕ) × (arc_of k from to ≡ Some a)
  arc_is from to h =
      let a = there (arc_at (net_of k) from to) h in
      (a.0, sym ((is_network_of k).each_arc from to) ∙ a.1)

  opened : (from : Node) (m : ℕ) → IsSome (arc_at (net_of k) from (Machine m)) → is_open k m ≡ true
  opened from m h = let a = arc_is from (Machine m) h in (ends_of k from (Machine m) a.0 a.1).to

  -- a closed machine runs nothing
  pub closed : (units : Units) (t m : ℕ) → is_open k m ≡ false → RunsOn (net_of k) units t m → ⊥
  closed units t m shut runs = elim runs [
    | inl own ↦ differ (is_open k m) (opened (Task t) m own.arc) shut
    | inr over ↦ differ (is_open k m) (opened (Request over.0) m over.1.1.arc) shut
  ]

  -- a task that is held runs nowhere else
  held_is : (t h : ℕ) → holder_of k t ≡ Some h → is_held k t ≡ true
  held_is t h e = ap (passes (λ m. true)) e

  pub elsewhere : (units : Units) (t m h : ℕ) → holder_of k t ≡ Some h → (h ≡ m → ⊥) → RunsOn (net_of k) units t m → ⊥
  elsewhere units t m h e other runs = elim runs [
    | inl own ↦
        let a = arc_is (Task t) (Machine m) own.arc in
        let cased : when (holds k m t) (1, 0) ≡ Some a.0 = subst (λ b. cond b (when (holds k m t) (1, 0)) (and_then (λ s. preferred_arc k s m) (live_spec k t)) ≡ Some a.0) (held_is t h e) a.1 in
        let held : passes (λ (q : ℕ). q == m) (Some h) ≡ true = sym (ap (passes (λ (q : ℕ). q == m)) e) ∙ when_is_true (holds k m t) (1, 0) a.0 cased in
        other (eqb-true h m held)
    | inr over ↦
        let a = arc_is (Task t) (Request over.0) over.1.0.arc in
        let waits = both_true _ _ (when_is_true (waits_for k over.0 t) (1, 0) a.0 a.1) in
        differ (not (is_held k t)) waits.1 (ap not (held_is t h e))
  ]

  -- a live task that no machine holds
  module _ (t : ℕ) (spec : SpecReg) (live : live_spec k t ≡ Some spec) (free : holder_of k t ≡ None) where
    free_is : is_held k t ≡ false
    free_is = ap (passes (λ m. true)) free

    -- asks for its request alone
    pub request_is : (r : ℕ) → IsSome (arc_at (net_of k) (Task t) (Request r)) → r ≡ spec.request
    request_is r h =
        let a = arc_is (Task t) (Request r) h in
        let asks : passes (λ (s : SpecReg). s.request == r) (live_spec k t) ≡ true = (both_true _ _ (when_is_true (waits_for k r t) (1, 0) a.0 a.1)).0 in
        let same : (spec.request == r) ≡ true = sym (ap (passes (λ (s : SpecReg). s.request == r)) live) ∙ asks in
        sym (eqb-true spec.request r same)

    pub only_request : IsOnlyRequest (net_of k) t spec.request
    only_request = request_is

    -- an arc to a machine with room
    room_is : (r m : ℕ) (v : ℕ × ℕ) → Room k r m v → has_room k m r ≡ true
    room_is r m v room =
        let inner : nat_le (load_of k m) room.state.nic ≡ true = grind (arith, room.within) in
        let outer : nat_le r (room.state.nic - load_of k m) ≡ true = grind (arith, room.room) in
        rw room.opened (rw inner outer)

    pub own_room : (m : ℕ) → IsSome (arc_at (net_of k) (Task t) (Machine m)) → has_room k m spec.request ≡ true
    own_room m h =
        let a = arc_is (Task t) (Machine m) h in
        let cased : and_then (λ s. preferred_arc k s m) (live_spec k t) ≡ Some a.0 = subst (λ b. cond b (when (holds k m t) (1, 0)) (and_then (λ s. preferred_arc k s m) (live_spec k t)) ≡ Some a.0) free_is a.1 in
        let prefers = preferred_from k t m a.0 cased in
        let same : prefers.0 ≡ spec = inside prefers.0 spec (sym prefers.1.live ∙ live) in
        subst (λ (s : SpecReg). has_room k m s.request ≡ true) same (room_is prefers.0.request m prefers.1.place prefers.1.room)

    pub over_room : (m : ℕ) → IsSome (arc_at (net_of k) (Request spec.request) (Machine m)) → has_room k m spec.request ≡ true
    over_room m h =
        let a = arc_is (Request spec.request) (Machine m) h in
        let room = (where_true (is_node k (Request spec.request)) _ a.0 a.1).1 in
        room_is spec.request m a.0 (room_from k spec.request m a.0 room)

    -- runs nowhere without room
    pub full : (units : Units) (m : ℕ) → has_room k m spec.request ≡ false → RunsOn (net_of k) units t m → ⊥
    full units m none runs = elim runs [
      | inl own ↦ differ (has_room k m spec.request) (own_room m own.arc) none
      | inr over ↦
          let arc = subst (λ r. IsSome (arc_at (net_of k) (Request r) (Machine m))) (request_is over.0 over.1.0.arc) over.1.1.arc in
          differ (has_room k m spec.request) (over_room m arc) none
    ]

    -- and has a way to each machine with room
    waits : waits_for k spec.request t ≡ true
    waits =
        let asks : passes (λ (s : SpecReg). s.request == spec.request) (live_spec k t) ≡ true = rw live (grind arith) in
        rw (asks, free_is) refl

    request_stands : is_node k (Request spec.request) ≡ true
    request_stands = let arc : arc_of k (Task t) (Request spec.request) ≡ Some (1, 0) = rw waits refl in (ends_of k (Task t) (Request spec.request) (1, 0) arc).to

    room_some : (m : ℕ) (o : Option MachineReg) (spare : Option ℕ) → passes (λ s. nat_le spec.request s) spare ≡ true → (o ≡ None → spare ≡ None) → is_some (and_then (λ state. and_then (place_arc k spec.request m state) spare) o) ≡ true
    room_some m o None h none = absurd (let no : ⊥ = cc in no)
    room_some m None (Some s) h none = let e = none refl in absurd (let no : ⊥ = cc in no)
    room_some m (Some state) (Some s) h none = rw h refl

    room_to : (m : ℕ) → has_room k m spec.request ≡ true → is_some (room_arc k spec.request m) ≡ true
    room_to m h = room_some m (open_state k m) (spare_of k m) h (λ shut. rw shut refl)

    way_to : (m : ℕ) → has_room k m spec.request ≡ true → is_some (arc_at (net_of k) (Request spec.request) (Machine m)) ≡ true
    way_to m h = rw ((is_network_of k).each_arc (Request spec.request) (Machine m)) (rw request_stands (room_to m h))

    some_way : (a b : Option (ℕ × ℕ)) → is_some (lesser (option_map (λ v. v.1) a) (option_map (λ v. v.1) b)) ≡ true → (is_some a ≡ true → ⊥) → (is_some b ≡ true → ⊥) → ⊥
    some_way None None e p q = absurd (let no : ⊥ = cc in no)
    some_way (Some a) b e p q = p refl
    some_way None (Some b) e p q = q refl

    one_way : (a b : Option (ℕ × ℕ)) → is_some a ≡ true → is_some (lesser (option_map (λ v. v.1) a) (option_map (λ v. v.1) b)) ≡ true
    one_way None b e = absurd (let no : ⊥ = cc in no)
    one_way (Some a) None e = refl
    one_way (Some a) (Some b) e = refl

    way_is_room : (m : ℕ) → has_way (net_of k) t spec.request m ≡ has_room k m spec.request
    way_is_room m = elim (has_room k m spec.request) as (λ b. has_room k m spec.request ≡ b → has_way (net_of k) t spec.request m ≡ b) [
      | true ↦ λ e. one_way (arc_at (net_of k) (Request spec.request) (Machine m)) (arc_at (net_of k) (Task t) (Machine m)) (way_to m e)
      | false ↦ λ e. elim (has_way (net_of k) t spec.request m) as (λ b. has_way (net_of k) t spec.request m ≡ b → b ≡ false) [
        | true ↦ λ some. absurd (some_way (arc_at (net_of k) (Request spec.request) (Machine m)) (arc_at (net_of k) (Task t) (Machine m)) some (λ over. differ (has_room k m spec.request) (over_room m over) e) (λ own. differ (has_room k m spec.request) (own_room m own) e))
        | false ↦ λ some. refl
      ] refl
    ] refl

    same_kept : (ms : List ℕ) → filter (has_way (net_of k) t spec.request) ms ≡ filter (λ m. has_room k m spec.request) ms
    same_kept [] = refl
    same_kept (m ∷ ms) = rw (way_is_room m) (ap (λ rest. cond (has_room k m spec.request) (m ∷ rest) rest) (same_kept ms))

    pub ways_are_roomy : machine_ways k (net_of k) t spec.request ≡ roomy k spec.request
    ways_are_roomy = same_kept (keys_of k.machines)
