-- A network is the table's exactly if it is the one computed.
use Rattle.std.specs.Prelude.{◌≡◌, ◌↔◌, ◌≤◌, ℕ, ◌+◌, ◌-◌, nat_le, Bool, true, false, cond, ◌==◌, [], ◌∷◌, Option, Some, None, option_map, flat_map, map, refl}
use Rattle.std.specs.List.{list_any}
use Rattle.std.specs.Ordering.{nat_cmp, is_eq}
use Rattle.std.proofs.Common.{sym, ap, ◌∙◌, subst, inl, inr}
use Rattle.std.proofs.lemmas.Bool.{eqb-true, leb-true}
use Rattle.fm_lattice.specs.laws.ChainLaws.{nat_same}
use Rattle.fm_lattice.specs.Maps.{lookup}
use Rattle.fm_lattice.specs.laws.MapLaws.{same_map}
use Rattle.fm_records.specs.declared.records.SpecReg.{SpecReg}
use Rattle.fm_records.specs.declared.records.MachineReg.{MachineReg}
use Rattle.fm_records.specs.Options.{when, and_then, only_if, passes}
use Rattle.fm_records.specs.Sets.{IsMember, rising}
use Rattle.fm_records.proofs.LookupLaws.{when_is_true, both_true}
use Rattle.fm_records.proofs.RangeLaws.{inside, when_value}
use Rattle.fm_records.proofs.TableLaws.{rising_table, lookup_table, rises_rising, member_rising}
use Rattle.fm_records.specs.Table.{Table, TaskValue, MachineValue}
use Rattle.fm_records.specs.Facts.{spec_of, machine_state, live_spec, is_live, open_state, is_open, is_present, won_spot, holder_of, holds, load_of, spare_of}
use Rattle.fm_net.specs.declared.node.Node.{Node}
use Rattle.fm_net.specs.declared.node.Node.TheVariants.{Sink, Unscheduled, Request, Machine, Task}
use Rattle.fm_net.specs.Nodes.{node_cmp, ends_cmp}
use Rattle.fm_net.specs.laws.NodeOrder.{node_exact, node_total, ends_exact, ends_total}
use Rattle.fm_net.specs.Net.{Net, IsArcKind}
use Rattle.fm_net.proofs.ListLaws.{any_of, some_member, member_before, member_behind, member_passing, passes_kept, member_mapped, member_of_one, entry_member, has_member, member_has, rises_kept, same_rising}
use Rattle.fm_net.specs.Network.{is_held, is_live_of, waits_for, some_task, is_node, capacity_for, place_arc, room_arc, preferred_arc, arc_of, IsNetworkOf, names_of_task, names, nodes_of, pairs, net_of}

none : {A P : Type 0} {a : A} → None ≡ Some a → P
none e = absurd (let no : ⊥ = cc in no)

-- What a value that passes a test, or that is there, comes from.

pub passes_some : {A : Type 0} (test : A → Bool) (o : Option A) → passes test o ≡ true → (a : A) × (o ≡ Some a) × (test a ≡ true)
passes_some test None e = absurd (let no : ⊥ = cc in no)
passes_some test (Some a) e = (a, refl, e)

pub only_if_some : {A : Type 0} (test : A → Bool) (o : Option A) (a : A) → only_if test o ≡ Some a → (o ≡ Some a) × (test a ≡ true)
only_if_some test None a e = none e
only_if_some test (Some b) a e =
    let is : b ≡ a = when_value (test b) b a e in
    (ap Some is, ap test (sym is) ∙ when_is_true (test b) b a e)

pub came_from : {A B : Type 0} (f : A → Option B) (o : Option A) (b : B) → and_then f o ≡ Some b → (a : A) × (o ≡ Some a) × (f a ≡ Some b)
came_from f None b e = none e
came_from f (Some a) b e = (a, refl, e)

pub mapped_from : {A B : Type 0} (f : A → B) (o : Option A) (b : B) → option_map f o ≡ Some b → (a : A) × (o ≡ Some a) × (f a ≡ b)
mapped_from f None b e = none e
mapped_from f (Some a) b e = (a, refl, inside (f a) b e)

pub where_true : {A : Type 0} (b : Bool) (o : Option A) (a : A) → cond b o None ≡ Some a → (b ≡ true) × (o ≡ Some a)
where_true true o a e = (refl, e)
where_true false o a e = none e

module _ (k : Table) where
  -- the record of a live task
  pub live_entry : (t : ℕ) (s : SpecReg) → live_spec k t ≡ Some s → (v : TaskValue) × (lookup nat_cmp t k.tasks ≡ Some v) × (v.0 ≡ Some s)
  live_entry t s e = came_from (λ v. v.0) (lookup nat_cmp t k.tasks) s (only_if_some _ (spec_of k t) s e).0

  -- the record of an open machine
  pub open_entry : (m : ℕ) (r : MachineReg) → open_state k m ≡ Some r → (v : MachineValue) × (lookup nat_cmp m k.machines ≡ Some v) × (v.1.0 ≡ Some r)
  open_entry m r e = came_from (λ v. v.1.0) (lookup nat_cmp m k.machines) r (only_if_some _ (machine_state k m) r e).0

  task_member : (t : ℕ) (s : SpecReg) → live_spec k t ≡ Some s → (v : TaskValue) × IsMember (t, v) k.tasks × (v.0 ≡ Some s)
  task_member t s e = let f = live_entry t s e in (f.0, entry_member nat_cmp nat_same t f.0 k.tasks f.1, f.2)

  task_names : (t : ℕ) (s : SpecReg) (v : TaskValue) (n : Node) → v.0 ≡ Some s → IsMember n (Task t ∷ Unscheduled s.job ∷ Request s.request ∷ []) → IsMember n (names_of_task (t, v))
  task_names t s v n e h = let is : v ≡ (Some s, v.1) = λ i. (e i, v.1) in subst (λ (w : TaskValue). IsMember n (names_of_task (t, w))) (sym is) h

  -- a live task's names are mentioned
  live_named : (t : ℕ) (s : SpecReg) (n : Node) → live_spec k t ≡ Some s → IsMember n (Task t ∷ Unscheduled s.job ∷ Request s.request ∷ []) → IsMember n (names k)
  live_named t s n e h =
      let m = task_member t s e in
      inr (member_before n (flat_map names_of_task k.tasks) _ (member_of_one names_of_task (t, m.0) n k.tasks m.1 (task_names t s m.0 n m.2 h)))

  -- what is a node is mentioned
  node_named : (n : Node) → is_node k n ≡ true → IsMember n (names k)
  node_named Sink h = inl refl
  node_named (Unscheduled j) h =
      let e = some_member (λ x. is_live_of k j x.0) k.tasks h in
      let s = passes_some (λ s. s.job == j) (live_spec k e.0.0) e.2 in
      live_named e.0.0 s.0 (Unscheduled j) s.1 (inr (inl (ap Unscheduled (eqb-true s.0.job j s.2))))
  node_named (Request r) h =
      let e = some_member (λ x. waits_for k r x.0) k.tasks h in
      let s = passes_some (λ s. s.request == r) (live_spec k e.0.0) (both_true _ _ e.2).0 in
      live_named e.0.0 s.0 (Request r) s.1 (inr (inr (inl (ap Request (eqb-true s.0.request r s.2)))))
  node_named (Machine m) h =
      let s = passes_some (λ r. true) (open_state k m) h in
      let f = open_entry m s.0 s.1 in
      inr (member_behind (Machine m) (flat_map names_of_task k.tasks) _ (member_mapped (λ (e : ℕ × MachineValue). Machine e.0) (m, f.0) k.machines (entry_member nat_cmp nat_same m f.0 k.machines f.1)))
  node_named (Task t) h = let s = passes_some (λ s. true) (live_spec k t) h in live_named t s.0 (Task t) s.1 (inl refl)

  pub node_member : (n : Node) → is_node k n ≡ true → IsMember n (nodes_of k)
  node_member n h = member_passing (is_node k) n (rising node_cmp (names k)) (member_rising node_cmp node_total node_exact n (names k) (node_named n h)) h

  node_standing : (n : Node) → list_any (λ m. is_eq (node_cmp n m)) (nodes_of k) ≡ is_node k n
  node_standing n =
      let standing = list_any (λ m. is_eq (node_cmp n m)) (nodes_of k) in
      elim (is_node k n) as (λ b. is_node k n ≡ b → standing ≡ b) [
        | true ↦ λ h. has_member node_cmp node_total node_exact n (nodes_of k) (node_member n h)
        | false ↦ λ h. elim standing as (λ b. standing ≡ b → b ≡ false) [
          | true ↦ λ s. sym (passes_kept (is_node k) n (rising node_cmp (names k)) (member_has node_cmp node_total node_exact n (nodes_of k) s)) ∙ h
          | false ↦ λ _. refl
        ] refl
      ] refl

  -- A live task makes its node, its job's, and, if it waits, its request's.

  is_some_task : (test : ℕ → Bool) (t : ℕ) (s : SpecReg) → live_spec k t ≡ Some s → test t ≡ true → some_task test k ≡ true
  is_some_task test t s e h = let m = task_member t s e in any_of (λ (x : ℕ × TaskValue). test x.0) (t, m.0) k.tasks m.1 h

  live : (t : ℕ) (s : SpecReg) → live_spec k t ≡ Some s → is_live k t ≡ true
  live t s e = rw e refl

  opened : (m : ℕ) (r : MachineReg) → open_state k m ≡ Some r → is_open k m ≡ true
  opened m r e = rw e refl

  -- an arc's ends
  pub record Ends (a b : Node) : Type 0 where
    pub from : is_node k a ≡ true
    pub to : is_node k b ≡ true
    pub kinds : IsArcKind a b

  -- a task that is held, and the machine that holds it
  pub held_ends : (t m : ℕ) → holds k m t ≡ true → Ends (Task t) (Machine m)
  held_ends t m e =
      let h = passes_some (λ h. h == m) (holder_of k t) e in
      let f = where_true (is_live k t) _ h.0 h.1 in
      let spot = mapped_from (λ s. s.machine) (only_if (is_present k) (won_spot k t)) h.0 f.1 in
      let present = both_true _ _ (only_if_some (is_present k) (won_spot k t) spot.0 spot.1).1 in
      record { from = f.0; to = subst (λ q. is_open k q ≡ true) (spot.2 ∙ eqb-true h.0 m h.2) present.0; kinds = tt }

  -- what an arc into a machine with room comes from
  pub record Room (r m : ℕ) (v : ℕ × ℕ) : Type 0 where
    pub state : MachineReg
    pub opened : open_state k m ≡ Some state
    pub within : load_of k m ≤ state.nic
    pub room : r ≤ state.nic - load_of k m
    pub value : (capacity_for state (state.nic - load_of k m) r, r + load_of k m) ≡ v

  pub room_from : (r m : ℕ) (v : ℕ × ℕ) → room_arc k r m ≡ Some v → Room r m v
  room_from r m v e =
      let state = came_from (λ s. and_then (place_arc k r m s) (spare_of k m)) (open_state k m) v e in
      let spare = came_from (place_arc k r m state.0) (spare_of k m) v state.2 in
      let other = came_from (λ s. when (nat_le (load_of k m) s.nic) (s.nic - load_of k m)) (open_state k m) spare.0 spare.1 in
      let one : other.0 ≡ state.0 = inside other.0 state.0 (sym other.1 ∙ state.1) in
      let left : state.0.nic - load_of k m ≡ spare.0 = ap (λ (s : MachineReg). s.nic - load_of k m) (sym one) ∙ when_value _ _ spare.0 other.2 in
      let fits : r ≤ spare.0 = leb-true r spare.0 (when_is_true _ _ v spare.2) in
      record {
        state = state.0;
        opened = state.1;
        within = subst (λ (s : MachineReg). load_of k m ≤ s.nic) one (leb-true (load_of k m) other.0.nic (when_is_true _ _ spare.0 other.2));
        room = subst (λ n. r ≤ n) (sym left) fits;
        value = ap (λ n. (capacity_for state.0 n r, r + load_of k m)) left ∙ when_value _ _ v spare.2;
      }

  -- what the arc of a task into a machine that it prefers comes from
  pub record Preferred (t m : ℕ) (v : ℕ × ℕ) (s : SpecReg) : Type 0 where
    pub live : live_spec k t ≡ Some s
    pub credit : ℕ
    pub prefers : lookup nat_cmp m s.prefer ≡ Some credit
    pub place : ℕ × ℕ
    pub room : Room s.request m place
    pub value : (1, place.1 - credit) ≡ v

  pub preferred_from : (t m : ℕ) (v : ℕ × ℕ) → and_then (λ s. preferred_arc k s m) (live_spec k t) ≡ Some v → (s : SpecReg) × Preferred t m v s
  preferred_from t m v e =
      let s = came_from (λ s. preferred_arc k s m) (live_spec k t) v e in
      let credit = came_from (λ c. option_map (λ a. (1, a.1 - c)) (room_arc k s.0.request m)) (lookup nat_cmp m s.0.prefer) v s.2 in
      let place = mapped_from (λ a. (1, a.1 - credit.0)) (room_arc k s.0.request m) v credit.2 in
      (s.0, record { live = s.1; credit = credit.0; prefers = credit.1; place = place.0; room = room_from s.0.request m place.0 place.1; value = place.2 })

  -- an arc joins nodes
  pub ends_of : (a b : Node) (v : ℕ × ℕ) → arc_of k a b ≡ Some v → Ends a b
  ends_of (Task t) (Request r) v e =
      let waits = when_is_true (waits_for k r t) (1, 0) v e in
      let s = passes_some (λ s. s.request == r) (live_spec k t) (both_true _ _ waits).0 in
      record { from = live t s.0 s.1; to = is_some_task (waits_for k r) t s.0 s.1 waits; kinds = tt }
  ends_of (Task t) (Machine m) v e = elim (is_held k t) as (λ b. cond b (when (holds k m t) (1, 0)) (and_then (λ s. preferred_arc k s m) (live_spec k t)) ≡ Some v → Ends (Task t) (Machine m)) [
    | true ↦ λ f. held_ends t m (when_is_true (holds k m t) (1, 0) v f)
    | false ↦ λ f. let w = preferred_from t m v f in record { from = live t w.0 w.1.live; to = opened m w.1.room.state w.1.room.opened; kinds = tt }
  ] e
  ends_of (Task t) (Unscheduled j) v e =
      let is = (where_true (is_live_of k j t) _ v e).0 in
      let s = passes_some (λ s. s.job == j) (live_spec k t) is in
      record { from = live t s.0 s.1; to = is_some_task (is_live_of k j) t s.0 s.1 is; kinds = tt }
  ends_of (Request r) (Machine m) v e =
      let f = where_true (is_node k (Request r)) _ v e in
      let p = room_from r m v f.1 in
      record { from = f.0; to = opened m p.state p.opened; kinds = tt }
  ends_of (Machine m) Sink v e = let s = mapped_from _ (open_state k m) v e in record { from = opened m s.0 s.1; to = refl; kinds = tt }
  ends_of (Unscheduled j) Sink v e = record { from = when_is_true (is_node k (Unscheduled j)) _ v e; to = refl; kinds = tt }
  ends_of _ _ v e = none e

  abbrev arc : Node × Node → Option (ℕ × ℕ)
  arc e = arc_of k e.0 e.1

  arc_named : (e : Node × Node) (v : ℕ × ℕ) → arc e ≡ Some v → IsMember e (pairs (nodes_of k))
  arc_named e v h =
      let ends = ends_of e.0 e.1 v h in
      let ns = nodes_of k in
      member_of_one (λ (x : Node). map (λ y. (x, y)) ns) e.0 e ns (node_member e.0 ends.from) (member_mapped (λ (y : Node). (e.0, y)) e.1 ns (node_member e.1 ends.to))

  pub is_network_of : IsNetworkOf k (net_of k)
  is_network_of = record {
    nodes_rise = rises_kept node_cmp node_total node_exact (is_node k) (rising node_cmp (names k)) (rises_rising node_cmp node_total node_exact (names k));
    arcs_rise = rising_table ends_cmp ends_total ends_exact arc (pairs (nodes_of k));
    each_node = node_standing;
    each_arc = λ a b. lookup_table ends_cmp ends_total ends_exact arc (pairs (nodes_of k)) (a, b) (arc_named (a, b));
  }

  -- two networks of one table are one
  pub one_network : (m n : Net) → IsNetworkOf k m → IsNetworkOf k n → m ≡ n
  one_network m n p q =
      let nodes = same_rising node_cmp node_total node_exact m.nodes n.nodes p.nodes_rise q.nodes_rise (λ a. p.each_node a ∙ sym (q.each_node a)) in
      let arcs = same_map ends_cmp ends_total ends_exact m.arcs n.arcs p.arcs_rise q.arcs_rise (λ e. p.each_arc e.0 e.1 ∙ sym (q.each_arc e.0 e.1)) in
      λ i. record { nodes = nodes i; arcs = arcs i }

  pub network_is : (n : Net) → IsNetworkOf k n ↔ (n ≡ net_of k)
  network_is n = (λ p. one_network n (net_of k) p is_network_of, λ e. subst (IsNetworkOf k) (sym e) is_network_of)
