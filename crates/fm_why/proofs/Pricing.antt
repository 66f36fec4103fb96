-- A live task that no machine holds, and that does not wait, runs on a machine with room. So if each schedule that runs it is dearer, a
-- least one stays least while waiting costs no more than that.
use Rattle.std.proofs.Common.{◌≡◌, ◌∙◌, ap, sym, subst, refl, inl, inr, ℕ, zero, suc, ◌+◌, ◌-◌, ◌*◌, ◌≤◌, ◌<◌, ◌^◌, true, false, Bool, cond, ◌==◌, List, [], ◌∷◌, Some, None, length, map, get_or, arith}
use Rattle.std.specs.Prelude.{Option, IsTrue, IsSome, IfSome, option_map, slice_get, nat_le}
use Rattle.std.specs.Ordering.{nat_cmp}
use Rattle.std.specs.List.{sum_by, All}
use Rattle.std.specs.List.Sorted.{IsPermutation, IsNonDecreasingBy}
use Rattle.std.specs.Map.{keys_of}
use Rattle.std.proofs.Math.Nat.{mul-le-mul_right, one-mul}
use Rattle.std.proofs.lemmas.Bool.{eqb-true}
use Rattle.std.proofs.lemmas.List.Sums.{sum_by-cons}
use Rattle.std.proofs.lemmas.List.Elements.{All-head, All-tail, All-map}
use Rattle.std.proofs.lemmas.List.Sorted.{All-permutation, IsPermutation-sym}
use Rattle.fm_lattice.specs.laws.ChainLaws.{nat_same}
use Rattle.fm_records.specs.declared.records.SpecReg.{SpecReg}
use Rattle.fm_records.specs.declared.records.JobReg.{JobReg}
use Rattle.fm_records.specs.declared.records.MachineReg.{MachineReg}
use Rattle.fm_records.specs.Options.{passes, when}
use Rattle.fm_records.specs.Sets.{IsMember}
use Rattle.fm_records.specs.Table.{Table, MachineValue}
use Rattle.fm_records.specs.Facts.{job_of, live_spec, holder_of, has_room, spare_of, open_state, load_of}
use Rattle.fm_net.specs.declared.node.Node.{Node}
use Rattle.fm_net.specs.declared.node.Node.TheVariants.{Sink, Unscheduled, Request, Machine, Task}
use Rattle.fm_net.proofs.ListLaws.{member_passing, member_mapped, entry_member}
use Rattle.fm_net.specs.Net.{Net, CanBeNet, IsArcKind, has_node, arc_at}
use Rattle.fm_net.specs.Network.{is_held, is_live_of, arc_of, net_of}
use Rattle.fm_net.proofs.NetworkLaws.{where_true, passes_some, came_from, open_entry, is_network_of}
use Rattle.fm_net.specs.laws.NodeOrder.{ends_exact, ends_total}
use Rattle.fm_net.specs.Nodes.{ends_cmp}
use Rattle.fm_net.specs.NetworkEquality.{same_node}
use Rattle.fm_net.specs.laws.NetworkEqualityLaws.{node_Decides}
use Rattle.fm_certificate.specs.Flows.{Units, cost_of, leaving, entering, IsFeasible, IsLeast}
use Rattle.fm_certificate.proofs.Alike.{same_itself}
use Rattle.fm_certificate.proofs.Exchange.{Arc}
use Rattle.fm_certificate.proofs.Least.{arc_member}
use Rattle.fm_certificate.proofs.Members.{lookup_member}
use Rattle.fm_why.specs.declared.reasons.Choice.{Choice}
use Rattle.fm_why.specs.Running.{Sends, RunsOn, IsDearer}
use Rattle.fm_why.specs.MachineOptions.{roomy}
use Rattle.fm_why.specs.Pricing.{StaysLeast}
use Rattle.fm_why.specs.Reasons.{IsChoice}
use Rattle.fm_why.proofs.Roomy.{there, arc_is, own_room, over_room, request_is}

module _ {X : Type 0} (f : X → ℕ) where
  -- a sum that is not 0 has a part that is not
  some_part : (xs : List X) → 0 < sum_by f xs → (x : X) × IsMember x xs × (0 < f x)
  some_part [] h = absurd (omega arith)
  some_part (x ∷ xs) h = go (f x) refl (λ more. some_part xs more)
    where
      go : (n : ℕ) → f x ≡ n → (0 < sum_by f xs → (y : X) × IsMember y xs × (0 < f y)) → (y : X) × IsMember y (x ∷ xs) × (0 < f y)
      go (suc n) e later = (x, inl refl, omega (arith, e))
      go zero e later = let rest = later (omega (arith, e, h, sum_by-cons f x xs)) in (rest.0, inr rest.1, rest.2)

  part_within : (x : X) (xs : List X) → IsMember x xs → f x ≤ sum_by f xs
  part_within x [] m = absurd m
  part_within x (y ∷ xs) m = elim m [
    | inl is ↦ let same : f y ≡ f x = ap f is in omega (arith, sum_by-cons f y xs)
    | inr later ↦ let rest = part_within x xs later in omega (arith, sum_by-cons f y xs)
  ]

-- units that leave a node go over an arc, and those of an arc enter its end
module _ (net : Net) (can : CanBeNet net) (units : Units) where
  abbrev part_at : Node → Arc → ℕ
  part_at n a = cond (same_node a.0.0 n) (units a.0.0 a.0.1) 0

  is_there : (n : Node) (a : Arc) → IsMember a net.arcs → 0 < part_at n a → (to : Node) × Sends net units n to
  is_there n a m h = go (same_node a.0.0 n) refl h
    where
      go : (b : Bool) → same_node a.0.0 n ≡ b → 0 < cond b (units a.0.0 a.0.1) 0 → (to : Node) × Sends net units n to
      go false e h = absurd (omega arith)
      go true e h =
          let is : a.0.0 ≡ n = (node_Decides a.0.0 n).0 e in
          let sends : Sends net units a.0.0 a.0.1 = record { arc = rw (arc_member net can a m) refl; some = h } in
          (a.0.1, subst (λ (x : Node). Sends net units x a.0.1) is sends)

  pub sends_on : (n : Node) → 0 < leaving net units n → (to : Node) × Sends net units n to
  sends_on n h = let a = some_part (part_at n) net.arcs h in is_there n a.0 a.1 a.2

  pub enters : (from to : Node) → Sends net units from to → 0 < entering net units to
  enters from to s =
      let arc = there (arc_at net from to) s.arc in
      let m = lookup_member ends_cmp ends_total ends_exact (from, to) arc.0 net.arcs arc.1 in
      let part = part_within (λ (a : Arc). cond (same_node a.0.1 to) (units a.0.0 a.0.1) 0) ((from, to), arc.0) net.arcs m in
      let is : cond (same_node to to) (units from to) 0 ≡ units from to = rw (same_itself to) refl in
      omega (arith, s.some)

module _ (k : Table) (can : CanBeNet (net_of k)) (t : ℕ) (spec : SpecReg) (job : JobReg) (live : live_spec k t ≡ Some spec) (known : job_of k spec.job ≡ Some job) (free : holder_of k t ≡ None) where
  abbrev net : Net
  net = net_of k

  -- a flow runs the task on a machine with room
  record Runs (units : Units) : Type 0 where
    machine : ℕ
    room : has_room k machine spec.request ≡ true
    runs : RunsOn net units t machine

  stands : IsTrue (has_node net (Task t))
  stands = (is_network_of k).each_node (Task t) ∙ rw live refl

  kind_of : (from to : Node) (units : Units) → Sends net units from to → IsArcKind from to
  kind_of from to units s = let arc = there (arc_at net from to) s.arc in (can.are_arcs from to arc.0 arc.1).kinds

  -- to no other job
  own_job : (j : ℕ) (units : Units) → Sends net units (Task t) (Unscheduled j) → spec.job ≡ j
  own_job j units s =
      let a = arc_is k (Task t) (Unscheduled j) s.arc in
      let of_job : passes (λ (r : SpecReg). r.job == j) (live_spec k t) ≡ true = (where_true (is_live_of k j t) _ a.0 a.1).0 in
      let same : (spec.job == j) ≡ true = sym (ap (passes (λ (r : SpecReg). r.job == j)) live) ∙ of_job in
      eqb-true spec.job j same

  module _ (units : Units) (ok : IsFeasible net units) where
    over : (r : ℕ) → Sends net units (Task t) (Request r) → (to : Node) → Sends net units (Request r) to → Runs units
    over r first (Machine m) second =
        let is : r ≡ spec.request = request_is k t spec live free r first.arc in
        record {
          machine = m;
          room = over_room k t spec live free m (subst (λ q. IsSome (arc_at net (Request q) (Machine m))) is second.arc);
          runs = inr (r, (first, second));
        }
    over r first Sink second = absurd (kind_of (Request r) Sink units second)
    over r first (Unscheduled j) second = absurd (kind_of (Request r) (Unscheduled j) units second)
    over r first (Request q) second = absurd (kind_of (Request r) (Request q) units second)
    over r first (Task q) second = absurd (kind_of (Request r) (Task q) units second)

    passes_on : (r : ℕ) → Sends net units (Task t) (Request r) → Runs units
    passes_on r first =
        let arc = there (arc_at net (Task t) (Request r)) first.arc in
        let node : IsTrue (has_node net (Request r)) = (can.are_arcs (Task t) (Request r) arc.0 arc.1).to_stands in
        let comes = enters net can units (Task t) (Request r) first in
        let next = sends_on net can units (Request r) (omega (arith, comes, ok.kept (Request r) node refl)) in
        over r first next.0 next.1

    goes : units (Task t) (Unscheduled spec.job) ≡ 0 → (to : Node) → Sends net units (Task t) to → Runs units
    goes none (Machine m) s = record { machine = m; room = own_room k t spec live free m s.arc; runs = inl s }
    goes none (Request r) s = passes_on r s
    goes none (Unscheduled j) s =
        let is : units (Task t) (Unscheduled j) ≡ 0 = ap (λ i. units (Task t) (Unscheduled i)) (sym (own_job j units s)) ∙ none in
        absurd (omega (arith, s.some))
    goes none Sink s = absurd (kind_of (Task t) Sink units s)
    goes none (Task q) s = absurd (kind_of (Task t) (Task q) units s)

    runs_somewhere : units (Task t) (Unscheduled spec.job) ≡ 0 → Runs units
    runs_somewhere none = let next = sends_on net can units (Task t) (omega (arith, ok.sent t stands)) in goes none next.0 next.1

    -- the arc to its job takes one unit
    one_waits : units (Task t) (Unscheduled spec.job) ≤ 1
    one_waits =
        let of_job : is_live_of k spec.job t ≡ true = rw live (grind arith) in
        let cost : ℕ = cond (is_held k t) job.preempt job.wait in
        let arc : arc_of k (Task t) (Unscheduled spec.job) ≡ Some (1, cost) = rw (of_job, known) refl in
        ok.within (Task t) (Unscheduled spec.job) (1, cost) ((is_network_of k).each_arc (Task t) (Unscheduled spec.job) ∙ arc)

  abbrev waiting : Units → ℕ
  waiting us = us (Task t) (Unscheduled spec.job)

  pub stays_least : (units : Units) (cost more : ℕ) → IsLeast net units → cost ≡ cost_of net units → ((m : ℕ) → has_room k m spec.request ≡ true → IsDearer net cost t m more)
      → StaysLeast net (Task t) (Unscheduled spec.job) more units
  stays_least units cost more least is each others ok = go (others (Task t) (Unscheduled spec.job)) refl
    where
      go : (n : ℕ) → waiting others ≡ n → cost_of net units + waiting units * more ≤ cost_of net others + waiting others * more
      go zero none =
          let runs = runs_somewhere others ok none in
          let dear = each runs.machine runs.room others ok runs.runs in
          let few : waiting units * more ≤ 1 * more = mul-le-mul_right more (one_waits units least.feasible) in
          omega (arith, is, dear, few, one-mul more)
      go (suc n) some =
          let one = one_waits units least.feasible in
          let few : waiting units * more ≤ waiting others * more = mul-le-mul_right more (omega (arith, one, some)) in
          omega (arith, least.least others ok, few)

-- what holds of each machine that is listed, by the first
module _ (k : Table) (net : Net) (least t r more : ℕ) where
  abbrev IsSoDear : ℕ → Type 0
  IsSoDear m = IsDearer net least t m more

  IsBeyond : Choice → Type 0
  IsBeyond e = more ≤ e.dearer

  first_least : (es : List Choice) → IsNonDecreasingBy (λ e. e.dearer) es → IfSome (slice_get es 0) (λ e. more ≤ e.dearer) → (i : ℕ) (d : Choice) → i < length es → more ≤ (get_or es i d).dearer
  first_least [] rises first i d lt = absurd (omega arith)
  first_least (e ∷ es) rises first i d lt = omega (arith, first, rises 0 i d (omega arith) lt)

  each_dear : (es : List Choice) → All (IsChoice net least t r) es → ((i : ℕ) (d : Choice) → i < length es → more ≤ (get_or es i d).dearer) → All (λ e. IsSoDear e.machine) es
  each_dear es choices beyond i d lt = λ others ok runs. omega (arith, (choices i d lt).dearer others ok runs, beyond i d lt)

  at_member : (P : ℕ → Type 0) (m : ℕ) (ms : List ℕ) → All P ms → IsMember m ms → P m
  at_member P m [] all is = absurd is
  at_member P m (n ∷ ms) all is = elim is [
    | inl same ↦ subst P same (All-head P n ms all)
    | inr later ↦ at_member P m ms (All-tail P n ms all) later
  ]

  is_roomy : (m : ℕ) → has_room k m r ≡ true → IsMember m (roomy k r)
  is_roomy m room =
      let spare = passes_some (λ s. nat_le r s) (spare_of k m) room in
      let state = came_from (λ (s : MachineReg). when (nat_le (load_of k m) s.nic) (s.nic - load_of k m)) (open_state k m) spare.0 spare.1 in
      let entry = open_entry k m state.0 state.1 in
      let key = member_mapped (λ (e : ℕ × MachineValue). e.0) (m, entry.0) k.machines (entry_member nat_cmp nat_same m entry.0 k.machines entry.1) in
      member_passing (λ m. has_room k m r) m (keys_of k.machines) key room

  pub each_roomy : (es : List Choice) → All (IsChoice net least t r) es → IsPermutation (roomy k r) (map (λ e. e.machine) es) → IsNonDecreasingBy (λ e. e.dearer) es
      → IfSome (slice_get es 0) (λ e. more ≤ e.dearer) → (m : ℕ) → has_room k m r ≡ true → IsDearer net least t m more
  each_roomy es choices all rises first m room =
      let dear = each_dear es choices (first_least es rises first) in
      let named = All-map IsSoDear (λ (e : Choice). e.machine) es dear in
      let every = All-permutation IsSoDear (map (λ e. e.machine) es) (roomy k r) (IsPermutation-sym _ _ all) named in
      at_member IsSoDear m (roomy k r) every (is_roomy m room)

-- from the price to what the first costs more
pub first_within : (wait more : ℕ) (o : Option Choice) → IfSome (option_map (λ e. wait + e.dearer) o) (λ price. wait + more ≤ price) → IfSome o (λ e. more ≤ e.dearer)
first_within wait more None h = tt
first_within wait more (Some e) h = omega arith

pub fits_all : (net : Net) (least t r : ℕ) (es : List Choice) → All (IsChoice net least t r) es → All (λ e. e.dearer < 2 ^ 111) es
fits_all any least t r es h i d lt = (h i d lt).fits
