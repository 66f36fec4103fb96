-- In the network of a table all tasks can be left unscheduled: each has one arc to a job, and the job's arc room for
-- all of its tasks.
use Rattle.std.proofs.Common.{◌≡◌, ◌∙◌, ap, sym, subst, refl, inl, inr, ℕ, zero, suc, ◌+◌, ◌<◌, ◌≤◌, Bool, true, false, cond, not, ◌==◌, ◌&&◌, List, [], ◌∷◌, Option, Some, None, option_map, IsTrue, length, count_by, eq-eqb, eqb-true, arith}
use Rattle.std.specs.List.{sum_by}
use Rattle.std.specs.Ordering.{nat_cmp}
use Rattle.std.specs.declared.cmp.Ordering.TheVariants.{Less, Equal}
use Rattle.std.proofs.lemmas.Cmp.{tied_itself}
use Rattle.std.proofs.lemmas.List.Sums.{sum_by-cons}
use Rattle.fm_lattice.specs.laws.ChainLaws.{nat_same}
use Rattle.fm_lattice.specs.Maps.{lookup, IsBelow, IsRising}
use Rattle.fm_records.specs.declared.records.SpecReg.{SpecReg}
use Rattle.fm_records.specs.declared.records.JobReg.{JobReg}
use Rattle.fm_records.proofs.LookupLaws.{both_true}
use Rattle.fm_records.proofs.RangeLaws.{when_value}
use Rattle.fm_records.specs.Sets.{IsMember}
use Rattle.fm_records.specs.Table.{Table, TaskValue}
use Rattle.fm_records.specs.Facts.{job_of, spec_of, live_spec, is_live}
use Rattle.fm_net.specs.declared.node.Node.{Node}
use Rattle.fm_net.specs.declared.node.Node.TheVariants.{Sink, Unscheduled, Request, Machine, Task}
use Rattle.fm_net.specs.Nodes.{ends_cmp}
use Rattle.fm_net.specs.laws.NodeOrder.{ends_exact, ends_total}
use Rattle.fm_net.proofs.ListLaws.{entry_member}
use Rattle.fm_net.specs.Net.{Net, CanBeNet, has_node, arc_at}
use Rattle.fm_net.specs.Network.{is_live_of, is_held, live_tasks, is_node, arc_of, IsNetworkOf}
use Rattle.fm_net.proofs.NetworkLaws.{passes_some, only_if_some, where_true, live_entry}
use Rattle.fm_net.specs.NetworkEquality.{same_node}
use Rattle.fm_net.specs.laws.NetworkEqualityLaws.{node_Decides}
use Rattle.fm_certificate.specs.Totals.{source, target}
use Rattle.fm_certificate.proofs.Alike.{same_itself}
use Rattle.fm_certificate.proofs.Least.{arc_member}
use Rattle.fm_certificate.proofs.Sums.{sum_same, sum_none}
use Rattle.fm_indexed.specs.Numbered.{NetArc}
use Rattle.fm_indexed.proofs.Formed.{is_arc_there}

no_some : {A P : Type 0} {a : A} → None ≡ Some a → P
no_some e = absurd (let no : ⊥ = cc in no)

false_true : {P : Type 0} → false ≡ true → P
false_true e = absurd (let no : ⊥ = cc in no)

-- Sums over arcs of which one counts, or two sums more than one.

below_member : (k : Node × Node) (b : NetArc) (arcs : List NetArc) → IsBelow ends_cmp k arcs → IsMember b arcs → k ≡ b.0 → ⊥
below_member k b [] below m is = absurd m
below_member k b (c ∷ arcs) below m is = elim m [
  | inl e ↦
      let same : c.0 ≡ b.0 = ap (λ (d : NetArc). d.0) e in
      let tied : ends_cmp k c.0 ≡ Equal = ap (ends_cmp k) (same ∙ sym is) ∙ tied_itself ends_total k in
      let no : Less ≡ Equal = sym below.0 ∙ tied in absurd (cc)
  | inr later ↦ below_member k b arcs below.1 later is
]

single : (f : NetArc → ℕ) (arcs : List NetArc) (a : NetArc) → IsRising ends_cmp arcs → IsMember a arcs → ((b : NetArc) → IsMember b arcs → (b.0 ≡ a.0 → ⊥) → f b ≡ 0) → sum_by f arcs ≡ f a
single f [] a rises m none = absurd m
single f (b ∷ arcs) a rises m none = elim m [
  | inl is ↦
      let rest = sum_none f arcs (λ c l. none c (inr l) (λ e. below_member b.0 c arcs rises.0 l (ap (λ (d : NetArc). d.0) is ∙ sym e))) in
      let same = ap f is in
      omega (arith, sum_by-cons f b arcs)
  | inr later ↦
      let first = none b (inl refl) (λ e. below_member b.0 a arcs rises.0 later e) in
      let rest = single f arcs a rises.1 later (λ c l. none c (inr l)) in
      omega (arith, sum_by-cons f b arcs)
]

sum_le : (f g h : NetArc → ℕ) (arcs : List NetArc) → ((b : NetArc) → f b ≤ g b + h b) → sum_by f arcs ≤ sum_by g arcs + sum_by h arcs
sum_le f g h [] each = omega arith
sum_le f g h (b ∷ arcs) each =
    let rest = sum_le f g h arcs each in
    let first = each b in
    omega (arith, sum_by-cons f b arcs, sum_by-cons g b arcs, sum_by-cons h b arcs)

-- the units on an arc to a node, if so many enter its source
abbrev pub named_by : Node → ℕ → ℕ
named_by Sink entered = entered
named_by (Unscheduled j) entered = 1
named_by (Request r) entered = 0
named_by (Machine m) entered = 0
named_by (Task t) entered = 0

abbrev pub waits : NetArc → ℕ
waits b = named_by b.0.1 0

-- if an arc's end is a node, what it counts is what it counts for that node
counted : (end n : Node) (f : Node → ℕ) (x : ℕ) → (end ≡ n → f end ≡ x) → cond (same_node end n) (f end) 0 ≡ cond (same_node end n) x 0
counted end n f x is = elim (same_node end n) as (λ s. same_node end n ≡ s → cond s (f end) 0 ≡ cond s x 0) [ true ↦ λ e. is ((node_Decides end n).0 e) | false ↦ λ _. refl ] refl

nothing : (s : Bool) (x : ℕ) → (s ≡ true → x ≡ 0) → cond s x 0 ≡ 0
nothing s x none = elim s as (λ t. s ≡ t → cond t x 0 ≡ 0) [ true ↦ λ e. none e | false ↦ λ _. refl ] refl

module _ (k : Table) (net : Net) (can : CanBeNet net) (of : IsNetworkOf k net) where
  -- the units that the arcs have at a node, by one of their ends
  abbrev pub units_by : (Node × Node → Node) → (NetArc → ℕ) → Node → ℕ
  units_by end units n = sum_by (λ (b : NetArc). cond (same_node (end b.0) n) (units b) 0) net.arcs

  -- all tasks unscheduled
  abbrev pub units_of : NetArc → ℕ
  units_of b = named_by b.0.1 (units_by target waits b.0.0)

  arc_there : (b : NetArc) → IsMember b net.arcs → arc_of k b.0.0 b.0.1 ≡ Some b.1
  arc_there b m = sym (of.each_arc b.0.0 b.0.1) ∙ arc_member net can b m

  stands : (from to : Node) (v : ℕ × ℕ) → arc_of k from to ≡ Some v → IsMember ((from, to), v) net.arcs
  stands from to v e = entry_member ends_cmp ends_exact (from, to) v net.arcs (of.each_arc from to ∙ e)

  same_ends : (b : NetArc) (from to : Node) → b.0.0 ≡ from → b.0.1 ≡ to → b.0 ≡ (from, to)
  same_ends b from to e f = λ i. (e i, f i)

  -- A live task has one arc to a job.

  live_job : (t : ℕ) (s : SpecReg) → live_spec k t ≡ Some s → (r : JobReg) × (job_of k s.job ≡ Some r)
  live_job t s e =
      let h = (only_if_some _ (spec_of k t) s e).1 in
      let stand = (both_true _ _ (both_true _ _ h).0).1 in
      let r = passes_some (λ r. not r.withdrawn) (job_of k s.job) stand in
      (r.0, r.1)

  live_of : (t : ℕ) (s : SpecReg) → live_spec k t ≡ Some s → is_live_of k s.job t ≡ true
  live_of t s e = rw e (eq-eqb s.job s.job refl)

  job_arc : (t : ℕ) (s : SpecReg) → live_spec k t ≡ Some s → (v : ℕ × ℕ) × (arc_of k (Task t) (Unscheduled s.job) ≡ Some v)
  job_arc t s e =
      let r = live_job t s e in
      let v : ℕ × ℕ = (1, cond (is_held k t) r.0.preempt r.0.wait) in
      (v, ap (λ b. cond b (option_map (λ job. (1, cond (is_held k t) job.preempt job.wait)) (job_of k s.job)) None) (live_of t s e) ∙ ap (option_map (λ job. (1, cond (is_held k t) job.preempt job.wait))) r.1)

  other_job : (t j : ℕ) (s : SpecReg) (v : ℕ × ℕ) → live_spec k t ≡ Some s → arc_of k (Task t) (Unscheduled j) ≡ Some v → s.job ≡ j
  other_job t j s v e arc =
      let is = (where_true (is_live_of k j t) _ v arc).0 in
      let p = passes_some (λ (x : SpecReg). x.job == j) (live_spec k t) is in
      let both : Some p.0 ≡ Some s = sym p.1 ∙ e in
      let same : p.0 ≡ s = cc in
      ap (λ (x : SpecReg). x.job) (sym same) ∙ eqb-true p.0.job j p.2

  task_other : (t : ℕ) (s : SpecReg) → live_spec k t ≡ Some s → (to : Node) (entered : ℕ) (v : ℕ × ℕ) → arc_of k (Task t) to ≡ Some v → (to ≡ Unscheduled s.job → ⊥) → named_by to entered ≡ 0
  task_other t s e Sink entered v arc other = no_some arc
  task_other t s e (Unscheduled j) entered v arc other = absurd (other (ap Unscheduled (sym (other_job t j s v e arc))))
  task_other t s e (Request r) entered v arc other = refl
  task_other t s e (Machine m) entered v arc other = refl
  task_other t s e (Task u) entered v arc other = refl

  pub task_sends : (t : ℕ) → IsTrue (has_node net (Task t)) → units_by source units_of (Task t) ≡ 1
  task_sends t h =
      let live = sym (of.each_node (Task t)) ∙ h in
      let s = passes_some (λ (x : SpecReg). true) (live_spec k t) live in
      let v = job_arc t s.0 s.1 in
      let a : NetArc = ((Task t, Unscheduled s.0.job), v.0) in
      single (λ (b : NetArc). cond (same_node b.0.0 (Task t)) (units_of b) 0) net.arcs a can.arcs_rise (stands (Task t) (Unscheduled s.0.job) v.0 v.1)
      (λ b m other. nothing (same_node b.0.0 (Task t)) (units_of b) (λ same.
      let from = (node_Decides b.0.0 (Task t)).0 same in
      let arc : arc_of k (Task t) b.0.1 ≡ Some b.1 = subst (λ n. arc_of k n b.0.1 ≡ Some b.1) from (arc_there b m) in
      task_other t s.0 s.1 b.0.1 (units_by target waits b.0.0) b.1 arc (λ to. other (same_ends b (Task t) (Unscheduled s.0.job) from to))))
      ∙ ap (λ t2. cond {A = ℕ} t2 1 0) (same_itself (Task t))

  -- A job sends on what enters it.

  job_target : (j : ℕ) → units_by target units_of (Unscheduled j) ≡ units_by target waits (Unscheduled j)
  job_target j = sum_same _ _ net.arcs (λ b m. counted b.0.1 (Unscheduled j) (λ n. named_by n (units_by target waits b.0.0)) (waits b) (λ is. ap (λ n. named_by n (units_by target waits b.0.0)) is ∙ ap (λ n. named_by n 0) (sym is)))

  job_other : (j : ℕ) (to : Node) (entered : ℕ) (v : ℕ × ℕ) → arc_of k (Unscheduled j) to ≡ Some v → (to ≡ Sink → ⊥) → named_by to entered ≡ 0
  job_other j Sink entered v arc other = absurd (other refl)
  job_other j (Unscheduled i) entered v arc other = no_some arc
  job_other j (Request r) entered v arc other = refl
  job_other j (Machine m) entered v arc other = refl
  job_other j (Task t) entered v arc other = refl

  job_source : (j : ℕ) → IsTrue (has_node net (Unscheduled j)) → units_by source units_of (Unscheduled j) ≡ units_by target waits (Unscheduled j)
  job_source j h =
      let node : is_node k (Unscheduled j) ≡ true = sym (of.each_node (Unscheduled j)) ∙ h in
      let v : ℕ × ℕ = (live_tasks k j, 0) in
      let arc : arc_of k (Unscheduled j) Sink ≡ Some v = rw node refl in
      let a : NetArc = ((Unscheduled j, Sink), v) in
      single (λ (b : NetArc). cond (same_node b.0.0 (Unscheduled j)) (units_of b) 0) net.arcs a can.arcs_rise (stands (Unscheduled j) Sink v arc)
      (λ b m other. nothing (same_node b.0.0 (Unscheduled j)) (units_of b) (λ same.
      let from = (node_Decides b.0.0 (Unscheduled j)).0 same in
      let there : arc_of k (Unscheduled j) b.0.1 ≡ Some b.1 = subst (λ n. arc_of k n b.0.1 ≡ Some b.1) from (arc_there b m) in
      job_other j b.0.1 (units_by target waits b.0.0) b.1 there (λ to. other (same_ends b (Unscheduled j) Sink from to))))
      ∙ ap (λ t2. cond t2 (units_by target waits (Unscheduled j)) 0) (same_itself (Unscheduled j))

  pub job_keeps : (j : ℕ) → IsTrue (has_node net (Unscheduled j)) → units_by target units_of (Unscheduled j) ≡ units_by source units_of (Unscheduled j)
  job_keeps j h = job_target j ∙ sym (job_source j h)

  -- Requests and machines have none.

  none_enter_at : (n : Node) (units : NetArc → ℕ) → ((b : NetArc) → b.0.1 ≡ n → units b ≡ 0) → units_by target units n ≡ 0
  none_enter_at n units none = sum_none _ net.arcs (λ b m. nothing (same_node b.0.1 n) (units b) (λ same. none b ((node_Decides b.0.1 n).0 same)))

  none_leave_at : (n : Node) → ((to : Node) (v : ℕ × ℕ) → arc_of k n to ≡ Some v → named_by to (units_by target waits n) ≡ 0) → units_by source units_of n ≡ 0
  none_leave_at n none =
      sum_none _ net.arcs (λ b m. nothing (same_node b.0.0 n) (units_of b) (λ same.
      let from = (node_Decides b.0.0 n).0 same in
      let there : arc_of k n b.0.1 ≡ Some b.1 = subst (λ q. arc_of k q b.0.1 ≡ Some b.1) from (arc_there b m) in
      ap (λ q. named_by b.0.1 (units_by target waits q)) from ∙ none b.0.1 b.1 there))

  request_to : (r : ℕ) (to : Node) (entered : ℕ) (v : ℕ × ℕ) → arc_of k (Request r) to ≡ Some v → named_by to entered ≡ 0
  request_to r Sink entered v arc = no_some arc
  request_to r (Unscheduled j) entered v arc = no_some arc
  request_to r (Request q) entered v arc = refl
  request_to r (Machine m) entered v arc = refl
  request_to r (Task t) entered v arc = refl

  pub request_keeps : (r : ℕ) → units_by target units_of (Request r) ≡ units_by source units_of (Request r)
  request_keeps r =
      none_enter_at (Request r) units_of (λ b to. ap (λ n. named_by n (units_by target waits b.0.0)) to)
      ∙ sym (none_leave_at (Request r) (λ to v arc. request_to r to _ v arc))

  machine_waits : (m : ℕ) → units_by target waits (Machine m) ≡ 0
  machine_waits m = none_enter_at (Machine m) waits (λ b to. ap (λ n. named_by n 0) to)

  machine_to : (m : ℕ) (to : Node) (entered : ℕ) (v : ℕ × ℕ) → entered ≡ 0 → arc_of k (Machine m) to ≡ Some v → named_by to entered ≡ 0
  machine_to m Sink entered v none arc = none
  machine_to m (Unscheduled j) entered v none arc = no_some arc
  machine_to m (Request q) entered v none arc = refl
  machine_to m (Machine q) entered v none arc = refl
  machine_to m (Task t) entered v none arc = refl

  pub machine_keeps : (m : ℕ) → units_by target units_of (Machine m) ≡ units_by source units_of (Machine m)
  machine_keeps m =
      none_enter_at (Machine m) units_of (λ b to. ap (λ n. named_by n (units_by target waits b.0.0)) to)
      ∙ sym (none_leave_at (Machine m) (λ to v arc. machine_to m to _ v (machine_waits m) arc))

  -- A job's arc has room for all of its tasks.

  module _ (j : ℕ) where
    -- arcs to the job, from nodes that pass a test
    abbrev arcs_from : (Node → Bool) → NetArc → ℕ
    arcs_from p b = cond (p b.0.0 && same_node b.0.1 (Unscheduled j)) 1 0

    abbrev arc_from : ℕ → NetArc → ℕ
    arc_from t = arcs_from (λ n. same_node n (Task t))

    none_from : (p : Node → Bool) (b : NetArc) → (p b.0.0 ≡ true → b.0.1 ≡ Unscheduled j → ⊥) → arcs_from p b ≡ 0
    none_from p b none = nothing (p b.0.0 && same_node b.0.1 (Unscheduled j)) 1 (λ h. let both = both_true (p b.0.0) (same_node b.0.1 (Unscheduled j)) h in absurd (none both.0 ((node_Decides b.0.1 (Unscheduled j)).0 both.1)))

    most_one : (p : Node → Bool) (b : NetArc) → arcs_from p b ≤ 1
    most_one p b = elim (p b.0.0 && same_node b.0.1 (Unscheduled j)) as (λ t. cond {A = ℕ} t 1 0 ≤ 1) [ true ↦ omega arith | false ↦ omega arith ]

    -- from one task there is at most one, and only if it is a live task of the job
    once : (t : ℕ) → sum_by (arc_from t) net.arcs ≤ cond (is_live_of k j t) 1 0
    once t = elim (arc_of k (Task t) (Unscheduled j)) as (λ o. arc_of k (Task t) (Unscheduled j) ≡ o → sum_by (arc_from t) net.arcs ≤ cond (is_live_of k j t) 1 0) [
      | None ↦ λ e.
          let none = sum_none (arc_from t) net.arcs (λ b m. none_from (λ n. same_node n (Task t)) b (λ same to.
          let from = (node_Decides b.0.0 (Task t)).0 same in
          no_some (sym e ∙ ap (λ n. arc_of k n (Unscheduled j)) (sym from) ∙ ap (arc_of k b.0.0) (sym to) ∙ arc_there b m))) in
          omega arith
      | Some v ↦ λ e.
          let is = (where_true (is_live_of k j t) _ v e).0 in
          let a : NetArc = ((Task t, Unscheduled j), v) in
          let all = single (arc_from t) net.arcs a can.arcs_rise (stands (Task t) (Unscheduled j) v e) (λ b m other. none_from (λ n. same_node n (Task t)) b (λ same to. other (same_ends b (Task t) (Unscheduled j) ((node_Decides b.0.0 (Task t)).0 same) to))) in
          let most = most_one (λ n. same_node n (Task t)) a in
          let one : cond {A = ℕ} (is_live_of k j t) 1 0 ≡ 1 = ap (λ b. cond {A = ℕ} b 1 0) is in
          omega arith
    ] refl

    parted : (p : Node → Bool) (t : ℕ) (b : NetArc) → arcs_from p b ≤ arcs_from (λ n. p n && not (same_node n (Task t))) b + arc_from t b
    parted p t b = elim (p b.0.0) as (λ x. cond {A = ℕ} (x && same_node b.0.1 (Unscheduled j)) 1 0 ≤ cond {A = ℕ} ((x && not (same_node b.0.0 (Task t))) && same_node b.0.1 (Unscheduled j)) 1 0 + arc_from t b) [
      | true ↦ elim (same_node b.0.0 (Task t)) as (λ y. cond {A = ℕ} (same_node b.0.1 (Unscheduled j)) 1 0 ≤ cond {A = ℕ} (not y && same_node b.0.1 (Unscheduled j)) 1 0 + cond {A = ℕ} (y && same_node b.0.1 (Unscheduled j)) 1 0) [ true ↦ omega arith | false ↦ omega arith ]
      | false ↦ omega arith
    ]

    covered : (p : Node → Bool) (tasks : List (ℕ × TaskValue)) → ((b : NetArc) → IsMember b net.arcs → p b.0.0 ≡ true → b.0.1 ≡ Unscheduled j → (e : ℕ × TaskValue) × IsMember e tasks × (b.0.0 ≡ Task e.0)) → sum_by (arcs_from p) net.arcs ≤ count_by (λ e. is_live_of k j e.0) tasks
    covered p [] each = let none = sum_none (arcs_from p) net.arcs (λ b m. none_from p b (λ h to. (each b m h to).1)) in omega arith
    covered p (e ∷ tasks) each =
        let p2 : Node → Bool = λ n. p n && not (same_node n (Task e.0)) in
        let rest = covered p2 tasks (λ b m h to.
        let both = both_true (p b.0.0) (not (same_node b.0.0 (Task e.0))) h in
        let x = each b m both.0 to in
        elim x.1 [
          | inl is ↦
              let same : same_node b.0.0 (Task e.0) ≡ true = (node_Decides b.0.0 (Task e.0)).1 (x.2 ∙ ap (λ (y : ℕ × TaskValue). Task y.0) (sym is)) in
              false_true (ap not (sym same) ∙ both.1)
          | inr later ↦ (x.0, later, x.2)
        ]) in
        let one = once e.0 in
        let split = sum_le (arcs_from p) (arcs_from p2) (arc_from e.0) net.arcs (parted p e.0) in
        omega (arith, sum_by-cons (λ (y : ℕ × TaskValue). cond (is_live_of k j y.0) 1 0) e tasks)

    -- an arc to a job comes from one of its tasks
    from_task : (from : Node) (v : ℕ × ℕ) → arc_of k from (Unscheduled j) ≡ Some v → (e : ℕ × TaskValue) × IsMember e k.tasks × (from ≡ Task e.0)
    from_task Sink v arc = no_some arc
    from_task (Unscheduled i) v arc = no_some arc
    from_task (Request r) v arc = no_some arc
    from_task (Machine m) v arc = no_some arc
    from_task (Task t) v arc =
        let is = (where_true (is_live_of k j t) _ v arc).0 in
        let s = passes_some (λ (x : SpecReg). x.job == j) (live_spec k t) is in
        let f = live_entry k t s.0 s.1 in
        ((t, f.0), entry_member nat_cmp nat_same t f.0 k.tasks f.1, refl)

    pub room : units_by target waits (Unscheduled j) ≤ live_tasks k j
    room =
        let all = covered (λ n. true) k.tasks (λ b m h to. from_task b.0.0 b.1 (ap (arc_of k b.0.0) (sym to) ∙ arc_there b m)) in
        let same = sum_same (λ (b : NetArc). cond (same_node b.0.1 (Unscheduled j)) (waits b) 0) (arcs_from (λ n. true)) net.arcs (λ b m. counted b.0.1 (Unscheduled j) (λ n. named_by n 0) 1 (λ is. ap (λ n. named_by n 0) is)) in
        omega arith

  within_to : (from to : Node) (v : ℕ × ℕ) → arc_of k from to ≡ Some v → 1 ≤ v.0 → named_by to (units_by target waits from) ≤ v.0
  within_to Sink Sink v arc some = no_some arc
  within_to (Unscheduled j) Sink v arc some = let is = ap (λ (w : ℕ × ℕ). w.0) (when_value (is_node k (Unscheduled j)) (live_tasks k j, 0) v arc) in let most = room j in omega arith
  within_to (Request r) Sink v arc some = no_some arc
  within_to (Machine m) Sink v arc some = let none = machine_waits m in omega arith
  within_to (Task t) Sink v arc some = no_some arc
  within_to from (Unscheduled j) v arc some = some
  within_to from (Request r) v arc some = omega arith
  within_to from (Machine m) v arc some = omega arith
  within_to from (Task t) v arc some = omega arith

  pub within : (b : NetArc) → IsMember b net.arcs → units_of b ≤ b.1.0
  within b m = within_to b.0.0 b.0.1 b.1 (arc_there b m) (is_arc_there net can b m).capacity_above
