-- In the flow of ways, the tasks with units to nodes that pass a test are those whose way goes first to such a node.
use Rattle.std.proofs.Common.{◌≡◌, ◌∙◌, ap, sym, subst, refl, inl, inr, ℕ, ◌<◌, Bool, true, false, cond, ◌&&◌, List, [], ◌∷◌, Option, Some, None, IsTrue, arith}
use Rattle.std.specs.Prelude.{◌==◌, flat_map, map, nat_lt}
use Rattle.std.specs.List.{filter_map}
use Rattle.std.specs.Ordering.{nat_cmp}
use Rattle.std.proofs.lemmas.Bool.{ltb-true, lt-ltb}
use Rattle.std.proofs.lemmas.List.Sums.{sum_by-cons}
use Rattle.fm_lattice.specs.laws.ChainLaws.{nat_same}
use Rattle.fm_lattice.specs.Maps.{IsRising}
use Rattle.fm_records.specs.declared.records.SpecReg.{SpecReg}
use Rattle.fm_records.proofs.LookupLaws.{both_true, when_is_true}
use Rattle.fm_records.proofs.RangeLaws.{when_value}
use Rattle.fm_records.specs.Ranges.{CanBe}
use Rattle.fm_records.specs.Options.{when}
use Rattle.fm_records.specs.Sets.{IsMember}
use Rattle.fm_records.specs.Table.{Table, TaskValue}
use Rattle.fm_records.specs.Facts.{live_spec, is_live}
use Rattle.fm_net.specs.declared.node.Node.{Node}
use Rattle.fm_net.specs.declared.node.Node.TheVariants.{Sink, Unscheduled, Request, Machine, Task}
use Rattle.fm_net.specs.Nodes.{ends_cmp}
use Rattle.fm_net.specs.laws.NodeOrder.{ends_exact}
use Rattle.fm_net.proofs.ListLaws.{entry_member, member_mapped, member_of_one}
use Rattle.fm_net.specs.Net.{CanBeNet}
use Rattle.fm_net.specs.Network.{arc_of, net_of}
use Rattle.fm_net.proofs.NetworkLaws.{passes_some, live_entry, is_network_of}
use Rattle.fm_net.specs.NetworkEquality.{same_ends}
use Rattle.fm_round.specs.PlanOfFlow.{ArcUnits, units_over, unscheduled_in, preempt_of, plan_of_flow}
use Rattle.fm_round.proofs.Over.{rising_over}
use Rattle.fm_paths.specs.TaskPaths.{Way, ToJob, ByRequest, Straight, path_arcs_of, path_arcs, crossings, units_of, ways_of, MayGo}
use Rattle.fm_paths.specs.Prices.{first_node}
use Rattle.fm_paths.specs.Plans.{is_job, goer, goers, preempts_of_ways}
use Rattle.fm_paths.proofs.Crossed.{ends_Decides}
use Rattle.fm_paths.proofs.Stands.{from_flat, from_rows, step_arc}
use Rattle.fm_paths.proofs.Cheapest.{crossed_member, task_step}
use Rattle.fm_paths.proofs.Listed.{found_from, is_found, found_same, one_list, found_rise, rows_rise}

-- the request of the number
abbrev pub is_request : ℕ → Node → Bool
is_request r (Request q) = q == r
is_request r _ = false

-- the task of an arc with units, if the arc ends at a node that passes the test
abbrev pub going : (Node → Bool) → (Node × Node) × ℕ → Option ℕ
going p ((Task t, n), u) = when (nat_lt 0 u && p n) t
going p _ = None

no_some : {A P : Type 0} {a : A} → None ≡ Some a → P
no_some e = absurd (let no : ⊥ = cc in no)

member_crossed : (e : Node × Node) (ss : List (Node × Node)) → IsMember e ss → 0 < crossings ss e
member_crossed e [] m = absurd m
member_crossed e (s ∷ ss) m =
    let parts = sum_by-cons (λ (x : Node × Node). cond (same_ends x e) 1 0) s ss in
    elim m [
      | inl is ↦ let one : cond {A = ℕ} (same_ends s e) 1 0 ≡ 1 = ap (λ b. cond {A = ℕ} b 1 0) ((ends_Decides s e).1 is) in omega arith
      | inr later ↦ omega (arith, member_crossed e ss later)
    ]

and_yes : (b : Bool) → (b && true) ≡ b
and_yes true = refl
and_yes false = refl

and_no : (b : Bool) → (b && false) ≡ false
and_no true = refl
and_no false = refl

-- a way begins at its task
first_step : (t : ℕ) (w : Way) → IsMember (Task t, first_node w) (path_arcs_of t w)
first_step t (ToJob j) = inl refl
first_step t (ByRequest r m) = inl refl
first_step t (Straight m) = inl refl

going_named : (p : Node → Bool) (e : (Node × Node) × ℕ) (t : ℕ) → going p e ≡ Some t → e.0.0 ≡ Task t
going_named p ((Task s, n), u) t is = ap Task (when_value (nat_lt 0 u && p n) s t is)
going_named p ((Sink, n), u) t is = no_some is
going_named p ((Unscheduled j, n), u) t is = no_some is
going_named p ((Request r, n), u) t is = no_some is
going_named p ((Machine m, n), u) t is = no_some is

going_true : (p : Node → Bool) (e : (Node × Node) × ℕ) (t : ℕ) → going p e ≡ Some t → (0 < e.1) × (p e.0.1 ≡ true)
going_true p ((Task s, n), u) t is = let both = both_true (nat_lt 0 u) (p n) (when_is_true (nat_lt 0 u && p n) s t is) in (ltb-true 0 u both.0, both.1)
going_true p ((Sink, n), u) t is = no_some is
going_true p ((Unscheduled j, n), u) t is = no_some is
going_true p ((Request r, n), u) t is = no_some is
going_true p ((Machine m, n), u) t is = no_some is

above : (u : ℕ) → 0 < u → nat_lt 0 u ≡ true
above u more = lt-ltb 0 u more

module _ (k : Table) (way : ℕ → Way) (can_be : CanBe k) (can : CanBeNet (net_of k)) (may : (t : ℕ) → IsTrue (is_live k t) → MayGo k t (way t)) where
  abbrev sent : Node → Node → ℕ
  sent = units_of (ways_of k way)

  abbrev f : ArcUnits
  f = units_over (net_of k) sent

  pub f_rises : IsRising ends_cmp f
  f_rises = rising_over ends_cmp (λ a. sent a.0.0 a.0.1) (net_of k).arcs can.arcs_rise

  units_in : (arcs : List ((Node × Node) × (ℕ × ℕ))) (e : (Node × Node) × ℕ) → IsMember e (map (λ a. (a.0, sent a.0.0 a.0.1)) arcs) → sent e.0.0 e.0.1 ≡ e.1
  units_in [] e m = absurd m
  units_in (a ∷ arcs) e m = elim m [ inl is ↦ subst (λ (x : (Node × Node) × ℕ). sent x.0.0 x.0.1 ≡ x.1) is refl | inr later ↦ units_in arcs e later ]

  pub units_are : (e : (Node × Node) × ℕ) → IsMember e f → sent e.0.0 e.0.1 ≡ e.1
  units_are = units_in (net_of k).arcs

  pub stands : (from to : Node) (v : ℕ × ℕ) → arc_of k from to ≡ Some v → IsMember ((from, to), sent from to) f
  stands from to v e = member_mapped (λ (a : (Node × Node) × (ℕ × ℕ)). (a.0, sent a.0.0 a.0.1)) ((from, to), v) (net_of k).arcs (entry_member ends_cmp ends_exact (from, to) v (net_of k).arcs ((is_network_of k).each_arc from to ∙ e))

  task_entry : (t : ℕ) → is_live k t ≡ true → (v : TaskValue) × IsMember (t, v) k.tasks
  task_entry t live =
      let s = passes_some (λ (s : SpecReg). true) (live_spec k t) live in
      let e = live_entry k t s.0 s.1 in
      (e.0, entry_member nat_cmp nat_same t e.0 k.tasks e.1)

  -- a task's unit is on the first arc of its way, and nowhere else

  way_there : (t : ℕ) → is_live k t ≡ true → IsMember (t, way t) (ways_of k way)
  way_there t live =
      let e = task_entry t live in
      is_found (λ (x : ℕ × TaskValue). when (is_live k x.0) (x.0, way x.0)) (t, e.0) (t, way t) k.tasks e.1 (ap (λ b. when b (t, way t)) live)

  first_sent : (t : ℕ) → is_live k t ≡ true → 0 < sent (Task t) (first_node (way t))
  first_sent t live = member_crossed (Task t, first_node (way t)) (flat_map path_arcs (ways_of k way)) (member_of_one path_arcs (t, way t) (Task t, first_node (way t)) (ways_of k way) (way_there t live) (first_step t (way t)))

  sent_first : (t : ℕ) (to : Node) → 0 < sent (Task t) to → (first_node (way t) ≡ to) × (is_live k t ≡ true)
  sent_first t to some =
      let w = from_flat path_arcs (Task t, to) (ways_of k way) (crossed_member (Task t, to) (flat_map path_arcs (ways_of k way)) some) in
      let u = from_rows k way w.0 k.tasks w.1 in
      let here : IsMember (Task t, to) (path_arcs_of u.0 (way u.0)) = subst (λ (x : ℕ × Way). IsMember (Task t, to) (path_arcs x)) (sym u.2) w.2 in
      let both = task_step t u.0 to (way u.0) here in
      (subst (λ x. first_node (way x) ≡ to) both.0 both.1, subst (λ x. is_live k x ≡ true) both.0 u.1)

  pub record Found (p : Node → Bool) (e : (Node × Node) × ℕ) (t : ℕ) : Type 0 where
    pub ends : e.0 ≡ (Task t, first_node (way t))
    pub live : is_live k t ≡ true
    pub passes : p (first_node (way t)) ≡ true

  pub found_at : (p : Node → Bool) (e : (Node × Node) × ℕ) (t : ℕ) → IsMember e f → going p e ≡ Some t → Found p e t
  found_at p e t m is =
      let named = going_named p e t is in
      let tests = going_true p e t is in
      let units : sent (Task t) e.0.1 ≡ e.1 = subst (λ n. sent n e.0.1 ≡ e.1) named (units_are e m) in
      let first = sent_first t e.0.1 (subst (λ n. 0 < n) (sym units) tests.0) in
      record {
        ends = λ i. (named i, sym first.0 i);
        live = first.1;
        passes = ap p first.0 ∙ tests.1;
      }

  pub first_arc : (t : ℕ) → is_live k t ≡ true → (v : ℕ × ℕ) × (arc_of k (Task t) (first_node (way t)) ≡ Some v)
  first_arc t live = step_arc k t (way t) (may t live) (Task t, first_node (way t)) (first_step t (way t))

  pub going_is : (p : Node → Bool) → filter_map (going p) f ≡ goers k way p
  going_is p =
      one_list (filter_map (going p) f) (goers k way p)
      (found_rise (going p) (going_named p) f f_rises (λ t a b m n x y. (found_at p a t m x).ends ∙ sym (found_at p b t n y).ends))
      (rows_rise (goer k way p) (λ e t is. when_value (is_live k e.0 && p (first_node (way e.0))) e.0 t is) k.tasks can_be.table.tasks.rising)
      (λ t m.
      let e = found_from (going p) t f m in
      let found = found_at p e.0 t e.1 e.2 in
      let v = task_entry t found.live in
      is_found (goer k way p) (t, v.0) t k.tasks v.1 ((λ i. when (found.live i && p (first_node (way t))) t) ∙ ap (λ b. when b t) found.passes))
      (λ t m.
      let e = found_from (goer k way p) t k.tasks m in
      let same = when_value (is_live k e.0.0 && p (first_node (way e.0.0))) e.0.0 t e.2 in
      let both = both_true (is_live k e.0.0) (p (first_node (way e.0.0))) (when_is_true (is_live k e.0.0 && p (first_node (way e.0.0))) e.0.0 t e.2) in
      let live : is_live k t ≡ true = subst (λ x. is_live k x ≡ true) same both.0 in
      let passes : p (first_node (way t)) ≡ true = subst (λ x. p (first_node (way x)) ≡ true) same both.1 in
      let arc = first_arc t live in
      is_found (going p) ((Task t, first_node (way t)), sent (Task t) (first_node (way t))) t f (stands (Task t) (first_node (way t)) arc.0 arc.1)
      ((λ i. when (above (sent (Task t) (first_node (way t))) (first_sent t live) i && p (first_node (way t))) t) ∙ ap (λ b. when b t) passes))

  to_job : (e : (Node × Node) × ℕ) → unscheduled_in e ≡ going is_job e
  to_job ((Task t, Unscheduled j), u) = ap (λ b. when b t) (sym (and_yes (nat_lt 0 u)))
  to_job ((Task t, Sink), u) = ap (λ b. when b t) (sym (and_no (nat_lt 0 u)))
  to_job ((Task t, Request r), u) = ap (λ b. when b t) (sym (and_no (nat_lt 0 u)))
  to_job ((Task t, Machine m), u) = ap (λ b. when b t) (sym (and_no (nat_lt 0 u)))
  to_job ((Task t, Task s), u) = ap (λ b. when b t) (sym (and_no (nat_lt 0 u)))
  to_job ((Sink, n), u) = refl
  to_job ((Unscheduled j, n), u) = refl
  to_job ((Request r, n), u) = refl
  to_job ((Machine m, n), u) = refl

  pub preempts_are : (plan_of_flow f k).preempts ≡ preempts_of_ways k way
  preempts_are = ap (filter_map (preempt_of k)) (found_same unscheduled_in (going is_job) f (λ e _. to_job e) ∙ going_is is_job)
