-- The ways of the live tasks, within rooms and slots, are a flow of the network.
use Rattle.std.proofs.Common.{◌≡◌, ◌∙◌, ap, sym, subst, refl, ℕ, ◌+◌, ◌≤◌, Bool, true, false, cond, ◌==◌, ◌&&◌, List, [], ◌∷◌, Some, None, count_by, eq-eqb, eqb-true, arith}
use Rattle.std.specs.Prelude.{flat_map}
use Rattle.std.specs.List.{sum_by}
use Rattle.std.specs.Ordering.{nat_cmp}
use Rattle.std.specs.Cmp.{nat_cmp_total}
use Rattle.std.proofs.lemmas.List.Sums.{sum_by-cons}
use Rattle.fm_lattice.specs.laws.ChainLaws.{nat_same}
use Rattle.fm_records.specs.declared.records.SpecReg.{SpecReg}
use Rattle.fm_records.proofs.RangeLaws.{when_value}
use Rattle.fm_records.specs.Ranges.{CanBe}
use Rattle.fm_records.specs.Sets.{IsMember}
use Rattle.fm_records.specs.Table.{Table, TaskValue}
use Rattle.fm_records.specs.Facts.{live_spec, is_live, open_state}
use Rattle.fm_net.specs.declared.node.Node.{Node}
use Rattle.fm_net.specs.declared.node.Node.TheVariants.{Sink, Unscheduled, Request, Machine, Task}
use Rattle.fm_net.proofs.ListLaws.{entry_member}
use Rattle.fm_net.specs.Net.{CanBeNet}
use Rattle.fm_net.specs.Network.{is_live_of, live_tasks, is_node, arc_of, net_of}
use Rattle.fm_net.proofs.NetworkLaws.{passes_some, mapped_from, where_true, live_entry, ends_of, is_network_of}
use Rattle.fm_net.specs.NetworkEquality.{same_node, same_ends}
use Rattle.fm_certificate.specs.Flows.{leaving, IsFeasible}
use Rattle.fm_certificate.proofs.Sums.{sum_same}
use Rattle.fm_paths.specs.TaskPaths.{Way, ToJob, ByRequest, Straight, path_arcs_of, path_arcs, crossings, units_of, ways_of, MayGo, goes_by, takes_slot, Fit}
use Rattle.fm_paths.proofs.Single.{single, sum_flat}
use Rattle.fm_paths.proofs.Crossed.{leaving_is}
use Rattle.fm_paths.proofs.Kept.{out, kept}
use Rattle.fm_paths.proofs.Stands.{sum_ways, ways_stand}

no_some : {A P : Type 0} {a : A} → None ≡ Some a → P
no_some e = absurd (let no : ⊥ = cc in no)

sum_le : {X : Type 0} (f g : X → ℕ) (xs : List X) → ((x : X) → f x ≤ g x) → sum_by f xs ≤ sum_by g xs
sum_le f g [] each = omega arith
sum_le f g (x ∷ xs) each = omega (arith, sum_le f g xs each, each x, sum_by-cons f x xs, sum_by-cons g x xs)

-- what one way has at an arc

once_from : (t u : ℕ) (w : Way) → sum_by (out (Task t)) (path_arcs_of u w) ≡ cond (same_node (Task u) (Task t)) 1 0
once_from t u (ToJob j) = omega arith
once_from t u (ByRequest r m) = omega arith
once_from t u (Straight m) = omega arith

over_room : (r m u : ℕ) (w : Way) → crossings (path_arcs_of u w) (Request r, Machine m) ≡ cond (goes_by r m (u, w)) 1 0
over_room r m u (ToJob j) = omega arith
over_room r m u (ByRequest q p) = omega arith
over_room r m u (Straight p) = omega arith

over_slots : (m u : ℕ) (w : Way) → crossings (path_arcs_of u w) (Machine m, Sink) ≡ cond (takes_slot m (u, w)) 1 0
over_slots m u (ToJob j) = omega arith
over_slots m u (ByRequest q p) = elim (p == m) as (λ b. 0 + cond (b && true) 1 0 ≡ cond b 1 0) [ true ↦ refl | false ↦ refl ]
over_slots m u (Straight p) = elim (p == m) as (λ b. 0 + cond (b && true) 1 0 ≡ cond b 1 0) [ true ↦ refl | false ↦ refl ]

-- to a job and on
abbrev is_left : ℕ → Way → Bool
is_left j (ToJob i) = i == j
is_left j (ByRequest q p) = false
is_left j (Straight p) = false

over_job : (j u : ℕ) (w : Way) → crossings (path_arcs_of u w) (Unscheduled j, Sink) ≡ cond (is_left j w) 1 0
over_job j u (ToJob i) = elim (i == j) as (λ b. 0 + cond (b && true) 1 0 ≡ cond b 1 0) [ true ↦ refl | false ↦ refl ]
over_job j u (ByRequest q p) = omega arith
over_job j u (Straight p) = omega arith

from_end : (t : ℕ) (to : Node) (s : Node × Node) → cond {A = ℕ} (same_ends s (Task t, to)) 1 0 ≤ out (Task t) s
from_end t to s = elim (same_node s.0 (Task t)) as (λ b. cond {A = ℕ} (b && same_node s.1 to) 1 0 ≤ cond b 1 0) [
  | true ↦ elim (same_node s.1 to) as (λ b. cond {A = ℕ} b 1 0 ≤ 1) [ true ↦ omega arith | false ↦ omega arith ]
  | false ↦ omega arith
]

module _ (k : Table) (way : ℕ → Way) (can_be : CanBe k) (can : CanBeNet (net_of k)) (fit : Fit k way) where
  abbrev ways : List (ℕ × Way)
  ways = ways_of k way

  -- one way from each live task
  one_way : (t : ℕ) → is_live k t ≡ true → sum_by (out (Task t)) (flat_map path_arcs ways) ≡ 1
  one_way t live =
      let s = passes_some (λ (s : SpecReg). true) (live_spec k t) live in
      let e = live_entry k t s.0 s.1 in
      let here : ℕ × TaskValue = (t, e.0) in
      let f : ℕ × TaskValue → ℕ = λ x. cond (is_live k x.0) (cond (same_node (Task x.0) (Task t)) 1 0) 0 in
      let other = λ (b : ℕ × TaskValue) (m : IsMember b k.tasks) (h : b.0 ≡ t → ⊥).
      elim (b.0 == t) as (λ c. (b.0 == t) ≡ c → cond (is_live k b.0) (cond {A = ℕ} c 1 0) 0 ≡ 0) [
        | true ↦ λ is. absurd (h (eqb-true b.0 t is))
        | false ↦ λ _. elim (is_live k b.0) as (λ c. cond {A = ℕ} c 0 0 ≡ 0) [ true ↦ refl | false ↦ refl ]
      ] refl in
      let at_t : f here ≡ 1 = ap (λ b. cond b (cond (t == t) 1 0) 0) live ∙ ap (λ b. cond {A = ℕ} b 1 0) (eq-eqb t t refl) in
      sum_flat (out (Task t)) path_arcs ways
      ∙ sum_same (λ w. sum_by (out (Task t)) (path_arcs w)) (λ w. cond (same_node (Task w.0) (Task t)) 1 0) ways (λ w _. once_from t w.0 w.1)
      ∙ sum_ways k way (λ w. cond (same_node (Task w.0) (Task t)) 1 0)
      ∙ single nat_cmp nat_cmp_total f k.tasks here can_be.table.tasks.rising (entry_member nat_cmp nat_same t e.0 k.tasks e.1) other
      ∙ at_t

  sends : (t : ℕ) → is_live k t ≡ true → leaving (net_of k) (units_of ways) (Task t) ≡ 1
  sends t live = leaving_is (net_of k) can.arcs_rise (flat_map path_arcs ways) (ways_stand k way fit.may) (Task t) ∙ one_way t live

  from_task : (t : ℕ) (to : Node) → is_live k t ≡ true → units_of ways (Task t) to ≤ 1
  from_task t to live =
      let most = sum_le (λ s. cond (same_ends s (Task t, to)) 1 0) (out (Task t)) (flat_map path_arcs ways) (from_end t to) in
      omega (arith, one_way t live)

  counted : (e : Node × Node) (p : ℕ × Way → Bool) → ((u : ℕ) (w : Way) → crossings (path_arcs_of u w) e ≡ cond (p (u, w)) 1 0) → crossings (flat_map path_arcs ways) e ≡ count_by p ways
  counted e p each = sum_flat (λ s. cond (same_ends s e) 1 0) path_arcs ways ∙ sum_same (λ w. crossings (path_arcs w) e) (λ w. cond (p w) 1 0) ways (λ w _. each w.0 w.1)

  -- the tasks that are left at a job are live tasks of it
  left_there : (j t : ℕ) (w : Way) → MayGo k t w → cond {A = ℕ} (is_left j w) 1 0 ≤ cond (is_live_of k j t) 1 0
  left_there j t (ToJob i) may = elim (i == j) as (λ b. (i == j) ≡ b → cond {A = ℕ} b 1 0 ≤ cond (is_live_of k j t) 1 0) [
    | true ↦ λ is. let own : is_live_of k j t ≡ true = subst (λ x. is_live_of k x t ≡ true) (eqb-true i j is) may in rw own (omega arith)
    | false ↦ λ _. omega arith
  ] refl
  left_there j t (ByRequest q p) may = omega arith
  left_there j t (Straight p) may = omega arith

  left_one : (j t : ℕ) → cond (is_live k t) (cond {A = ℕ} (is_left j (way t)) 1 0) 0 ≤ cond (is_live_of k j t) 1 0
  left_one j t = elim (is_live k t) as (λ b. is_live k t ≡ b → cond b (cond {A = ℕ} (is_left j (way t)) 1 0) 0 ≤ cond (is_live_of k j t) 1 0) [
    | true ↦ λ live. left_there j t (way t) (fit.may t live)
    | false ↦ λ _. omega arith
  ] refl

  from_job : (j : ℕ) → units_of ways (Unscheduled j) Sink ≤ live_tasks k j
  from_job j =
      let all = counted (Unscheduled j, Sink) (λ w. is_left j w.1) (over_job j) ∙ sum_ways k way (λ w. cond (is_left j w.1) 1 0) in
      let most = sum_le (λ (e : ℕ × TaskValue). cond (is_live k e.0) (cond (is_left j (way e.0)) 1 0) 0) (λ e. cond (is_live_of k j e.0) 1 0) k.tasks (λ e. left_one j e.0) in
      omega arith

  pub counted_room : (r m : ℕ) → units_of ways (Request r) (Machine m) ≡ count_by (goes_by r m) ways
  counted_room r m = counted (Request r, Machine m) (goes_by r m) (over_room r m)

  pub counted_slots : (m : ℕ) → units_of ways (Machine m) Sink ≡ count_by (takes_slot m) ways
  counted_slots m = counted (Machine m, Sink) (takes_slot m) (over_slots m)

  within_of : (from to : Node) (v : ℕ × ℕ) → arc_of k from to ≡ Some v → 1 ≤ v.0 → units_of ways from to ≤ v.0
  within_of (Task t) to v arc above = omega (arith, from_task t to (ends_of k (Task t) to v arc).from)
  within_of (Request r) (Machine m) v arc above =
      let room = (where_true (is_node k (Request r)) _ v arc).1 in
      omega (arith, counted_room r m, fit.room r m v room)
  within_of (Machine m) Sink v arc above =
      let state = mapped_from _ (open_state k m) v arc in
      let is : state.0.slots ≡ v.0 = ap (λ (w : ℕ × ℕ). w.0) state.2 in
      omega (arith, counted_slots m, fit.slots m state.0 state.1)
  within_of (Unscheduled j) Sink v arc above =
      let is = ap (λ (w : ℕ × ℕ). w.0) (when_value (is_node k (Unscheduled j)) (live_tasks k j, 0) v arc) in
      omega (arith, from_job j)
  within_of _ _ v arc above = no_some arc

  pub feasible : IsFeasible (net_of k) (units_of ways)
  feasible = record {
    within = λ from to v at. within_of from to v (sym ((is_network_of k).each_arc from to) ∙ at) (can.are_arcs from to v at).capacity_above;
    sent = λ t stands. sends t (sym ((is_network_of k).each_node (Task t)) ∙ stands);
    kept = λ n _ between. kept (net_of k) ways can.arcs_rise (ways_stand k way fit.may) n between;
  }
