-- The network of the table of a set is the network of the set.
use Rattle.std.specs.Prelude.{◌≡◌, ◌↔◌, ℕ, ◌+◌, ◌-◌, true, false, cond, not, ◌==◌, ◌&&◌, List, Option, Some, None, option_map, is_some, count_by, nat_le, refl}
use Rattle.std.specs.List.{list_any}
use Rattle.std.specs.Ordering.{nat_cmp}
use Rattle.std.proofs.Common.{sym, ap, ◌∙◌}
use Rattle.fm_lattice.specs.Maps.{lookup}
use Rattle.fm_records.specs.declared.ops.Op.{Op}
use Rattle.fm_records.specs.declared.records.SpecReg.{SpecReg}
use Rattle.fm_records.specs.Options.{when, and_then, passes}
use Rattle.fm_records.specs.Know.{task, table_of}
use Rattle.fm_records.specs.SetFacts.{holder, tasks}
use Rattle.fm_records.proofs.LookupLaws.{lookup_job}
use Rattle.fm_records.proofs.SetFactLaws.{any_rows, count_rows, live_is, is_live_is, opened_is, is_open_is, holder_is, held_by_is, not_live, load_is, spare_is}
use Rattle.fm_net.specs.declared.node.Node.{Node}
use Rattle.fm_net.specs.declared.node.Node.TheVariants.{Sink, Unscheduled, Request, Machine, Task}
use Rattle.fm_net.specs.Net.{Net}
use Rattle.fm_net.specs.Network.{is_held, is_live_of, waits_for, some_task, live_tasks, is_node, capacity_for, room_arc, arc_of, IsNetworkOf, net_of}
use Rattle.fm_net.proofs.NetworkLaws.{network_is}
use Rattle.fm_net.specs.SetNetwork.{has_holder, live_of, waiting, is_node_in, room_in, arc_in, IsNetworkOfSet}

is_there : {A : Type 0} (o : Option A) → passes (λ a. true) o ≡ is_some o
is_there None = refl
is_there (Some a) = refl

module _ (S : List Op) where
  held_is : (t : ℕ) → is_held (table_of S) t ≡ has_holder S t
  held_is t = ap (passes (λ m. true)) (holder_is S t) ∙ is_there (holder S t)

  live_of_is : (j t : ℕ) → is_live_of (table_of S) j t ≡ live_of S j t
  live_of_is j t = ap (passes (λ s. s.job == j)) (live_is S t)

  waiting_is : (r t : ℕ) → waits_for (table_of S) r t ≡ waiting S r t
  waiting_is r t = λ i. passes (λ s. s.request == r) (live_is S t i) && not (held_is t i)

  no_job : (j t : ℕ) → task S t ≡ None → live_of S j t ≡ false
  no_job j t e = ap (passes (λ s. s.job == j)) (not_live S t e)

  no_request : (r t : ℕ) → task S t ≡ None → waiting S r t ≡ false
  no_request r t e = ap (λ (o : Option SpecReg). passes (λ s. s.request == r) o && not (has_holder S t)) (not_live S t e)

  some_live : (j : ℕ) → some_task (is_live_of (table_of S) j) (table_of S) ≡ list_any (live_of S j) (tasks S)
  some_live j = (λ i. some_task (λ t. live_of_is j t i) (table_of S)) ∙ any_rows (task S) (live_of S j) (no_job j) (tasks S)

  some_waiting : (r : ℕ) → some_task (waits_for (table_of S) r) (table_of S) ≡ list_any (waiting S r) (tasks S)
  some_waiting r = (λ i. some_task (λ t. waiting_is r t i) (table_of S)) ∙ any_rows (task S) (waiting S r) (no_request r) (tasks S)

  live_count : (j : ℕ) → live_tasks (table_of S) j ≡ count_by (live_of S j) (tasks S)
  live_count j = (λ i. count_by (λ e. live_of_is j e.0 i) (table_of S).tasks) ∙ count_rows (task S) (live_of S j) (no_job j) 0 (tasks S)

  pub node_is : (n : Node) → is_node (table_of S) n ≡ is_node_in S n
  node_is Sink = refl
  node_is (Unscheduled j) = some_live j
  node_is (Request r) = some_waiting r
  node_is (Machine m) = is_open_is S m
  node_is (Task t) = is_live_is S t

  room_is : (r m : ℕ) → room_arc (table_of S) r m ≡ room_in S r m
  room_is r m = λ i. and_then (λ state. and_then (λ free. when (nat_le r free) (capacity_for state free r, r + load_is S m i)) (spare_is S m i)) (opened_is S m i)

  pub arc_is : (from to : Node) → arc_of (table_of S) from to ≡ arc_in S from to
  arc_is (Task t) (Request r) = ap (λ b. when b (1, 0)) (waiting_is r t)
  arc_is (Request r) (Machine m) = λ i. cond (some_waiting r i) (room_is r m i) None
  arc_is (Task t) (Machine m) = λ i. cond (held_is t i) (when (held_by_is S m t i) (1, 0)) (and_then (λ s. and_then (λ credit. option_map (λ a. (1, a.1 - credit)) (room_is s.request m i)) (lookup nat_cmp m s.prefer)) (live_is S t i))
  arc_is (Task t) (Unscheduled j) = λ i. cond (live_of_is j t i) (option_map (λ r. (1, cond (held_is t i) r.preempt r.wait)) (lookup_job S j i)) None
  arc_is (Machine m) Sink = ap (option_map (λ state. (state.slots, 0))) (opened_is S m)
  arc_is (Unscheduled j) Sink = λ i. when (some_live j i) (live_count j i, 0)
  arc_is _ _ = refl

  pub set_network_is : (net : Net) → IsNetworkOfSet S net ↔ (net ≡ net_of (table_of S))
  set_network_is net = (
    λ p. (network_is (table_of S) net).0 (record {
      nodes_rise = p.nodes_rise;
      arcs_rise = p.arcs_rise;
      each_node = λ n. p.each_node n ∙ sym (node_is n);
      each_arc = λ a b. p.each_arc a b ∙ sym (arc_is a b);
    }),
    λ e.
        let p : IsNetworkOf (table_of S) net = (network_is (table_of S) net).1 e in
        record {
          nodes_rise = p.nodes_rise;
          arcs_rise = p.arcs_rise;
          each_node = λ n. p.each_node n ∙ node_is n;
          each_arc = λ a b. p.each_arc a b ∙ arc_is a b;
        },
  )
