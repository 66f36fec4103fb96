-- The nodes and arcs that follow from what a table tells of single nodes are those of the table's network.
use Rattle.std.proofs.Common.{◌≡◌, ◌∙◌, ℕ, ◌+◌, ◌-◌, Bool, true, false, cond, List, [], ◌∷◌, None, refl, sym, ap, arith}
use Rattle.std.specs.Prelude.{◌||◌, option_map, count_by, nat_lt}
use Rattle.std.specs.List.{list_any}
use Rattle.std.proofs.lemmas.Bool.{lt-ltb}
use Rattle.std.proofs.lemmas.List.Sums.{sum_by-cons}
use Rattle.std.specs.Ordering.{nat_cmp}
use Rattle.fm_lattice.specs.Maps.{lookup}
use Rattle.fm_records.specs.Options.{when, and_then}
use Rattle.fm_records.specs.Table.{Table, TaskValue}
use Rattle.fm_records.specs.Facts.{live_spec, holds}
use Rattle.fm_net.specs.declared.node.Node.{Node}
use Rattle.fm_net.specs.declared.node.Node.TheVariants.{Sink, Unscheduled, Request, Machine, Task}
use Rattle.fm_net.specs.Network.{is_node, is_held, is_live_of, live_tasks, arc_of}
use Rattle.fm_policy.specs.NodeFacts.{facts_of, node_of, is_there, arc_between}
use Rattle.fm_policy.proofs.RoomLaws.{room_fits}

none_more : (n : ℕ) → 0 + n ≡ n
none_more n = omega arith

some_counted : {X : Type 0} (p : X → Bool) (xs : List X) → nat_lt 0 (count_by p xs) ≡ list_any p xs
some_counted p [] = refl
some_counted p (x ∷ xs) =
    let split : count_by p (x ∷ xs) ≡ cond (p x) 1 0 + count_by p xs = sum_by-cons (λ y. cond (p y) 1 0) x xs in
    ap (nat_lt 0) split ∙ elim (p x) as (λ b. nat_lt 0 (cond b 1 0 + count_by p xs) ≡ (b || list_any p xs)) [ true ↦ lt-ltb 0 (1 + count_by p xs) (omega arith) | false ↦ ap (nat_lt 0) (none_more (count_by p xs)) ∙ some_counted p xs ]

module _ (k : Table) where
  pub node_is : (n : Node) → node_of (facts_of k n) ≡ n
  node_is Sink = refl
  node_is (Unscheduled j) = refl
  node_is (Request r) = refl
  node_is (Machine m) = refl
  node_is (Task t) = refl

  has_live : (j : ℕ) → nat_lt 0 (live_tasks k j) ≡ is_node k (Unscheduled j)
  has_live j = some_counted (λ (e : ℕ × TaskValue). is_live_of k j e.0) k.tasks

  -- the network has the nodes that are there by what is known of them
  pub there_is : (n : Node) → is_there (facts_of k n) ≡ is_node k n
  there_is Sink = refl
  there_is (Unscheduled j) = has_live j
  there_is (Request r) = refl
  there_is (Machine m) = refl
  there_is (Task t) = refl

  -- and the arcs
  pub arc_is : (a b : Node) → arc_between (facts_of k a) (facts_of k b) ≡ arc_of k a b
  arc_is (Task t) (Request r) = refl
  arc_is (Request r) (Machine m) = λ i. cond (is_node k (Request r)) (sym (room_fits k r m) i) None
  arc_is (Task t) (Machine m) = λ i. cond (is_held k t) (when (holds k m t) (1, 0)) (and_then (λ s. and_then (λ credit. option_map (λ a. (1, a.1 - credit)) (sym (room_fits k s.request m) i)) (lookup nat_cmp m s.prefer)) (live_spec k t))
  arc_is (Task t) (Unscheduled j) = refl
  arc_is (Machine m) Sink = refl
  arc_is (Unscheduled j) Sink = λ i. when (has_live j i) (live_tasks k j, 0)
  arc_is _ _ = refl
