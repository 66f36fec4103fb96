-- What is shown of a table that is seen, with the sums over all its tasks, is what the table tells, and so its network.
use Rattle.std.proofs.Common.{◌≡◌, ◌∙◌, ℕ, ◌+◌, ◌-◌, ◌<◌, ◌≤◌, ◌^◌, Bool, true, false, cond, List, [], ◌∷◌, length, refl, sym, ap, arith}
use Rattle.std.specs.Prelude.{◌&&◌, ◌||◌, ◌==◌, not, nat_lt, filter, sum_by, min, max}
use Rattle.std.specs.List.{list_any}
use Rattle.std.proofs.lemmas.Bool.{eqb-true, eqb-false, lt-ltb}
use Rattle.std.proofs.lemmas.List.Sums.{sum_by-cons, count_by-le-length}
use Rattle.fm_records.specs.Table.{Table, TaskValue}
use Rattle.fm_records.specs.Facts.{used_of, load_of, job_of, open_state}
use Rattle.fm_net.specs.declared.node.Node.{Node}
use Rattle.fm_net.specs.declared.node.Node.TheVariants.{Sink, Unscheduled, Request, Machine, Task}
use Rattle.fm_net.specs.Network.{is_live_of, waits_for, live_tasks, is_node, arc_of}
use Rattle.fm_policy.specs.declared.node_facts.NodeFacts.TheVariants.{OfJob, OfRequest, OfMachine}
use Rattle.fm_policy.specs.NodeFacts.{facts_of, arc_between}
use Rattle.fm_policy.proofs.FactsLaws as policy
use Rattle.fm_edit.proofs.LocalLaws.{counted}
use Rattle.fm_edit.specs.CacheModel.{sight_of}
use Rattle.fm_edit.specs.TaskIndex.{counts_at, weight_at}
use Rattle.fm_edit.specs.EditorState.{sum_over, none_out}
use Rattle.fm_edit.specs.inner.CacheFacts.{facts_shown, node_shown, arc_shown}

and_yes : (b : Bool) → (b && true) ≡ b
and_yes true = refl
and_yes false = refl

one_more : (whole rest : ℕ) → whole ≡ 1 + rest → whole ≡ 0 → ⊥
one_more whole rest e z = omega arith

least : (n bound : ℕ) → n ≤ bound → bound < 2 ^ 63 → min n (2 ^ 64 - 1) ≡ n
least n bound h g = omega arith

capped : (n : ℕ) → (n ≡ 0 → ⊥) → 0 < min n (2 ^ 64 - 1)
capped n apart = omega (arith, apart)

some_sum : {X : Type 0} (p : X → Bool) (xs : List X) → not (sum_by (λ x. 1) (filter p xs) == 0) ≡ list_any p xs
some_sum p [] = refl
some_sum p (x ∷ xs) =
    let rest = some_sum p xs in
    elim (p x) as (λ b. not (sum_by (λ y. 1) (cond b (x ∷ filter p xs) (filter p xs)) == 0) ≡ (b || list_any p xs)) [
      | true ↦
          let split = sum_by-cons (λ y. 1) x (filter p xs) in
          elim (sum_by (λ y. 1) (x ∷ filter p xs) == 0) as (λ b. (sum_by (λ y. 1) (x ∷ filter p xs) == 0) ≡ b → not b ≡ true) [
            | true ↦ λ e. let zero = eqb-true (sum_by (λ y. 1) (x ∷ filter p xs)) 0 e in absurd (one_more (sum_by (λ y. 1) (x ∷ filter p xs)) (sum_by (λ y. 1) (filter p xs)) split zero)
            | false ↦ λ _. refl
          ] refl
      | false ↦ rest
    ]

-- a sum that is cut to what fits is 0 just if the sum is
some_capped : (n : ℕ) → nat_lt 0 (min n (2 ^ 64 - 1)) ≡ not (n == 0)
some_capped n = elim (n == 0) as (λ b. (n == 0) ≡ b → nat_lt 0 (min n (2 ^ 64 - 1)) ≡ not b) [
  | true ↦ λ is. ap (λ m. nat_lt 0 (min m (2 ^ 64 - 1))) (eqb-true n 0 is)
  | false ↦ λ is. let apart = eqb-false n 0 is in lt-ltb 0 (min n (2 ^ 64 - 1)) (capped n apart)
] refl

module _ (k : Table) where
  abbrev sums : Node → ℕ
  sums = sum_over none_out k

  sum_is : (n : Node) → sums n ≡ sum_by (λ e. weight_at n e.1.0) (filter (λ e. counts_at (sight_of k) n e.0) k.tasks)
  sum_is n = λ i. sum_by (λ e. weight_at n e.1.0) (filter (λ e. and_yes (counts_at (sight_of k) n e.0) i) k.tasks)

  live_is : (j : ℕ) → sums (Unscheduled j) ≡ live_tasks k j
  live_is j = sum_is (Unscheduled j) ∙ sym (counted (λ (e : ℕ × TaskValue). is_live_of k j e.0) k.tasks)

  load_is : (m : ℕ) → max (used_of k m) (sums (Machine m)) ≡ load_of k m
  load_is m = ap (λ x. max (used_of k m) x) (sum_is (Machine m))

  waits_is : (r : ℕ) → not (sums (Request r) == 0) ≡ is_node k (Request r)
  waits_is r = ap (λ x. not (x == 0)) (sum_is (Request r)) ∙ some_sum (λ (e : ℕ × TaskValue). waits_for k r e.0) k.tasks

  pub node_is : (n : Node) → node_shown (sight_of k) sums n ≡ is_node k n
  node_is Sink = refl
  node_is (Unscheduled j) = some_capped (sums (Unscheduled j)) ∙ ap (λ x. not (x == 0)) (sum_is (Unscheduled j)) ∙ some_sum (λ (e : ℕ × TaskValue). is_live_of k j e.0) k.tasks
  node_is (Request r) = waits_is r
  node_is (Machine m) = refl
  node_is (Task t) = refl

  module _ (small : length k.tasks < 2 ^ 63) where
    count_is : (j : ℕ) → min (sums (Unscheduled j)) (2 ^ 64 - 1) ≡ live_tasks k j
    count_is j =
        let bound = count_by-le-length (λ (e : ℕ × TaskValue). is_live_of k j e.0) k.tasks in
        ap (λ x. min x (2 ^ 64 - 1)) (live_is j) ∙ least (live_tasks k j) (length k.tasks) bound small

    facts_are : (n : Node) → facts_shown (sight_of k) sums n ≡ facts_of k n
    facts_are Sink = refl
    facts_are (Unscheduled j) = λ i. OfJob (record { job = j; register = job_of k j; live = count_is j i })
    facts_are (Request r) = λ i. OfRequest (record { request = r; waits = waits_is r i })
    facts_are (Machine m) = λ i. OfMachine (record { machine = m; state = open_state k m; load = load_is m i })
    facts_are (Task t) = refl

    pub arc_is : (a b : Node) → arc_shown (sight_of k) sums a b ≡ arc_of k a b
    arc_is a b = (λ i. arc_between (facts_are a i) (facts_are b i)) ∙ policy.arc_is k a b
