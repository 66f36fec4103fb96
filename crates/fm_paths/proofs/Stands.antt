-- The network of a table has the arcs of the ways that its tasks may go.
use Rattle.std.proofs.Common.{◌≡◌, ◌∙◌, ap, sym, subst, refl, inl, inr, ℕ, ◌+◌, true, false, cond, not, ◌==◌, ◌⊎◌, List, [], ◌∷◌, ◌++◌, Option, Some, None, option_map, IsTrue, eqb-true, arith}
use Rattle.std.specs.Prelude.{flat_map}
use Rattle.std.specs.List.{sum_by, filter_map, cons_option}
use Rattle.std.proofs.lemmas.List.Sums.{sum_by-cons}
use Rattle.fm_records.specs.declared.records.SpecReg.{SpecReg}
use Rattle.fm_records.specs.declared.records.JobReg.{JobReg}
use Rattle.fm_records.proofs.LookupLaws.{both_true}
use Rattle.fm_records.specs.Options.{when}
use Rattle.fm_records.specs.Sets.{IsMember}
use Rattle.fm_records.specs.Table.{Table, TaskValue}
use Rattle.fm_records.specs.Facts.{job_of, spec_of, live_spec, is_live, open_state}
use Rattle.fm_net.specs.declared.node.Node.{Node}
use Rattle.fm_net.specs.declared.node.Node.TheVariants.{Sink, Unscheduled, Request, Machine, Task}
use Rattle.fm_net.specs.Network.{is_held, is_live_of, live_tasks, is_node, room_arc, arc_of, net_of}
use Rattle.fm_net.proofs.NetworkLaws.{passes_some, only_if_some, room_from, ends_of, is_network_of}
use Rattle.fm_paths.specs.TaskPaths.{Way, ToJob, ByRequest, Straight, path_arcs_of, path_arcs, ways_of, MayGo, HasArcsOf}

-- members of lists in turn

parted : {Y : Type 0} (y : Y) (xs ys : List Y) → IsMember y (xs ++ ys) → IsMember y xs ⊎ IsMember y ys
parted y [] ys m = inr m
parted y (x ∷ xs) ys m = elim m [ inl is ↦ inl (inl is) | inr later ↦ elim (parted y xs ys later) [ inl a ↦ inl (inr a) | inr b ↦ inr b ] ]

module _ {X Y : Type 0} where
  pub from_flat : (h : X → List Y) (y : Y) (xs : List X) → IsMember y (flat_map h xs) → (x : X) × IsMember x xs × IsMember y (h x)
  from_flat h y [] m = absurd m
  from_flat h y (x ∷ xs) m = elim (parted y (h x) (flat_map h xs) m) [
    | inl here ↦ (x, inl refl, here)
    | inr later ↦ let r = from_flat h y xs later in (r.0, inr r.1, r.2)
  ]

module _ (k : Table) (way : ℕ → Way) where
  abbrev row : ℕ × TaskValue → Option (ℕ × Way)
  row e = when (is_live k e.0) (e.0, way e.0)

  pub from_rows : (w : ℕ × Way) (es : List (ℕ × TaskValue)) → IsMember w (filter_map row es) → (t : ℕ) × (is_live k t ≡ true) × ((t, way t) ≡ w)
  from_rows w [] m = absurd m
  from_rows w (e ∷ es) m =
      let rest = from_rows w es in
      elim (is_live k e.0) as (λ b. is_live k e.0 ≡ b → IsMember w (cons_option (when b (e.0, way e.0)) (filter_map row es)) → (t : ℕ) × (is_live k t ≡ true) × ((t, way t) ≡ w)) [
        | true ↦ λ live n. elim n [ inl is ↦ (e.0, live, is) | inr later ↦ rest later ]
        | false ↦ λ _ n. rest n
      ] refl m

  -- a sum over the ways is one over the live tasks
  sum_rows : (f : ℕ × Way → ℕ) (es : List (ℕ × TaskValue)) → sum_by f (filter_map row es) ≡ sum_by (λ e. cond (is_live k e.0) (f (e.0, way e.0)) 0) es
  sum_rows f [] = refl
  sum_rows f (e ∷ es) =
      let rest = sum_rows f es in
      let first : sum_by f (cons_option (row e) (filter_map row es)) ≡ cond (is_live k e.0) (f (e.0, way e.0)) 0 + sum_by f (filter_map row es) =
      elim (is_live k e.0) as (λ b. sum_by f (cons_option (when b (e.0, way e.0)) (filter_map row es)) ≡ cond b (f (e.0, way e.0)) 0 + sum_by f (filter_map row es)) [
        | true ↦ sum_by-cons f (e.0, way e.0) (filter_map row es)
        | false ↦ omega arith
      ] in
      omega (arith, sum_by-cons (λ (x : ℕ × TaskValue). cond (is_live k x.0) (f (x.0, way x.0)) 0) e es)

  pub sum_ways : (f : ℕ × Way → ℕ) → sum_by f (ways_of k way) ≡ sum_by (λ e. cond (is_live k e.0) (f (e.0, way e.0)) 0) k.tasks
  sum_ways f = sum_rows f k.tasks

module _ (k : Table) where
  pub live_job : (t : ℕ) (s : SpecReg) → live_spec k t ≡ Some s → (r : JobReg) × (job_of k s.job ≡ Some r)
  live_job t s e =
      let h = (only_if_some _ (spec_of k t) s e).1 in
      let stand = (both_true _ _ (both_true _ _ h).0).1 in
      let r = passes_some (λ r. not r.withdrawn) (job_of k s.job) stand in
      (r.0, r.1)

  pub job_arc : (t j : ℕ) → is_live_of k j t ≡ true → (v : ℕ × ℕ) × (arc_of k (Task t) (Unscheduled j) ≡ Some v)
  job_arc t j is =
      let s = passes_some (λ (s : SpecReg). s.job == j) (live_spec k t) is in
      let r = live_job t s.0 s.1 in
      let there : job_of k j ≡ Some r.0 = ap (job_of k) (sym (eqb-true s.0.job j s.2)) ∙ r.1 in
      let v : ℕ × ℕ = (1, cond (is_held k t) r.0.preempt r.0.wait) in
      (v, ap (λ b. cond b (option_map (λ job. (1, cond (is_held k t) job.preempt job.wait)) (job_of k j)) None) is ∙ ap (option_map (λ job. (1, cond (is_held k t) job.preempt job.wait))) there)

  slot_arc : (m : ℕ) → is_node k (Machine m) ≡ true → (v : ℕ × ℕ) × (arc_of k (Machine m) Sink ≡ Some v)
  slot_arc m h = let s = passes_some (λ r. true) (open_state k m) h in ((s.0.slots, 0), ap (option_map (λ state. (state.slots, 0))) s.1)

  abbrev HasArc : Node × Node → Type 0
  HasArc s = (v : ℕ × ℕ) × (arc_of k s.0 s.1 ≡ Some v)

  at_two : (a b s : Node × Node) → HasArc a → HasArc b → IsMember s (a ∷ b ∷ []) → HasArc s
  at_two a b s x y m = elim m [ inl is ↦ subst HasArc is x | inr later ↦ elim later [ inl is ↦ subst HasArc is y | inr none ↦ absurd none ] ]

  pub step_arc : (t : ℕ) (w : Way) → MayGo k t w → (s : Node × Node) → IsMember s (path_arcs_of t w) → HasArc s
  step_arc t (ToJob j) may s m =
      let first = job_arc t j may in
      let ends = ends_of k (Task t) (Unscheduled j) first.0 first.1 in
      at_two (Task t, Unscheduled j) (Unscheduled j, Sink) s first ((live_tasks k j, 0), rw ends.to refl) m
  step_arc t (ByRequest r q) may s m =
      let first : arc_of k (Task t) (Request r) ≡ Some (1, 0) = rw may.0 refl in
      let ends = ends_of k (Task t) (Request r) (1, 0) first in
      let second : arc_of k (Request r) (Machine q) ≡ Some may.1 = ap (λ b. cond b (room_arc k r q) None) ends.to ∙ may.2 in
      let room = room_from k r q may.1 may.2 in
      let third = slot_arc q (ends_of k (Request r) (Machine q) may.1 second).to in
      elim m [
        | inl is ↦ subst HasArc is ((1, 0), first)
        | inr later ↦ at_two (Request r, Machine q) (Machine q, Sink) s (may.1, second) third later
      ]
  step_arc t (Straight q) may s m =
      at_two (Task t, Machine q) (Machine q, Sink) s may (slot_arc q (ends_of k (Task t) (Machine q) may.0 may.1).to) m

  pub ways_stand : (way : ℕ → Way) → ((t : ℕ) → IsTrue (is_live k t) → MayGo k t (way t)) → HasArcsOf (net_of k) (ways_of k way)
  ways_stand way may s m =
      let w = from_flat path_arcs s (ways_of k way) m in
      let t = from_rows k way w.0 k.tasks w.1 in
      let here : IsMember s (path_arcs (t.0, way t.0)) = subst (λ (x : ℕ × Way). IsMember s (path_arcs x)) (sym t.2) w.2 in
      let arc = step_arc t.0 (way t.0) (may t.0 t.1) s here in
      (arc.0, (is_network_of k).each_arc s.0 s.1 ∙ arc.1)
