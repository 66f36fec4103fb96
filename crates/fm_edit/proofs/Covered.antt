-- The nodes and pairs that are touched are all that a delta can change.
use Rattle.std.proofs.Common.{◌≡◌, ◌∙◌, ◌⊎◌, ℕ, Bool, true, false, cond, List, Option, Some, None, refl, sym, ap, subst, inl, inr}
use Rattle.std.specs.Prelude.{◌==◌, ◌&&◌, ◌-◌, not, is_some, IsSome, option_map}
use Rattle.std.proofs.lemmas.Bool.{eqb-true}
use Rattle.fm_lattice.specs.Maps.{lookup}
use Rattle.std.specs.Ordering.{nat_cmp}
use Rattle.fm_records.specs.declared.records.SpecReg.{SpecReg}
use Rattle.fm_records.specs.declared.records.MachineReg.{MachineReg}
use Rattle.fm_records.specs.Options.{when, and_then, only_if, passes}
use Rattle.fm_records.proofs.LookupLaws.{both_true}
use Rattle.fm_records.specs.Rising.{Rises}
use Rattle.fm_records.specs.Table.{Table, MachineValue}
use Rattle.fm_records.specs.Facts.{spec_of, live_spec, holder_of, holds, open_state, spare_of}
use Rattle.fm_net.specs.declared.node.Node.{Node}
use Rattle.fm_net.specs.declared.node.Node.TheVariants.{Sink, Unscheduled, Request, Machine, Task}
use Rattle.fm_net.specs.Nodes.{node_cmp, ends_cmp}
use Rattle.fm_net.specs.Network.{is_held, is_live_of, waits_for, is_node, place_arc, room_arc, preferred_arc, arc_of, net_of}
use Rattle.fm_net.proofs.NetworkLaws.{passes_some, only_if_some, is_network_of}
use Rattle.fm_net.specs.Touched.{Touches}
use Rattle.fm_policy.specs.Changes.{Keys}
use Rattle.fm_edit.specs.declared.affected.Touched.{Touched}
use Rattle.fm_edit.specs.Dirty.{SameBeyond, has_id, dirty_task, IsDirtyMachine, job_of_task, request_of_task, prefers, MayTurn, MayDiffer}
use Rattle.fm_edit.proofs.LocalLaws.{node_same, arc_same, request_arc_same, state_same, prefers_same}
use Rattle.fm_edit.specs.CacheModel.{sight_of}
use Rattle.fm_edit.specs.inner.Affected.{has_touched, has_pair, TouchesTask}
use Rattle.fm_edit.proofs.Completed.{both_ways}

none_some : {A P : Type 0} (a : A) → is_some {T = A} None ≡ true → P
none_some a h = absurd (let no : ⊥ = cc in no)

abbrev less : ℕ → ℕ × ℕ → ℕ × ℕ
less credit a = (1, a.1 - credit)

-- Where an arc of a task leads.
module _ (l : Table) (t : ℕ) (x : Touched) (touches : TouchesTask (sight_of l) t x) where
  pub to_job : (j : ℕ) → job_of_task l t ≡ Some j → (has_touched x (Unscheduled j) ≡ true) × (has_pair x (Task t) (Unscheduled j) ≡ true)
  to_job j e = touches.job (Unscheduled j) (elim (spec_of l t) as (λ o. option_map (λ s. s.job) o ≡ Some j → option_map (λ s. Unscheduled s.job) o ≡ Some (Unscheduled j)) [ None ↦ λ f. absurd (let no : ⊥ = cc in no) | Some s ↦ λ f. ap Some (ap Unscheduled (let is : s.job ≡ j = cc in is)) ] e)

  pub to_request : (q : ℕ) → request_of_task l t ≡ Some q → (has_touched x (Request q) ≡ true) × (has_pair x (Task t) (Request q) ≡ true)
  to_request q e = touches.request (Request q) (elim (spec_of l t) as (λ o. option_map (λ s. s.request) o ≡ Some q → option_map (λ s. Request s.request) o ≡ Some (Request q)) [ None ↦ λ f. absurd (let no : ⊥ = cc in no) | Some s ↦ λ f. ap Some (ap Request (let is : s.request ≡ q = cc in is)) ] e)

  pub to_holder : (m : ℕ) → holder_of l t ≡ Some m → (has_touched x (Machine m) ≡ true) × (has_pair x (Task t) (Machine m) ≡ true)
  to_holder m e = touches.holder (Machine m) (ap (option_map Machine) e)

  spec_live : (s : SpecReg) → live_spec l t ≡ Some s → spec_of l t ≡ Some s
  spec_live s e = (only_if_some _ (spec_of l t) s e).0

  when_some : {A : Type 0} (b : Bool) (v : A) → is_some (when b v) ≡ true → b ≡ true
  when_some true v h = refl
  when_some false v h = h

  cond_some : {A : Type 0} (b : Bool) (o : Option A) → is_some (cond b o None) ≡ true → b ≡ true
  cond_some true o h = refl
  cond_some false o h = h

  -- a task with an arc into a machine that does not hold it prefers that
  preferring : (m : ℕ) → is_held l t ≡ false → is_some (and_then (λ s. preferred_arc l s m) (live_spec l t)) ≡ true → prefers l m t ≡ true
  preferring m e h =
      ap (λ b. passes (λ s. is_some (lookup nat_cmp m s.prefer)) (live_spec l t) && not b) e
      ∙ (elim (live_spec l t) as (λ o. is_some (and_then (λ s. preferred_arc l s m) o) ≡ true → (passes (λ s. is_some (lookup nat_cmp m s.prefer)) o && true) ≡ true) [
        | None ↦ λ no. none_some {A = ℕ × ℕ} (0, 0) no
        | Some s ↦ λ g. elim (lookup nat_cmp m s.prefer) as (λ c. is_some (and_then (λ credit. option_map (less credit) (room_arc l s.request m)) c) ≡ true → (is_some c && true) ≡ true) [ None ↦ λ no. none_some {A = ℕ × ℕ} (0, 0) no | Some c ↦ λ _. refl ] g
      ] h)

  pub leads : (b : Node) → is_some (arc_of l (Task t) b) ≡ true → has_pair x (Task t) b ≡ true
  leads (Request q) h =
      let waits = both_true (passes (λ s. s.request == q) (live_spec l t)) (not (is_held l t)) (when_some (waits_for l q t) (1, 0) h) in
      let s = passes_some (λ s. s.request == q) (live_spec l t) waits.0 in
      (to_request q (ap (option_map (λ s. s.request)) (spec_live s.0 s.1) ∙ ap Some (eqb-true s.0.request q s.2))).1
  leads (Machine m) h =
      elim (is_held l t) as (λ b. is_held l t ≡ b → has_pair x (Task t) (Machine m) ≡ true) [
        | true ↦ λ e.
            let held = passes_some (λ x. x == m) (holder_of l t) (when_some (holds l m t) (1, 0) (subst (λ b. is_some (cond b (when (holds l m t) (1, 0)) (and_then (λ s. preferred_arc l s m) (live_spec l t))) ≡ true) e h)) in
            (to_holder m (held.1 ∙ ap Some (eqb-true held.0 m held.2))).1
        | false ↦ λ e. touches.preferred m (preferring m e (subst (λ b. is_some (cond b (when (holds l m t) (1, 0)) (and_then (λ s. preferred_arc l s m) (live_spec l t))) ≡ true) e h))
      ] refl
  leads (Unscheduled j) h =
      let s = passes_some (λ s. s.job == j) (live_spec l t) (cond_some (is_live_of l j t) _ h) in
      (to_job j (ap (option_map (λ s. s.job)) (spec_live s.0 s.1) ∙ ap Some (eqb-true s.0.job j s.2))).1
  leads Sink h = absurd (let no : ⊥ = cc in no)
  leads (Task u) h = absurd (let no : ⊥ = cc in no)

gone : (o : Option (ℕ × ℕ)) → (is_some o ≡ true → ⊥) → o ≡ None
gone None h = refl
gone (Some v) h = absurd (h refl)

module _ (k after : Table) (keys : Keys) (turned : List ℕ) (same : SameBeyond k after keys turned) (x : Touched) where
  -- all that a delta can change is touched
  pub record Covers : Type 0 where
    pub jobs : (j : ℕ) → has_id keys.jobs j ≡ true → has_touched x (Unscheduled j) ≡ true
    pub machines : (m : ℕ) → has_id keys.machines m ≡ true → has_touched x (Machine m) ≡ true
    pub before : (t : ℕ) → dirty_task k after keys turned t ≡ true → TouchesTask (sight_of k) t x
    pub later : (t : ℕ) → dirty_task k after keys turned t ≡ true → TouchesTask (sight_of after) t x
    pub sinks_of_jobs : (j : ℕ) → has_touched x (Unscheduled j) ≡ true → has_pair x (Unscheduled j) Sink ≡ true
    pub sinks_of_machines : (m : ℕ) → has_touched x (Machine m) ≡ true → has_pair x (Machine m) Sink ≡ true
    pub touched_places : (q m : ℕ) → has_touched x (Request q) ≡ true → has_touched x (Machine m) ≡ true → has_pair x (Request q) (Machine m) ≡ true
    pub waiting_places : (q m : ℕ) → is_node after (Request q) ≡ true → has_touched x (Machine m) ≡ true → has_pair x (Request q) (Machine m) ≡ true
    pub preferring_places : (m t : ℕ) → prefers after m t ≡ true → has_touched x (Machine m) ≡ true → has_pair x (Task t) (Machine m) ≡ true
    pub turned_places : (q m : ℕ) → has_touched x (Request q) ≡ true → (is_node k (Request q) ≡ is_node after (Request q) → ⊥) → IsSome (lookup nat_cmp m after.machines) → has_pair x (Request q) (Machine m) ≡ true
    pub nodes_rise : Rises node_cmp x.nodes.keys
    pub pairs_rise : Rises ends_cmp x.pairs.keys

  module _ (covers : Covers) where
    turning : (n : Node) → MayTurn k after keys turned n → has_touched x n ≡ true
    turning Sink h = absurd h
    turning (Unscheduled j) h = elim h [
      | inl told ↦ covers.jobs j told
      | inr of ↦ elim of.2 [ inl e ↦ (to_job k of.0 x (covers.before of.0 of.1) j e).0 | inr e ↦ (to_job after of.0 x (covers.later of.0 of.1) j e).0 ]
    ]
    turning (Request q) h = elim h.2 [ inl e ↦ (to_request k h.0 x (covers.before h.0 h.1) q e).0 | inr e ↦ (to_request after h.0 x (covers.later h.0 h.1) q e).0 ]
    turning (Machine m) h = elim h [
      | inl told ↦ covers.machines m told
      | inr of ↦ elim of.2 [ inl e ↦ (to_holder k of.0 x (covers.before of.0 of.1) m e).0 | inr e ↦ (to_holder after of.0 x (covers.later of.0 of.1) m e).0 ]
    ]
    turning (Task t) h = (covers.before t h).node

    -- what is not touched does not turn
    quiet : (n : Node) → has_touched x n ≡ false → is_node after n ≡ is_node k n
    quiet n e = node_same k after keys turned same n (λ h. both_ways (has_touched x n) (turning n h) e)

    still : (m : ℕ) → has_touched x (Machine m) ≡ false → ¬ IsDirtyMachine k after keys turned m
    still m e h = both_ways (has_touched x (Machine m)) (turning (Machine m) h) e

    none_open : (m : ℕ) → (IsSome (lookup nat_cmp m after.machines) → ⊥) → open_state after m ≡ None
    none_open m h = elim (lookup nat_cmp m after.machines) as (λ o. (IsSome o → ⊥) → only_if (λ r. r.up) (and_then (λ (v : MachineValue). v.1.0) o) ≡ None) [ None ↦ λ _. refl | Some v ↦ λ g. absurd (g refl) ] h

    no_place : (l : Table) (q m : ℕ) (b : Bool) (o : Option MachineReg) → o ≡ None → cond b (and_then (λ state. and_then (place_arc l q m state) (spare_of l m)) o) None ≡ None
    no_place l q m true o e = ap (and_then (λ state. and_then (place_arc l q m state) (spare_of l m))) e
    no_place l q m false o e = refl

    same_nodeness : (a b : Bool) → (a ≡ b → ⊥) ⊎ (a ≡ b)
    same_nodeness true true = inr refl
    same_nodeness true false = inl (λ e. let no : ⊥ = cc in no)
    same_nodeness false true = inl (λ e. let no : ⊥ = cc in no)
    same_nodeness false false = inr refl

    off_node : (l : Table) (q m : ℕ) → is_node l (Request q) ≡ false → arc_of l (Request q) (Machine m) ≡ None
    off_node l q m e = ap (λ b. cond b (and_then (λ state. and_then (place_arc l q m state) (spare_of l m)) (open_state l m)) None) e

    not_true : (b : Bool) → (b ≡ true → ⊥) → b ≡ false
    not_true true h = absurd (h refl)
    not_true false h = refl

    place_quiet : (q m : ℕ) → has_pair x (Request q) (Machine m) ≡ false → arc_of after (Request q) (Machine m) ≡ arc_of k (Request q) (Machine m)
    place_quiet q m no_pair =
        elim (has_touched x (Machine m)) as (λ b. has_touched x (Machine m) ≡ b → arc_of after (Request q) (Machine m) ≡ arc_of k (Request q) (Machine m)) [
          | true ↦ λ hm.
              let untouched : has_touched x (Request q) ≡ false = not_true _ (λ hq. both_ways (has_pair x (Request q) (Machine m)) (covers.touched_places q m hq hm) no_pair) in
              let off : is_node after (Request q) ≡ false = not_true _ (λ w. both_ways (has_pair x (Request q) (Machine m)) (covers.waiting_places q m w hm) no_pair) in
              off_node after q m off ∙ sym (off_node k q m (sym (quiet (Request q) untouched) ∙ off))
          | false ↦ λ hm. elim (same_nodeness (is_node k (Request q)) (is_node after (Request q))) [
            | inr e ↦ request_arc_same k after keys turned same q m (sym e) (still m hm)
            | inl apart ↦
                let touched : (has_touched x (Request q) ≡ false) → ⊥ = λ u. apart (sym (quiet (Request q) u)) in
                let unknown : IsSome (lookup nat_cmp m after.machines) → ⊥ = λ there. elim (has_touched x (Request q)) as (λ b. has_touched x (Request q) ≡ b → ⊥) [
                  | true ↦ λ hq. both_ways (has_pair x (Request q) (Machine m)) (covers.turned_places q m hq apart there) no_pair
                  | false ↦ λ hq. touched hq
                ] refl in
                let closed = none_open m unknown in
                no_place after q m (is_node after (Request q)) (open_state after m) closed
                ∙ sym (no_place k q m (is_node k (Request q)) (open_state k m) (sym (state_same k after keys turned same m (still m hm)) ∙ closed))
          ]
        ] refl

    -- the pair of a task that is not dirty may differ only if it is touched
    clean_pair : (t : ℕ) (b : Node) → dirty_task k after keys turned t ≡ false → has_pair x (Task t) b ≡ false → ¬ MayDiffer k after keys turned (Task t) b
    clean_pair t (Machine m) d e h = elim h [
      | inl dirty ↦ both_ways (dirty_task k after keys turned t) dirty d
      | inr of ↦ both_ways (has_pair x (Task t) (Machine m)) (covers.preferring_places m t (prefers_same k after keys turned same t d m ∙ of.1) (turning (Machine m) of.0)) e
    ]
    clean_pair t Sink d e h = both_ways (dirty_task k after keys turned t) h d
    clean_pair t (Unscheduled j) d e h = both_ways (dirty_task k after keys turned t) h d
    clean_pair t (Request q) d e h = both_ways (dirty_task k after keys turned t) h d
    clean_pair t (Task u) d e h = both_ways (dirty_task k after keys turned t) h d

    pair_quiet : (a b : Node) → has_pair x a b ≡ false → arc_of after a b ≡ arc_of k a b
    pair_quiet (Task t) b e =
        elim (dirty_task k after keys turned t) as (λ d. dirty_task k after keys turned t ≡ d → arc_of after (Task t) b ≡ arc_of k (Task t) b) [
          | true ↦ λ d.
              gone (arc_of after (Task t) b) (λ h. both_ways (has_pair x (Task t) b) (leads after t x (covers.later t d) b h) e)
              ∙ sym (gone (arc_of k (Task t) b) (λ h. both_ways (has_pair x (Task t) b) (leads k t x (covers.before t d) b h) e))
          | false ↦ λ d. arc_same k after keys turned same (Task t) b (clean_pair t b d e)
        ] refl
    pair_quiet (Request q) (Machine m) e = place_quiet q m e
    pair_quiet (Machine m) Sink e = arc_same k after keys turned same (Machine m) Sink (λ h. both_ways (has_pair x (Machine m) Sink) (covers.sinks_of_machines m (turning (Machine m) h)) e)
    pair_quiet (Unscheduled j) Sink e = arc_same k after keys turned same (Unscheduled j) Sink (λ h. both_ways (has_pair x (Unscheduled j) Sink) (covers.sinks_of_jobs j (turning (Unscheduled j) h)) e)
    pair_quiet _ _ e = refl

    pub touches : Touches (net_of k) (net_of after) x.nodes.keys x.pairs.keys
    touches = record {
      nodes_rise = covers.nodes_rise;
      pairs_rise = covers.pairs_rise;
      each_node = λ n e. (is_network_of after).each_node n ∙ quiet n e ∙ sym ((is_network_of k).each_node n);
      each_pair = λ p e. (is_network_of after).each_arc p.0 p.1 ∙ pair_quiet p.0 p.1 e ∙ sym ((is_network_of k).each_arc p.0 p.1);
    }
