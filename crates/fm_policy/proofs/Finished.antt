-- A network that is part of a table's and has all of it is the table's network.
use Rattle.std.proofs.Common.{◌≡◌, ℕ, Bool, true, false, cond, List, [], ◌∷◌, Option, Some, None, refl, sym, ◌∙◌, ap, subst, IsTrue}
use Rattle.std.specs.Prelude.{◌==◌, ◌&&◌, ◌||◌, not, is_some, option_map}
use Rattle.std.specs.List.{list_any}
use borrow.Author.Tests.{eqb-true}
use Rattle.fm_records.specs.declared.records.SpecReg.{SpecReg}
use Rattle.fm_records.specs.Options.{when, and_then, only_if, passes}
use Rattle.fm_records.specs.Table.{Table}
use Rattle.fm_records.specs.Facts.{live_spec, open_state, is_open, is_present, won_spot, holder_of, holds}
use Rattle.fm_net.specs.declared.node.Node.{Node}
use Rattle.fm_net.specs.declared.node.Node.TheVariants.{Sink, Unscheduled, Request, Machine, Task}
use Rattle.fm_net.specs.Net.{Net, CanBeNet, arc_at, sink_alone}
use Rattle.fm_net.specs.Network.{IsNetworkOf, is_node, is_held, is_live_of, waits_for, preferred_arc, arc_of}
use Rattle.fm_policy.specs.inner.NetworkSoFar.{Stands, HasArcTo, IsPart, HasWaiting, HasHolder, HasNodes, CoversJob, CoversMachine, CoversTask, CoversPlace}
use Rattle.fm_policy.proofs.Parts.{spec_tested, place_needs}

no_way : {A : Type 0} → false ≡ true → A
no_way h = absurd (let no : ⊥ = cc in no)

or_right : (a b : Bool) → b ≡ true → a || b ≡ true
or_right true b h = refl
or_right false b h = h

pub and_left : (a b : Bool) → a && b ≡ true → a ≡ true
and_left true b h = refl
and_left false b h = h

pub and_right : (a b : Bool) → a && b ≡ true → b ≡ true
and_right true b h = h
and_right false b h = no_way h

-- the sink alone is part of every network
pub sink_part : (k : Table) → IsPart k sink_alone
sink_part k = record {
  nodes = λ n stands. elim n as (λ m. Stands sink_alone m → IsTrue (is_node k m)) [ Sink ↦ λ _. refl | Unscheduled j ↦ λ no. no_way no | Request r ↦ λ no. no_way no | Machine m ↦ λ no. no_way no | Task t ↦ λ no. no_way no ] stands;
  arcs = λ a b leads. no_way leads;
}

pub some_found : {V : Type 0} (test : ℕ → Bool) (es : List (ℕ × V)) → list_any (λ e. test e.0) es ≡ true → (t : ℕ) × (test t ≡ true)
some_found test [] h = no_way h
some_found test (e ∷ es) h = elim (test e.0) as (λ b. test e.0 ≡ b → b || list_any (λ x. test x.0) es ≡ true → (t : ℕ) × (test t ≡ true)) [ true ↦ λ is _. (e.0, is) | false ↦ λ _ rest. some_found test es rest ] refl h

same_bool : (a b : Bool) → (a ≡ true → b ≡ true) → (b ≡ true → a ≡ true) → a ≡ b
same_bool true b f g = sym (f refl)
same_bool false true f g = sym (sym (g refl))
same_bool false false f g = refl

module _ (k : Table) where
  none_held : (t : ℕ) → not (is_held k t) ≡ true → holder_of k t ≡ None
  none_held t h = elim (holder_of k t) as (λ o. not (passes (λ m. true) o) ≡ true → o ≡ None) [ None ↦ λ _. refl | Some m ↦ λ no. no_way no ] h

  -- a task that waits for a request, with its spec
  waiting : (r t : ℕ) → waits_for k r t ≡ true → (s : SpecReg) × (live_spec k t ≡ Some s) × (s.request ≡ r) × (holder_of k t ≡ None)
  waiting r t h =
      let live = spec_tested k (λ s. s.request == r) t (and_left _ _ h) in
      (live.0, live.1, eqb-true live.0.request r live.2, none_held t (and_right (passes (λ s. s.request == r) (live_spec k t)) _ h))

  -- a task that is held is live
  held_live : (t m : ℕ) → holds k m t ≡ true → (s : SpecReg) × (live_spec k t ≡ Some s) × (holder_of k t ≡ Some m)
  held_live t m h =
      let held : holder_of k t ≡ Some m = elim (holder_of k t) as (λ o. passes (λ n. n == m) o ≡ true → o ≡ Some m) [ None ↦ λ no. no_way no | Some n ↦ λ is. ap Some (eqb-true n m is) ] h in
      elim (live_spec k t) as (λ o. live_spec k t ≡ o → (s : SpecReg) × (o ≡ Some s) × (holder_of k t ≡ Some m)) [
        | None ↦ λ dead. let none : holder_of k t ≡ None = ap (λ o. cond (passes (λ s. true) o) (option_map (λ s. s.machine) (only_if (is_present k) (won_spot k t))) None) dead in absurd (let no : None ≡ Some m = sym none ∙ held in let no2 : ⊥ = cc in no2)
        | Some s ↦ λ _. (s, refl, held)
      ] refl

  module _ (net : Net) (tasks : (t : ℕ) → CoversTask k t net) where
    has_waiting : (r t : ℕ) → waits_for k r t ≡ true → HasWaiting k t r net
    has_waiting r t h =
        let w = waiting r t h in
        let has = subst (λ o. HasHolder k t w.0.request o net) w.3 (tasks t w.0 w.1).holder in
        subst (λ q. HasWaiting k t q net) w.2 has

    has_job : (j t : ℕ) → is_live_of k j t ≡ true → HasArcTo net (Task t) (Unscheduled j)
    has_job j t h =
        let live = spec_tested k (λ s. s.job == j) t h in
        let is = eqb-true live.0.job j live.2 in
        subst (λ i. HasArcTo net (Task t) (Unscheduled i)) is (tasks t live.0 live.1).unscheduled

    module _ (can : CanBeNet net) (all_nodes : HasNodes k net) (jobs : (j : ℕ) → CoversJob k j net) (machines : (m : ℕ) → CoversMachine k m net) (places : (r : ℕ) → is_node k (Request r) ≡ true → (m : ℕ) → CoversPlace k r m net) where
      of_when : {A : Type 0} (b : Bool) (x : A) → is_some (when b x) ≡ true → b ≡ true
      of_when true x h = refl
      of_when false x h = h

      of_cond : {A : Type 0} (b : Bool) (o : Option A) → is_some (cond b o None) ≡ true → b ≡ true
      of_cond true o h = refl
      of_cond false o h = h

      some_then : {A B : Type 0} (f : A → Option B) (o : Option A) → is_some (and_then f o) ≡ true → (a : A) × (o ≡ Some a)
      some_then f None h = no_way h
      some_then f (Some a) h = (a, refl)

      all_arcs : (a b : Node) → is_some (arc_of k a b) ≡ true → HasArcTo net a b
      all_arcs (Task t) (Request r) h = (has_waiting r t (of_when _ _ h)).waits
      all_arcs (Request r) (Machine m) h = places r (place_needs k r m h).0 m h
      all_arcs (Task t) (Machine m) h = elim (is_held k t) as (λ b. is_held k t ≡ b → HasArcTo net (Task t) (Machine m)) [
        | true ↦ λ e.
            let held = held_live t m (of_when _ _ (subst (λ b. is_some (cond b (when (holds k m t) (1, 0)) (and_then (λ s. preferred_arc k s m) (live_spec k t))) ≡ true) e h)) in
            subst (λ o. HasHolder k t held.0.request o net) held.2 (tasks t held.0 held.1).holder
        | false ↦ λ e.
            let free : holder_of k t ≡ None = none_held t (ap not e) in
            let some : is_some (and_then (λ s. preferred_arc k s m) (live_spec k t)) ≡ true = subst (λ b. is_some (cond b (when (holds k m t) (1, 0)) (and_then (λ s. preferred_arc k s m) (live_spec k t))) ≡ true) e h in
            let live = some_then (λ s. preferred_arc k s m) (live_spec k t) some in
            (subst (λ o. HasHolder k t live.0.request o net) free (tasks t live.0 live.1).holder).preferred m h
      ] refl
      all_arcs (Task t) (Unscheduled j) h = has_job j t (of_cond _ _ h)
      all_arcs (Machine m) Sink h = let is_open_now : is_open k m ≡ true = elim (open_state k m) as (λ o. is_some {T = ℕ × ℕ} (option_map (λ state. (state.slots, 0)) o) ≡ true → passes (λ r. true) o ≡ true) [ None ↦ λ no. no | Some s ↦ λ _. refl ] h in machines m is_open_now
      all_arcs (Unscheduled j) Sink h = jobs j (of_when _ _ h)
      all_arcs _ _ h = no_way h

      module _ (part : IsPart k net) where
        same_arc : (a b : Node) (o : Option (ℕ × ℕ)) → arc_of k a b ≡ o → arc_at net a b ≡ o
        same_arc a b (Some v) e = part.arcs a b (all_arcs a b (ap is_some e)) ∙ e
        same_arc a b None e = elim (arc_at net a b) as (λ o. arc_at net a b ≡ o → o ≡ None) [
          | None ↦ λ _. refl
          | Some v ↦ λ there. let leads : HasArcTo net a b = ap is_some there in sym there ∙ part.arcs a b leads ∙ e
        ] refl

        pub is_network : IsNetworkOf k net
        is_network = record {
          nodes_rise = can.nodes_rise;
          arcs_rise = can.arcs_rise;
          each_node = λ n. same_bool _ _ (part.nodes n) (all_nodes n);
          each_arc = λ a b. same_arc a b (arc_of k a b) refl;
        }
