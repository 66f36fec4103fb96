-- The plan of the flow of ways: where the tasks of a request go in turn, each goes to the machine of its way.
use Rattle.std.proofs.Common.{◌≡◌, ◌∙◌, ap, sym, subst, refl, inl, inr, ℕ, ◌+◌, Bool, true, false, cond, not, ◌==◌, ◌&&◌, List, [], ◌∷◌, Option, Some, None, eq-eqb, eqb-true, arith}
use Rattle.std.specs.Prelude.{flat_map, map, nat_lt, zip}
use Rattle.std.specs.List.{sum_by, filter_map, cons_option}
use Rattle.std.specs.Ordering.{nat_cmp}
use Rattle.std.proofs.lemmas.Bool.{cases_lt}
use Rattle.std.proofs.lemmas.List.Sums.{sum_by-cons}
use Rattle.fm_lattice.specs.Maps.{lookup}
use Rattle.fm_records.proofs.LookupLaws.{both_true, when_is_true}
use Rattle.fm_records.proofs.RangeLaws.{when_value}
use Rattle.fm_records.specs.Ranges.{CanBe}
use Rattle.fm_records.specs.Options.{when, and_then, or_else}
use Rattle.fm_records.specs.Sets.{IsMember}
use Rattle.fm_records.specs.Table.{Table, TaskValue}
use Rattle.fm_records.specs.Facts.{is_live}
use Rattle.fm_net.specs.declared.node.Node.{Node}
use Rattle.fm_net.specs.declared.node.Node.TheVariants.{Sink, Unscheduled, Request, Machine, Task}
use Rattle.fm_net.specs.Nodes.{ends_cmp}
use Rattle.fm_net.specs.laws.NodeOrder.{ends_exact, ends_total}
use Rattle.fm_net.proofs.ListLaws.{entry_member}
use Rattle.fm_net.specs.Net.{CanBeNet}
use Rattle.fm_net.specs.Network.{is_held, net_of}
use Rattle.fm_net.proofs.NetworkLaws.{is_network_of}
use Rattle.fm_certificate.proofs.Members.{member_lookup}
use Rattle.fm_round.specs.declared.plan.Place.{Place}
use Rattle.fm_round.specs.PlanOfFlow.{Wait, ArcUnits, units, units_over, wait_in, waits, seats, tasks_of, machines_of, machine_for, place_at, place_of, place_in_plan, plan_of_flow}
use Rattle.fm_round.proofs.Flows.{seats_counted}
use Rattle.fm_paths.specs.TaskPaths.{Way, ToJob, ByRequest, Straight, path_arcs, units_of, ways_of, goes_by, Fit}
use Rattle.fm_paths.specs.Prices.{first_node}
use Rattle.fm_paths.specs.Plans.{is_run, goer, goers, place_way, places_of_ways, InTurn}
use Rattle.fm_paths.proofs.Stands.{sum_ways, ways_stand}
use Rattle.fm_paths.proofs.Cheapest.{crossed_member}
use Rattle.fm_paths.proofs.Feasible.{counted_room}
use Rattle.fm_paths.proofs.Listed.{found_from, is_found, found_same, fused, rows_rise}
use Rattle.fm_paths.proofs.Going.{is_request, going, f_rises, units_are, stands, going_is, found_at}
use Rattle.fm_paths.proofs.Orders.{times, one_order}
use Rattle.fm_paths.proofs.Seats.{seats_never_fall, mapped_never_fall, paired_with}

no_some : {A P : Type 0} {a : A} → None ≡ Some a → P
no_some e = absurd (let no : ⊥ = cc in no)

-- the machine that a way asks for
abbrev pub machine_in : Way → ℕ
machine_in (ToJob j) = 0
machine_in (ByRequest r m) = m
machine_in (Straight m) = m

asks_is : (r : ℕ) (w : Way) → is_request r (first_node w) ≡ true → w ≡ ByRequest r (machine_in w)
asks_is r (ToJob j) e = absurd (let no : ⊥ = cc in no)
asks_is r (ByRequest q m) e = ap (λ x. ByRequest x m) (eqb-true q r e)
asks_is r (Straight m) e = absurd (let no : ⊥ = cc in no)

asked_is : (r m t : ℕ) (w : Way) → goes_by r m (t, w) ≡ (is_request r (first_node w) && (machine_in w == m))
asked_is r m t (ToJob j) = refl
asked_is r m t (ByRequest q p) = refl
asked_is r m t (Straight p) = refl

-- what a walk over the arcs finds of a request's tasks
wait_going : (r : ℕ) (e : (Node × Node) × ℕ) → and_then (λ (w : Wait). when (w.request == r) w.task) (wait_in e) ≡ going (is_request r) e
wait_going r ((Task t, Request q), u) = elim (nat_lt 0 u) as (λ c. and_then (λ (w : Wait). when (w.request == r) w.task) (when c (record { request = q; task = t })) ≡ when (c && (q == r)) t) [ true ↦ refl | false ↦ refl ]
wait_going r ((Task t, Sink), u) = elim (nat_lt 0 u) as (λ c. None ≡ when (c && false) t) [ true ↦ refl | false ↦ refl ]
wait_going r ((Task t, Unscheduled j), u) = elim (nat_lt 0 u) as (λ c. None ≡ when (c && false) t) [ true ↦ refl | false ↦ refl ]
wait_going r ((Task t, Machine m), u) = elim (nat_lt 0 u) as (λ c. None ≡ when (c && false) t) [ true ↦ refl | false ↦ refl ]
wait_going r ((Task t, Task s), u) = elim (nat_lt 0 u) as (λ c. None ≡ when (c && false) t) [ true ↦ refl | false ↦ refl ]
wait_going r ((Sink, n), u) = refl
wait_going r ((Unscheduled j, n), u) = refl
wait_going r ((Request q, n), u) = refl
wait_going r ((Machine m, n), u) = refl

module _ (k : Table) (way : ℕ → Way) (can_be : CanBe k) (can : CanBeNet (net_of k)) (fit : Fit k way) (in_turn : InTurn k way) where
  abbrev sent : Node → Node → ℕ
  sent = units_of (ways_of k way)

  abbrev f : ArcUnits
  f = units_over (net_of k) sent

  abbrev machine_of : ℕ → ℕ
  machine_of t = machine_in (way t)

  abbrev ws : List Wait
  ws = waits f

  tasks_are : (r : ℕ) → tasks_of r ws ≡ goers k way (is_request r)
  tasks_are r =
      fused wait_in (λ (w : Wait). when (w.request == r) w.task) f
      ∙ found_same (λ e. and_then (λ (w : Wait). when (w.request == r) w.task) (wait_in e)) (going (is_request r)) f (λ e _. wait_going r e)
      ∙ going_is k way can_be can fit.may (is_request r)

  -- of an arc that does not stand no way has need
  units_is : (from to : Node) → units f from to ≡ sent from to
  units_is from to =
      elim (lookup ends_cmp (from, to) f) as (λ o. lookup ends_cmp (from, to) f ≡ o → or_else 0 o ≡ sent from to) [
        | Some u ↦ λ e. sym (units_are k way can_be can fit.may ((from, to), u) (entry_member ends_cmp ends_exact (from, to) u f e))
        | None ↦ λ e. elim (cases_lt 0 (sent from to)) [
          | inl some ↦
              let arc = ways_stand k way fit.may (from, to) (crossed_member (from, to) (flat_map path_arcs (ways_of k way)) some) in
              let there = stands k way can_be can fit.may from to arc.0 (sym ((is_network_of k).each_arc from to) ∙ arc.1) in
              no_some (sym e ∙ member_lookup ends_cmp ends_total ends_exact ((from, to), sent from to) f (f_rises k way can_be can fit.may) there)
          | inr none ↦ omega arith
        ]
      ] refl

  asked_live : (r t : ℕ) → IsMember t (goers k way (is_request r)) → (is_live k t ≡ true) × (way t ≡ ByRequest r (machine_of t))
  asked_live r t m =
      let e = found_from (goer k way (is_request r)) t k.tasks m in
      let test = is_live k e.0.0 && is_request r (first_node (way e.0.0)) in
      let same = when_value test e.0.0 t e.2 in
      let both = both_true (is_live k e.0.0) (is_request r (first_node (way e.0.0))) (when_is_true test e.0.0 t e.2) in
      (subst (λ x. is_live k x ≡ true) same both.0, subst (λ x. way x ≡ ByRequest r (machine_of x)) same (asks_is r (way e.0.0) both.1))

  counted : (r m : ℕ) (es : List (ℕ × TaskValue)) → times m (map machine_of (filter_map (goer k way (is_request r)) es)) ≡ sum_by (λ e. cond (is_live k e.0) (cond (goes_by r m (e.0, way e.0)) 1 0) 0) es
  counted r m [] = refl
  counted r m (e ∷ es) =
      let rest = counted r m es in
      let found = filter_map (goer k way (is_request r)) es in
      let one : cond {A = ℕ} (is_live k e.0) (cond (goes_by r m (e.0, way e.0)) 1 0) 0 ≡ cond (is_live k e.0) (cond (is_request r (first_node (way e.0)) && (machine_of e.0 == m)) 1 0) 0 = ap (λ b. cond {A = ℕ} (is_live k e.0) (cond b 1 0) 0) (asked_is r m e.0 (way e.0)) in
      let now : times m (map machine_of (cons_option (goer k way (is_request r) e) found)) ≡ cond (is_live k e.0) (cond (is_request r (first_node (way e.0)) && (machine_of e.0 == m)) 1 0) 0 + times m (map machine_of found) =
      elim (is_live k e.0) as (λ b. times m (map machine_of (cons_option (when (b && is_request r (first_node (way e.0))) e.0) found)) ≡ cond b (cond (is_request r (first_node (way e.0)) && (machine_of e.0 == m)) 1 0) 0 + times m (map machine_of found)) [
        | true ↦ elim (is_request r (first_node (way e.0))) as (λ b. times m (map machine_of (cons_option (when b e.0) found)) ≡ cond (b && (machine_of e.0 == m)) 1 0 + times m (map machine_of found)) [
          | true ↦ sum_by-cons (λ x. cond (x == m) 1 0) (machine_of e.0) (map machine_of found)
          | false ↦ omega arith
        ]
        | false ↦ omega arith
      ] in
      omega (arith, sum_by-cons (λ (x : ℕ × TaskValue). cond (is_live k x.0) (cond (goes_by r m (x.0, way x.0)) 1 0) 0) e es)

  seats_are : (r : ℕ) → machines_of r (seats f) ≡ map machine_of (goers k way (is_request r))
  seats_are r =
      one_order (machines_of r (seats f)) (map machine_of (goers k way (is_request r)))
      (seats_never_fall r f (f_rises k way can_be can fit.may))
      (mapped_never_fall machine_of (goers k way (is_request r))
      (rows_rise (goer k way (is_request r)) (λ e t is. when_value (is_live k e.0 && is_request r (first_node (way e.0))) e.0 t is) k.tasks can_be.table.tasks.rising)
      (λ t u m n less. let a = asked_live r t m in let b = asked_live r u n in in_turn t u r (machine_of t) (machine_of u) a.0 b.0 a.1 b.1 less))
      (λ m.
      seats_counted r m f (f_rises k way can_be can fit.may)
      ∙ units_is (Request r) (Machine m)
      ∙ counted_room k way can_be can fit r m
      ∙ sum_ways k way (λ w. cond (goes_by r m w) 1 0)
      ∙ sym (counted r m k.tasks))

  machine_is : (t r m : ℕ) → is_live k t ≡ true → way t ≡ ByRequest r m → IsMember t (goers k way (is_request r)) → machine_for ws (seats f) (record { request = r; task = t }) ≡ Some m
  machine_is t r m live is member =
      (λ i. lookup nat_cmp t (zip (tasks_are r i) (seats_are r i)))
      ∙ paired_with machine_of t (goers k way (is_request r)) member
      ∙ ap (λ (w : Way). Some (machine_in w)) is

  -- a task's place, from the arc of its unit
  place_request : (t r : ℕ) → is_live k t ≡ true → (w : Way) → way t ≡ w → first_node w ≡ Request r → IsMember t (goers k way (is_request r)) → place_of ws (seats f) k (record { request = r; task = t }) ≡ place_way k t w
  place_request t r live (ToJob j) is first member = absurd (let no : ⊥ = cc in no)
  place_request t r live (ByRequest q m) is first member =
      let same : q ≡ r = cc in
      ap (and_then (place_at k t)) (machine_is t r m live (is ∙ ap (λ x. ByRequest x m) same) member)
  place_request t r live (Straight m) is first member = absurd (let no : ⊥ = cc in no)

  place_machine : (t m : ℕ) (w : Way) → first_node w ≡ Machine m → cond (not (is_held k t)) (place_at k t m) None ≡ place_way k t w
  place_machine t m (ToJob j) first = absurd (let no : ⊥ = cc in no)
  place_machine t m (ByRequest q p) first = absurd (let no : ⊥ = cc in no)
  place_machine t m (Straight p) first =
      let same : p ≡ m = cc in
      elim (is_held k t) as (λ b. cond (not b) (place_at k t m) None ≡ cond b None (place_at k t p)) [ true ↦ refl | false ↦ ap (place_at k t) (sym same) ]

  abbrev place : ℕ → Option Place
  place t = place_way k t (way t)

  placed_request : (t r u : ℕ) → IsMember ((Task t, Request r), u) f → (c : Bool) → nat_lt 0 u ≡ c → and_then (place_of ws (seats f) k) (when c (record { request = r; task = t })) ≡ and_then place (when (c && true) t)
  placed_request t r u m true e =
      let own : (r == r) ≡ true = eq-eqb r r refl in
      let is : going (is_request r) ((Task t, Request r), u) ≡ Some t = (λ i. when (e i && own i) t) in
      let found = found_at k way can_be can fit.may (is_request r) ((Task t, Request r), u) t m is in
      let first : first_node (way t) ≡ Request r = ap (λ (x : Node × Node). x.1) (sym found.ends) in
      let member = subst (λ xs. IsMember t xs) (going_is k way can_be can fit.may (is_request r)) (is_found (going (is_request r)) ((Task t, Request r), u) t f m is) in
      place_request t r found.live (way t) refl first member
  placed_request t r u m false e = refl

  placed_machine : (t q u : ℕ) → IsMember ((Task t, Machine q), u) f → (c : Bool) → nat_lt 0 u ≡ c → cond (c && not (is_held k t)) (place_at k t q) None ≡ and_then place (when (c && true) t)
  placed_machine t q u m true e =
      let is : going is_run ((Task t, Machine q), u) ≡ Some t = (λ i. when (e i && true) t) in
      let found = found_at k way can_be can fit.may is_run ((Task t, Machine q), u) t m is in
      place_machine t q (way t) (ap (λ (x : Node × Node). x.1) (sym found.ends))
  placed_machine t q u m false e = refl

  no_place : (t : ℕ) (c : Bool) → None ≡ and_then place (when (c && false) t)
  no_place t true = refl
  no_place t false = refl

  placed_is : (e : (Node × Node) × ℕ) → IsMember e f → place_in_plan ws (seats f) k e ≡ and_then place (going is_run e)
  placed_is ((Task t, Request r), u) m = placed_request t r u m (nat_lt 0 u) refl
  placed_is ((Task t, Machine q), u) m = placed_machine t q u m (nat_lt 0 u) refl
  placed_is ((Task t, Sink), u) m = no_place t (nat_lt 0 u)
  placed_is ((Task t, Unscheduled j), u) m = no_place t (nat_lt 0 u)
  placed_is ((Task t, Task s), u) m = no_place t (nat_lt 0 u)
  placed_is ((Sink, n), u) m = refl
  placed_is ((Unscheduled j, n), u) m = refl
  placed_is ((Request q, n), u) m = refl
  placed_is ((Machine q, n), u) m = refl

  pub places_are : (plan_of_flow f k).places ≡ places_of_ways k way
  places_are =
      found_same (place_in_plan ws (seats f) k) (λ e. and_then place (going is_run e)) f placed_is
      ∙ sym (fused (going is_run) place f)
      ∙ ap (filter_map place) (going_is k way can_be can fit.may is_run)
