-- What a flow in order says of the tasks and the seats of a request.
use Rattle.std.proofs.Common.{◌≡◌, ◌↔◌, ℕ, ◌+◌, ◌<◌, zero, suc, Bool, true, false, cond, List, [], ◌∷◌, ◌++◌, Option, Some, None, refl, sym, ◌∙◌, ap, subst, arith, inl, inr, eq-eqb}
use Rattle.std.specs.Prelude.{◌==◌, ◌&&◌, nat_lt, count_by, replicate}
use Rattle.std.specs.List.{cons_option}
use Rattle.std.specs.Ordering.{is_eq}
use Rattle.std.specs.Cmp.{Equal-is}
use Rattle.std.proofs.lemmas.Bool.{eqb-true, ltb-true, ltb-false}
use Rattle.std.proofs.lemmas.Cmp.{tied_itself}
use Rattle.std.proofs.lemmas.List.Elements.{filter_map-append}
use Rattle.std.proofs.lemmas.List.Sums.{sum_by-append, sum_by-cons}
use Rattle.fm_lattice.specs.Maps.{lookup, IsBelow, IsRising}
use Rattle.fm_lattice.specs.laws.MapLaws.{lookup_below}
use Rattle.fm_net.specs.declared.node.Node.{Node}
use Rattle.fm_net.specs.declared.node.Node.TheVariants.{Task, Request, Machine}
use Rattle.fm_net.specs.Nodes.{ends_cmp}
use Rattle.fm_net.specs.laws.NodeOrder.{ends_total, ends_exact}
use Rattle.fm_records.specs.Options.{when, or_else}
use Rattle.fm_records.specs.Sets.{IsMember}
use Rattle.fm_round.specs.declared.from_units.RequestUnit.{RequestUnit}
use Rattle.fm_round.specs.PlanOfFlow.{Wait, ArcUnits, units, wait_in, seats_in, waits, seats, tasks_of, machines_of}
use Rattle.fm_round.proofs.Pairing.{wait_is}

impossible : {A : Type 0} → 0 < 0 → A
impossible h = let no : ⊥ = omega (arith, h) in absurd no

and_true : (a b : Bool) → a && b ≡ true → (a ≡ true) × (b ≡ true)
and_true true b e = (refl, e)
and_true false b e = let no : ⊥ = cc in absurd no

-- the ends of an arc that is found
found_ends : (q p : Node × Node) → is_eq (ends_cmp q p) ≡ true → p ≡ q
found_ends q p tie = sym (ends_exact q p ((Equal-is (ends_cmp q p)).0 tie))

tie_itself : (q p : Node × Node) → p ≡ q → is_eq (ends_cmp q p) ≡ true
tie_itself q p same = subst (λ z. is_eq (ends_cmp q z) ≡ true) (sym same) (ap is_eq (tied_itself ends_total q))

none_later : (q p : Node × Node) (f : ArcUnits) → p ≡ q → IsBelow ends_cmp p f → or_else 0 (lookup ends_cmp q f) ≡ 0
none_later q p f same below = ap (or_else 0) (lookup_below ends_cmp ends_total ends_exact q f (subst (λ z. IsBelow ends_cmp z f) same below))

module _ (r t : ℕ) where
  abbrev to_request : Node × Node
  to_request = (Task t, Request r)

  abbrev IsFound : Option Wait → ArcUnits → ℕ → Type 0
  IsFound o f n = IsMember t (tasks_of r (cons_option o (waits f))) ↔ (0 < n)

  first_wait : (u : ℕ) (f : ArcUnits) → (IsMember t (tasks_of r (waits f)) → ⊥) → IsFound (wait_in (to_request, u)) f u
  first_wait u f rest =
      let w : Wait = record { request = r; task = t } in
      let own : (r == r) ≡ true = eq-eqb r r refl in
      elim (nat_lt 0 u) as (λ c. nat_lt 0 u ≡ c → IsFound (when c w) f u) [
        | true ↦ λ e. (λ _. ltb-true 0 u e, λ _. subst (λ c. IsMember t (cons_option (when c t) (tasks_of r (waits f)))) (sym own) (inl refl))
        | false ↦ λ e. (λ member. absurd (rest member), λ more. let none = ltb-false 0 u e in let no : ⊥ = omega (arith, none, more) in absurd no)
      ] refl

  later_wait : (o : Option Wait) (f : ArcUnits) (n : ℕ) → ((w : Wait) → o ≡ Some w → w.request ≡ r → w.task ≡ t → ⊥) → (IsMember t (tasks_of r (waits f)) ↔ (0 < n)) → IsFound o f n
  later_wait None f n other rest = rest
  later_wait (Some w) f n other rest =
      elim (w.request == r) as (λ c. (w.request == r) ≡ c → IsMember t (cons_option (when c w.task) (tasks_of r (waits f))) ↔ (0 < n)) [
        | true ↦ λ e. (λ member. elim member [ inl same ↦ absurd (other w refl (eqb-true w.request r e) same) | inr later ↦ rest.0 later ], λ more. inr (rest.1 more))
        | false ↦ λ _. rest
      ] refl

  pub waits_found : (f : ArcUnits) → IsRising ends_cmp f → IsMember t (tasks_of r (waits f)) ↔ (0 < units f (Task t) (Request r))
  waits_found [] rising = (λ h. absurd h, λ h. impossible h)
  waits_found (e ∷ f) rising =
      let rest = waits_found f rising.1 in
      elim (is_eq (ends_cmp to_request e.0)) as (λ b. is_eq (ends_cmp to_request e.0) ≡ b → IsFound (wait_in e) f (or_else 0 (cond b (Some e.1) (lookup ends_cmp to_request f)))) [
        | true ↦ λ tie.
            let same = found_ends to_request e.0 tie in
            let none = none_later to_request e.0 f same rising.0 in
            subst (λ q. IsFound (wait_in (q, e.1)) f e.1) (sym same) (first_wait e.1 f (λ member. let more = rest.0 member in let no : ⊥ = omega (arith, none, more) in no))
        | false ↦ λ apart. later_wait (wait_in e) f (units f (Task t) (Request r)) (λ w found request task.
            let ends : e.0 ≡ to_request = wait_is e w found ∙ (λ i. (Task (task i), Request (request i))) in
            let tie = tie_itself to_request e.0 ends in
            let no : ⊥ = cc in no) rest
      ] refl

module _ (r m : ℕ) where
  abbrev to_machine : Node × Node
  to_machine = (Request r, Machine m)

  abbrev times : List ℕ → ℕ
  times ms = count_by (λ x. x == m) ms

  times_both : (xs ys : List ℕ) → times (xs ++ ys) ≡ times xs + times ys
  times_both xs ys = sum_by-append (λ x. cond (x == m) 1 0) xs ys

  one_seat : (s : RequestUnit) (b : Bool) (ss : List RequestUnit) → (s.request == r && s.machine == m) ≡ b → times (machines_of r (s ∷ ss)) ≡ cond b 1 0 + times (machines_of r ss)
  one_seat s b ss e =
      elim (s.request == r) as (λ c. (c && s.machine == m) ≡ b → times (cons_option (when c s.machine) (machines_of r ss)) ≡ cond b 1 0 + times (machines_of r ss)) [
        | true ↦ λ h. sum_by-cons (λ x. cond (x == m) 1 0) s.machine (machines_of r ss) ∙ ap (λ c. cond c 1 0 + times (machines_of r ss)) h
        | false ↦ λ h. omega arith ∙ ap (λ c. cond c 1 0 + times (machines_of r ss)) h
      ] e

  all_seats : (s : RequestUnit) (u : ℕ) → (s.request == r && s.machine == m) ≡ true → times (machines_of r (replicate u s)) ≡ u
  all_seats s zero e = refl
  all_seats s (suc u) e = let rest = all_seats s u e in one_seat s true (replicate u s) e ∙ omega (arith, rest)

  no_seats : (s : RequestUnit) (u : ℕ) → (s.request == r && s.machine == m) ≡ false → times (machines_of r (replicate u s)) ≡ 0
  no_seats s zero e = refl
  no_seats s (suc u) e = let rest = no_seats s u e in one_seat s false (replicate u s) e ∙ omega (arith, rest)

  other_seats : (e : (Node × Node) × ℕ) → (e.0 ≡ to_machine → ⊥) → times (machines_of r (seats_in e)) ≡ 0
  other_seats ((Request q, Machine n), u) other =
      no_seats (record { request = q; machine = n }) u (elim (q == r && n == m) as (λ b. (q == r && n == m) ≡ b → b ≡ false) [
        | true ↦ λ h. let both = and_true (q == r) (n == m) h in absurd (other (λ i. (Request (eqb-true q r both.0 i), Machine (eqb-true n m both.1 i))))
        | false ↦ λ _. refl
      ] refl)
  other_seats _ other = refl

  own_seats : (u : ℕ) → times (machines_of r (seats_in (to_machine, u))) ≡ u
  own_seats u = all_seats (record { request = r; machine = m }) u (let a : (r == r) ≡ true = eq-eqb r r refl in let b : (m == m) ≡ true = eq-eqb m m refl in rw (a, b) refl)

  pub seats_counted : (f : ArcUnits) → IsRising ends_cmp f → times (machines_of r (seats f)) ≡ units f (Request r) (Machine m)
  seats_counted [] rising = refl
  seats_counted (e ∷ f) rising =
      let rest = seats_counted f rising.1 in
      let split = ap times (filter_map-append (λ s. when (s.request == r) s.machine) (seats_in e) (seats f)) ∙ times_both (machines_of r (seats_in e)) (machines_of r (seats f)) in
      split ∙ (elim (is_eq (ends_cmp to_machine e.0)) as (λ b. is_eq (ends_cmp to_machine e.0) ≡ b → times (machines_of r (seats_in e)) + times (machines_of r (seats f)) ≡ or_else 0 (cond b (Some e.1) (lookup ends_cmp to_machine f))) [
        | true ↦ λ tie.
            let same = found_ends to_machine e.0 tie in
            let none = none_later to_machine e.0 f same rising.0 in
            let own : times (machines_of r (seats_in e)) ≡ e.1 = subst (λ q. times (machines_of r (seats_in (q, e.1))) ≡ e.1) (sym same) (own_seats e.1) in
            omega (arith, own, rest, none)
        | false ↦ λ apart.
            let other = other_seats e (λ same. let tie = tie_itself to_machine e.0 same in let no : ⊥ = cc in no) in
            omega (arith, other, rest)
      ] refl)
