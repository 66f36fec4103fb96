-- The arcs that a plan does not rest on change nothing in it, and a walk tells which these are.
use Rattle.std.proofs.Common.{◌≡◌, ℕ, ◌<◌, Bool, true, false, cond, List, [], ◌∷◌, ◌++◌, Option, Some, None, refl, sym, ◌∙◌, ap, subst, arith, inl, inr, append_assoc, append-nil, eq-eqb}
use Rattle.std.specs.Prelude.{◌==◌, ◌&&◌, ◌||◌, not, nat_lt, filter, flat_map, map, replicate}
use Rattle.std.specs.List.{list_any, filter_map, cons_option}
use Rattle.std.specs.Ordering.{nat_cmp, ordering_then}
use Rattle.std.specs.Cmp.{nat_cmp_total, nat_cmp_is}
use Rattle.std.specs.declared.cmp.Ordering.{Ordering}
use Rattle.std.specs.declared.cmp.Ordering.TheVariants.{Less, Equal, Greater}
use Rattle.std.proofs.lemmas.Bool.{eqb-true, ltb-false}
use Rattle.std.proofs.lemmas.Cmp.{tied_itself}
use Rattle.fm_lattice.specs.Maps.{IsBelow, IsRising}
use Rattle.fm_records.specs.Options.{when, and_then, passes}
use Rattle.fm_records.specs.Sets.{IsMember}
use Rattle.fm_records.proofs.LookupLaws.{when_is_true, both_true}
use Rattle.fm_records.specs.Table.{Table}
use Rattle.fm_records.specs.Facts.{live_spec, holds}
use Rattle.fm_net.specs.declared.node.Node.{Node}
use Rattle.fm_net.specs.declared.node.Node.TheVariants.{Unscheduled, Request, Machine, Task}
use Rattle.fm_net.specs.Nodes.{ends_cmp}
use Rattle.fm_net.specs.laws.NodeOrder.{ends_total, ends_exact}
use Rattle.fm_net.specs.Net.{Net, arc_at}
use Rattle.fm_net.specs.Network.{is_held, waits_for, preferred_arc, arc_of, net_of}
use Rattle.fm_net.proofs.NetworkLaws.{came_from, is_network_of}
use Rattle.fm_net.proofs.ListLaws.{any_of, some_member, entry_member}
use Rattle.fm_net.proofs.EditLaws.{member_found}
use Rattle.fm_round.specs.declared.from_units.RequestUnit.{RequestUnit}
use Rattle.fm_round.specs.PlanOfFlow.{ArcUnits, Wait, units_over, wait_in, seats_in, unscheduled_in, waits, seats, place_at, place_of, place_in_plan, preempt_of, plan_of_flow}
use Rattle.fm_round.specs.inner.PlanArcs.{waits_by, has_request, is_asked, waiting_after, is_asked_after}

abbrev NetArc : Type 0
NetArc = (Node × Node) × (ℕ × ℕ)

-- Lists from which items are left out that come to nothing.

filtered : {A B : Type 0} (p : A → Bool) (f : A → Option B) (xs : List A) → ((x : A) → IsMember x xs → p x ≡ false → f x ≡ None) → filter_map f (filter p xs) ≡ filter_map f xs
filtered p f [] nothing = refl
filtered p f (x ∷ xs) nothing =
    let rest = filtered p f xs (λ y member. nothing y (inr member)) in
    elim (p x) as (λ b. p x ≡ b → filter_map f (cond b (x ∷ filter p xs) (filter p xs)) ≡ cons_option (f x) (filter_map f xs)) [
      | true ↦ λ _. ap (cons_option (f x)) rest
      | false ↦ λ no. rest ∙ sym (ap (λ o. cons_option o (filter_map f xs)) (nothing x (inl refl) no))
    ] refl

flattened : {A B : Type 0} (p : A → Bool) (f : A → List B) (xs : List A) → ((x : A) → IsMember x xs → p x ≡ false → f x ≡ []) → flat_map f (filter p xs) ≡ flat_map f xs
flattened p f [] nothing = refl
flattened p f (x ∷ xs) nothing =
    let rest = flattened p f xs (λ y member. nothing y (inr member)) in
    elim (p x) as (λ b. p x ≡ b → flat_map f (cond b (x ∷ filter p xs) (filter p xs)) ≡ f x ++ flat_map f xs) [
      | true ↦ λ _. ap (λ ys. f x ++ ys) rest
      | false ↦ λ no. rest ∙ sym (ap (λ ys. ys ++ flat_map f xs) (nothing x (inl refl) no))
    ] refl

member_over : (net : Net) (sent : Node → Node → ℕ) (arcs : List NetArc) (e : (Node × Node) × ℕ) → IsMember e (map (λ a. (a.0, sent a.0.0 a.0.1)) arcs) → (a : NetArc) × IsMember a arcs × (a.0 ≡ e.0)
member_over net sent [] e member = absurd member
member_over net sent (a ∷ arcs) e member = elim member [
  | inl is ↦ (a, inl refl, ap (λ x. x.0) is)
  | inr later ↦ let found = member_over net sent arcs e later in (found.0, inr found.1, found.2)
]

none_sent : (u : ℕ) → nat_lt 0 u ≡ false → u ≡ 0
none_sent u e = let no = ltb-false 0 u e in omega (arith, no)

no_seats : (s : RequestUnit) (u : ℕ) → nat_lt 0 u ≡ false → replicate u s ≡ []
no_seats s u e = ap (λ n. replicate n s) (none_sent u e)

-- Which tasks have an arc to a request.

task_waits : (t : ℕ) (ends : Node × Node) → waits_by t ends ≡ true → (r : ℕ) × (ends ≡ (Task t, Request r))
task_waits t (Task s, Request r) e = (r, ap (λ z. (Task z, Request r)) (eqb-true s t e))
task_waits t _ e = absurd (let no : ⊥ = cc in no)

module _ (k : Table) where
  in_net : (ends : Node × Node) (v : ℕ × ℕ) → IsMember (ends, v) (net_of k).arcs → arc_of k ends.0 ends.1 ≡ Some v
  in_net ends v member = sym ((is_network_of k).each_arc ends.0 ends.1) ∙ member_found ends_cmp ends_total ends_exact (ends, v) (net_of k).arcs (is_network_of k).arcs_rise member

  not_waiting : (t : ℕ) → is_held k t ≡ true → has_request (net_of k) t ≡ true → ⊥
  not_waiting t held has =
      let found = some_member (λ (a : NetArc). waits_by t a.0) (net_of k).arcs has in
      let ends = task_waits t found.0.0 found.2 in
      let arc : arc_of k (Task t) (Request ends.0) ≡ Some found.0.1 = subst (λ z. arc_of k z.0 z.1 ≡ Some found.0.1) ends.1 (in_net found.0.0 found.0.1 found.1) in
      let waits : waits_for k ends.0 t ≡ true = when_is_true (waits_for k ends.0 t) (1, 0) found.0.1 arc in
      let not_held : not true ≡ true = ap not (sym held) ∙ (both_true (passes (λ s. s.request == ends.0) (live_spec k t)) (not (is_held k t)) waits).1 in
      let no : ⊥ = cc in no

  waiting : (t m : ℕ) (v : ℕ × ℕ) → is_held k t ≡ false → IsMember ((Task t, Machine m), v) (net_of k).arcs → has_request (net_of k) t ≡ true
  waiting t m v free member =
      let straight : and_then (λ s. preferred_arc k s m) (live_spec k t) ≡ Some v = sym (ap (λ b. cond b (when (holds k m t) (1, 0)) (and_then (λ s. preferred_arc k s m) (live_spec k t))) free) ∙ in_net (Task t, Machine m) v member in
      let live = came_from (λ s. preferred_arc k s m) (live_spec k t) v straight in
      let r = live.0.request in
      let waits : waits_for k r t ≡ true = (λ i. passes (λ s. s.request == r) (live.1 i) && not (free i)) ∙ ap (λ b. b && true) (eq-eqb r r refl) in
      let stands : arc_at (net_of k) (Task t) (Request r) ≡ Some (1, 0) = (is_network_of k).each_arc (Task t) (Request r) ∙ ap (λ b. when b (1, 0)) waits in
      any_of (λ (a : NetArc). waits_by t a.0) ((Task t, Request r), (1, 0)) (net_of k).arcs (entry_member ends_cmp ends_exact (Task t, Request r) (1, 0) (net_of k).arcs stands) (eq-eqb t t refl)

  -- of tasks with an arc to a machine, those that are not held have one to their request
  has_is : (t m : ℕ) (v : ℕ × ℕ) → IsMember ((Task t, Machine m), v) (net_of k).arcs → has_request (net_of k) t ≡ not (is_held k t)
  has_is t m v member =
      elim (is_held k t) as (λ b. is_held k t ≡ b → has_request (net_of k) t ≡ not b) [
        | true ↦ λ held. elim (has_request (net_of k) t) as (λ c. has_request (net_of k) t ≡ c → c ≡ false) [ true ↦ λ has. absurd (not_waiting t held has) | false ↦ λ _. refl ] refl
        | false ↦ λ free. waiting t m v free member
      ] refl

module _ (k : Table) (sent : Node → Node → ℕ) where
  abbrev net : Net
  net = net_of k

  abbrev all : ArcUnits
  all = units_over net sent

  nobody_waits : (e : (Node × Node) × ℕ) → is_asked net e ≡ false → wait_in e ≡ None
  nobody_waits ((Task t, Request r), u) idle = let w : Wait = record { request = r; task = t } in ap (λ b. when b w) idle
  nobody_waits _ idle = refl

  no_seat : (e : (Node × Node) × ℕ) → is_asked net e ≡ false → seats_in e ≡ []
  no_seat ((Request r, Machine m), u) idle = no_seats (record { request = r; machine = m }) u idle
  no_seat _ idle = refl

  none_leaves : (e : (Node × Node) × ℕ) → is_asked net e ≡ false → unscheduled_in e ≡ None
  none_leaves ((Task t, Unscheduled j), u) idle = ap (λ b. when b t) idle
  none_leaves _ idle = refl

  nothing_placed : (ws : List Wait) (ss : List RequestUnit) (e : (Node × Node) × ℕ) → IsMember e all → is_asked net e ≡ false → place_in_plan ws ss k e ≡ None
  nothing_placed ws ss ((Task t, Request r), u) member idle = ap (and_then (place_of ws ss k)) (nobody_waits ((Task t, Request r), u) idle)
  nothing_placed ws ss ((Task t, Machine m), u) member idle =
      let found = member_over net sent net.arcs ((Task t, Machine m), u) member in
      let arc = subst (λ z. IsMember (z, found.0.1) net.arcs) found.2 found.1 in
      ap (λ b. cond b (place_at k t m) None) (ap (λ b. nat_lt 0 u && b) (sym (has_is k t m found.0.1 arc)) ∙ idle)
  nothing_placed ws ss _ member idle = refl

  -- the plan of the arcs that are asked for is that of all
  pub same_plan : plan_of_flow (filter (is_asked net) all) k ≡ plan_of_flow all k
  same_plan =
      let asked = filter (is_asked net) all in
      let w : waits asked ≡ waits all = filtered (is_asked net) wait_in all (λ e _. nobody_waits e) in
      let s : seats asked ≡ seats all = flattened (is_asked net) seats_in all (λ e _. no_seat e) in
      let places : filter_map (place_in_plan (waits asked) (seats asked) k) asked ≡ filter_map (place_in_plan (waits all) (seats all) k) all = (λ i. filter_map (place_in_plan (w i) (s i) k) asked) ∙ filtered (is_asked net) (place_in_plan (waits all) (seats all) k) all (nothing_placed (waits all) (seats all)) in
      let preempts = filtered (is_asked net) unscheduled_in all (λ e _. none_leaves e) in
      λ i. record { places = places i; preempts = filter_map (preempt_of k) (preempts i) }

-- The walk.

abbrev leaves : ℕ → Node × Node → Bool
leaves t (Task s, n) = s == t
leaves t _ = false

task_leaves : (t : ℕ) (ends : Node × Node) → leaves t ends ≡ true → (n : Node) × (ends ≡ (Task t, n))
task_leaves t (Task s, n) e = (n, ap (λ z. (Task z, n)) (eqb-true s t e))
task_leaves t _ e = absurd (let no : ⊥ = cc in no)

below_all : (ends : Node × Node) (a : NetArc) (arcs : List NetArc) → IsBelow ends_cmp ends arcs → IsMember a arcs → ends_cmp ends a.0 ≡ Less
below_all ends a [] below member = absurd member
below_all ends a (x ∷ arcs) below member = elim member [ inl is ↦ subst (λ (z : NetArc). ends_cmp ends z.0 ≡ Less) is below.0 | inr later ↦ below_all ends a arcs below.1 later ]

not_before : (s t : ℕ) (o : Ordering) → ordering_then (nat_cmp s t) o ≡ Less → t < s → ⊥
not_before s t o less before =
    let greater : nat_cmp s t ≡ Greater = sym (nat_cmp_is s t Greater before) in
    let both : Greater ≡ Less = sym (ap (λ c. ordering_then c o) greater) ∙ less in
    let no : ⊥ = cc in no

-- what is told of the arcs that are left in a walk over all
pub record IsWalk (arcs rest : List NetArc) (last : Option ℕ) : Type 0 where
  pub rising : IsRising ends_cmp rest
  pub told : (t : ℕ) → list_any (λ (a : NetArc). leaves t a.0) rest ≡ true → list_any (λ (a : NetArc). waits_by t a.0) arcs ≡ (passes (λ w. w == t) last || list_any (λ (a : NetArc). waits_by t a.0) rest)
  pub behind : (w : ℕ) → last ≡ Some w → (r : ℕ) × IsBelow ends_cmp (Task w, Request r) rest

pub walk_begins : (arcs : List NetArc) → IsRising ends_cmp arcs → IsWalk arcs arcs None
walk_begins arcs rising = record { rising = rising; told = λ t _. refl; behind = λ w e. absurd (let no : ⊥ = cc in no) }

or_true : (b : Bool) → b || true ≡ true
or_true true = refl
or_true false = refl

or_false : (b : Bool) → b || false ≡ b
or_false true = refl
or_false false = refl

later_true : (b c : Bool) → c ≡ true → b || c ≡ true
later_true true c e = refl
later_true false c e = e

is_last : (t : ℕ) (last : Option ℕ) → passes (λ w. w == t) last ≡ true → last ≡ Some t
is_last t None e = absurd (let no : ⊥ = cc in no)
is_last t (Some w) e = ap Some (eqb-true w t e)

module _ (arcs : List NetArc) (last : Option ℕ) where
  one_more : (t : ℕ) (ends : Node × Node) (x : Bool) → ((s r : ℕ) → ends ≡ (Task s, Request r) → (s == t) ≡ false → passes (λ w. w == t) last ≡ false) → (passes (λ w. w == t) last || (waits_by t ends || x)) ≡ (passes (λ w. w == t) (waiting_after last ends) || x)
  one_more t (Task s, Request r) x other =
      elim (s == t) as (λ b. (s == t) ≡ b → (passes (λ w. w == t) last || (b || x)) ≡ (b || x)) [
        | true ↦ λ _. or_true (passes (λ w. w == t) last)
        | false ↦ λ no. ap (λ b. b || x) (other s r refl no)
      ] refl
  one_more t _ x other = refl

  -- a task whose arcs are still to come is the last one, or no arc of it to a request came
  other_last : (t : ℕ) (a : NetArc) (rest : List NetArc) → IsWalk arcs (a ∷ rest) last → list_any (λ (b : NetArc). leaves t b.0) rest ≡ true → (s r : ℕ) → a.0 ≡ (Task s, Request r) → (s == t) ≡ false → passes (λ w. w == t) last ≡ false
  other_last t a rest walk to_come s r is apart =
      elim (passes (λ w. w == t) last) as (λ c. passes (λ w. w == t) last ≡ c → c ≡ false) [
        | true ↦ λ yes.
            let before = walk.behind t (is_last t last yes) in
            let found = some_member (λ (b : NetArc). leaves t b.0) rest to_come in
            let ends = task_leaves t found.0.0 found.2 in
            let up : ends_cmp (Task t, Request before.0) (Task s, Request r) ≡ Less = subst (λ z. ends_cmp (Task t, Request before.0) z ≡ Less) is before.1.0 in
            let down : ends_cmp (Task s, Request r) (Task t, ends.0) ≡ Less = (λ i. ends_cmp (sym is i) (sym ends.1 i)) ∙ below_all a.0 found.0 rest walk.rising.0 found.1 in
            let one = not_before t s _ up in
            let two = not_before s t _ down in
            let same : s ≡ t = omega (arith, one, two) in
            let yes : (s == t) ≡ true = eq-eqb s t same in
            absurd (let no : ⊥ = cc in no)
        | false ↦ λ _. refl
      ] refl

  behind_after : (a : NetArc) (rest : List NetArc) → IsWalk arcs (a ∷ rest) last → (ends : Node × Node) → a.0 ≡ ends → (w : ℕ) → waiting_after last ends ≡ Some w → (r : ℕ) × IsBelow ends_cmp (Task w, Request r) rest
  behind_after a rest walk (Task s, Request r) is w e = (r, let same : s ≡ w = cc in subst (λ z. IsBelow ends_cmp (Task z, Request r) rest) same (subst (λ z. IsBelow ends_cmp z rest) is walk.rising.0))
  behind_after a rest walk _ is w e = let before = walk.behind w e in (before.0, before.1.1)

  pub walk_on : (a : NetArc) (rest : List NetArc) → IsWalk arcs (a ∷ rest) last → IsWalk arcs rest (waiting_after last a.0)
  walk_on a rest walk = record {
    rising = walk.rising.1;
    told = λ t to_come. walk.told t (later_true (leaves t a.0) _ to_come) ∙ one_more t a.0 _ (other_last t a rest walk to_come);
    behind = behind_after a rest walk a.0 refl;
  }

  none_later : (t m : ℕ) (v : ℕ × ℕ) (rest : List NetArc) → IsBelow ends_cmp (Task t, Machine m) rest → list_any (λ (a : NetArc). waits_by t a.0) rest ≡ false
  none_later t m v rest below =
      elim (list_any (λ (a : NetArc). waits_by t a.0) rest) as (λ b. list_any (λ (a : NetArc). waits_by t a.0) rest ≡ b → b ≡ false) [
        | true ↦ λ some.
            let found = some_member (λ (a : NetArc). waits_by t a.0) rest some in
            let ends = task_waits t found.0.0 found.2 in
            let less : ends_cmp (Task t, Machine m) (Task t, Request ends.0) ≡ Less = ap (ends_cmp (Task t, Machine m)) (sym ends.1) ∙ below_all (Task t, Machine m) found.0 rest below found.1 in
            let tie : nat_cmp t t ≡ Equal = tied_itself nat_cmp_total t in
            let greater : Greater ≡ Less = sym (ap (λ o. ordering_then o Greater) tie) ∙ less in
            absurd (let no : ⊥ = cc in no)
        | false ↦ λ _. refl
      ] refl

  at_machine : (t m : ℕ) (v : ℕ × ℕ) (rest : List NetArc) → IsWalk arcs (((Task t, Machine m), v) ∷ rest) last → passes (λ w. w == t) last ≡ list_any (λ (a : NetArc). waits_by t a.0) arcs
  at_machine t m v rest walk =
      let own : (t == t) ≡ true = eq-eqb t t refl in
      let told = walk.told t (ap (λ b. b || list_any (λ (a : NetArc). leaves t a.0) rest) own) in
      sym (told ∙ ap (λ b. passes (λ w. w == t) last || b) (none_later t m v rest walk.rising.0) ∙ or_false (passes (λ w. w == t) last))

-- the walk asks for exactly the arcs that the plan rests on
pub asks_for : (network : Net) (last : Option ℕ) (a : NetArc) (rest : List NetArc) (u : ℕ) → IsWalk network.arcs (a ∷ rest) last → is_asked_after (waiting_after last a.0) (a.0, u) ≡ is_asked network (a.0, u)
asks_for network last ((Task t, Machine m), v) rest u walk = ap (λ b. nat_lt 0 u && b) (at_machine network.arcs last t m v rest walk)
asks_for network last _ rest u walk = refl

pub kept_one : {A : Type 0} (b : Bool) (xs : List A) (x : A) (ys : List A) → (xs ++ cond b (x ∷ []) []) ++ ys ≡ xs ++ cond b (x ∷ ys) ys
kept_one true xs x ys = append_assoc xs (x ∷ []) ys
kept_one false xs x ys = ap (λ zs. zs ++ ys) (append-nil xs)
