-- Tasks and seats of a request, paired by number.
use Rattle.std.proofs.Common.{◌≡◌, ℕ, ◌+◌, zero, suc, Bool, true, false, cond, List, [], ◌∷◌, ◌++◌, Option, Some, None, refl, sym, ◌∙◌, ap, subst, length, drop, inl, inr, eq-eqb, length-append}
use Rattle.std.specs.Prelude.{◌==◌, nat_lt, zip, option_to_list}
use Rattle.std.specs.List.{filter_map, cons_option, slice_get}
use Rattle.std.specs.Ordering.{nat_cmp, is_eq}
use Rattle.std.specs.Cmp.{nat_cmp_total, Equal-is}
use Rattle.std.specs.declared.cmp.Ordering.TheVariants.{Less, Equal}
use Rattle.std.proofs.lemmas.Bool.{eqb-true}
use Rattle.std.proofs.lemmas.Cmp.{tied_itself}
use Rattle.std.proofs.lemmas.List.{drop-drop}
use Rattle.std.proofs.lemmas.List.Elements.{filter_map-append}
use Rattle.fm_lattice.specs.laws.ChainLaws.{nat_same}
use Rattle.fm_lattice.specs.Maps.{lookup, IsBelow, IsRising}
use Rattle.fm_net.specs.declared.node.Node.{Node}
use Rattle.fm_net.specs.declared.node.Node.TheVariants.{Task, Request, Machine}
use Rattle.fm_net.specs.Nodes.{ends_cmp}
use Rattle.fm_net.specs.laws.NodeOrder.{ends_total}
use Rattle.fm_records.specs.Options.{when, and_then}
use Rattle.fm_records.specs.Sets.{IsMember}
use Rattle.fm_records.specs.Table.{Table}
use Rattle.fm_round.specs.declared.from_units.RequestUnit.{RequestUnit}
use Rattle.fm_round.specs.PlanOfFlow.{Wait, ArcUnits, wait_in, waits, tasks_of, machines_of, machine_for, place_at, place_of, place_in_plan}
use Rattle.fm_round.specs.inner.UnitQueues.{placed_next, HasNoRepeat}

-- one more
pub mapped_more : {A B : Type 0} (f : A → Option B) (xs : List A) (x : A) → filter_map f (xs ++ x ∷ []) ≡ filter_map f xs ++ option_to_list (f x)
mapped_more f [] x = elim (f x) as (λ o. cons_option o [] ≡ option_to_list o) [ None ↦ refl | Some b ↦ refl ]
mapped_more f (y ∷ xs) x = let rest = mapped_more f xs x in elim (f y) as (λ o. cons_option o (filter_map f (xs ++ x ∷ [])) ≡ cons_option o (filter_map f xs) ++ option_to_list (f x)) [ None ↦ rest | Some b ↦ ap (λ z. b ∷ z) rest ]

-- the first that is left behind so many
pub first_left : {A : Type 0} (n : ℕ) (xs : List A) → slice_get (drop n xs) 0 ≡ slice_get xs n
first_left zero xs = refl
first_left (suc n) [] = refl
first_left (suc n) (x ∷ xs) = first_left n xs

member_behind : (w : Wait) (before after : List Wait) → IsMember w (before ++ w ∷ after)
member_behind w [] after = inl refl
member_behind w (x ∷ before) after = inr (member_behind w before after)

other_task : (t u : ℕ) → (t ≡ u → ⊥) → is_eq (nat_cmp t u) ≡ false
other_task t u other = elim (is_eq (nat_cmp t u)) as (λ b. is_eq (nat_cmp t u) ≡ b → b ≡ false) [ true ↦ λ e. absurd (other (nat_same t u ((Equal-is (nat_cmp t u)).0 e))) | false ↦ λ _. refl ] refl

first_pair : (t : ℕ) (ts ms : List ℕ) → lookup nat_cmp t (zip (t ∷ ts) ms) ≡ slice_get ms 0
first_pair t ts [] = refl
first_pair t ts (m ∷ ms) = ap (λ b. cond b (Some m) (lookup nat_cmp t (zip ts ms))) (ap is_eq (tied_itself nat_cmp_total t))

next_pair : (t u n : ℕ) (ts ms : List ℕ) → (t ≡ u → ⊥) → ((xs : List ℕ) → lookup nat_cmp t (zip ts xs) ≡ slice_get xs n) → lookup nat_cmp t (zip (u ∷ ts) ms) ≡ slice_get ms (suc n)
next_pair t u n ts [] other rest = refl
next_pair t u n ts (m ∷ ms) other rest = ap (λ b. cond b (Some m) (lookup nat_cmp t (zip ts ms))) (other_task t u other) ∙ rest ms

-- a task of a request is paired with the seat of its number
pub paired : (w : Wait) (before after : List Wait) (ms : List ℕ) → HasNoRepeat (before ++ w ∷ after) → lookup nat_cmp w.task (zip (tasks_of w.request (before ++ w ∷ after)) ms) ≡ slice_get ms (length (tasks_of w.request before))
paired w [] after ms apart =
    let own : (w.request == w.request) ≡ true = eq-eqb w.request w.request refl in
    ap (λ b. lookup nat_cmp w.task (zip (cons_option (when b w.task) (tasks_of w.request after)) ms)) own ∙ first_pair w.task (tasks_of w.request after) ms
paired w (x ∷ before) after ms apart =
    elim (x.request == w.request) as (λ b. (x.request == w.request) ≡ b → lookup nat_cmp w.task (zip (cons_option (when b x.task) (tasks_of w.request (before ++ w ∷ after))) ms) ≡ slice_get ms (length (cons_option (when b x.task) (tasks_of w.request before)))) [
      | true ↦ λ e.
          let request : x.request ≡ w.request = eqb-true x.request w.request e in
          next_pair w.task x.task (length (tasks_of w.request before)) (tasks_of w.request (before ++ w ∷ after)) ms
          (λ task. let same : w ≡ x = (λ i. record { request = sym request i; task = task i }) in apart.0 (subst (λ z. IsMember z (before ++ w ∷ after)) same (member_behind w before after)))
          (λ xs. paired w before after xs apart.1)
      | false ↦ λ _. paired w before after ms apart.1
    ] refl

module _ (left : ℕ → List ℕ) (ss : List RequestUnit) (k : Table) (before after : ArcUnits) (apart_left : (r : ℕ) → left r ≡ drop (length (tasks_of r (waits before))) (machines_of r ss)) where
  -- the first that is left is where the task's turn brings it
  pub placed_as : (a : (Node × Node) × ℕ) → HasNoRepeat (waits (before ++ a ∷ after)) → placed_next left k a ≡ place_in_plan (waits (before ++ a ∷ after)) ss k a
  placed_as ((Task t, Request r), u) apart =
      let w : Wait = record { request = r; task = t } in
      let all = waits (before ++ ((Task t, Request r), u) ∷ after) in
      elim (nat_lt 0 u) as (λ b. nat_lt 0 u ≡ b → and_then (λ x. and_then (place_at k x.task) (slice_get (left x.request) 0)) (when b w) ≡ and_then (place_of all ss k) (when b w)) [
        | true ↦ λ e.
            let split : all ≡ waits before ++ w ∷ waits after = filter_map-append wait_in before (((Task t, Request r), u) ∷ after) ∙ ap (λ b. waits before ++ cons_option (when b w) (waits after)) e in
            let pair = paired w (waits before) (waits after) (machines_of r ss) (subst HasNoRepeat split apart) in
            let first = ap (λ q. slice_get q 0) (apart_left r) ∙ first_left (length (tasks_of r (waits before))) (machines_of r ss) in
            ap (and_then (place_at k t)) (first ∙ sym (ap (λ z. machine_for z ss w) split ∙ pair))
        | false ↦ λ _. refl
      ] refl
  placed_as ((Task t, Machine m), u) apart = refl
  placed_as _ apart = refl

  -- and what is left after it
  pub left_behind : (a : (Node × Node) × ℕ) (r : ℕ) → drop (length (tasks_of r (option_to_list (wait_in a)))) (left r) ≡ drop (length (tasks_of r (waits (before ++ a ∷ [])))) (machines_of r ss)
  left_behind a r =
      let now : length (tasks_of r (waits (before ++ a ∷ []))) ≡ length (tasks_of r (waits before)) + length (tasks_of r (option_to_list (wait_in a))) =
      ap (λ z. length (tasks_of r z)) (mapped_more wait_in before a)
      ∙ ap length (filter_map-append (λ w. when (w.request == r) w.task) (waits before) (option_to_list (wait_in a)))
      ∙ length-append (tasks_of r (waits before)) (tasks_of r (option_to_list (wait_in a))) in
      ap (drop (length (tasks_of r (option_to_list (wait_in a))))) (apart_left r)
      ∙ drop-drop (length (tasks_of r (option_to_list (wait_in a)))) (length (tasks_of r (waits before))) (machines_of r ss)
      ∙ ap (λ n. drop n (machines_of r ss)) (sym now)

-- In a flow in order no task waits for a request twice.

wait_of : (b : Bool) (v w : Wait) → when b v ≡ Some w → v ≡ w
wait_of true v w e = cc
wait_of false v w e = absurd (let no : ⊥ = cc in no)

pub wait_is : (e : (Node × Node) × ℕ) (w : Wait) → wait_in e ≡ Some w → e.0 ≡ (Task w.task, Request w.request)
wait_is ((Task t, Request r), u) w e = ap (λ z. (Task z.task, Request z.request)) (wait_of _ (record { request = r; task = t }) w e)
wait_is _ w e = absurd (let no : ⊥ = cc in no)

not_later : (w : Wait) (q : Node × Node) (f : ArcUnits) → q ≡ (Task w.task, Request w.request) → IsBelow ends_cmp q f → IsMember w (waits f) → ⊥
not_later w q [] is below member = member
not_later w q (e ∷ f) is below member =
    elim (wait_in e) as (λ o. wait_in e ≡ o → IsMember w (cons_option o (waits f)) → ⊥) [
      | None ↦ λ _ later. not_later w q f is below.1 later
      | Some v ↦ λ found here. elim here [
        | inl same ↦
            let ends : e.0 ≡ q = wait_is e v found ∙ ap (λ z. (Task z.task, Request z.request)) same ∙ sym is in
            let itself : ends_cmp q e.0 ≡ Equal = subst (λ z. ends_cmp q z ≡ Equal) (sym ends) (tied_itself ends_total q) in
            let less : ends_cmp q e.0 ≡ Less = below.0 in
            let no : ⊥ = cc in no
        | inr later ↦ not_later w q f is below.1 later
      ]
    ] refl member

pub waits_apart : (f : ArcUnits) → IsRising ends_cmp f → HasNoRepeat (waits f)
waits_apart [] rising = tt
waits_apart (e ∷ f) rising =
    elim (wait_in e) as (λ o. wait_in e ≡ o → HasNoRepeat (cons_option o (waits f))) [
      | None ↦ λ _. waits_apart f rising.1
      | Some w ↦ λ found. (not_later w e.0 f (wait_is e w found) rising.0, waits_apart f rising.1)
    ] refl
