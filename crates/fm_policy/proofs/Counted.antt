-- Which jobs have live tasks and which requests wait, by a tally.
use Rattle.std.proofs.Common.{◌≡◌, ◌∙◌, ℕ, ◌+◌, ◌≤◌, Bool, true, false, cond, List, [], ◌∷◌, Option, Some, None, ◌↔◌, refl, sym, ap, subst, inl, inr, arith, eq-eqb}
use Rattle.std.specs.Prelude.{◌==◌, ◌&&◌, ◌||◌, not, count_by, option_map}
use Rattle.std.specs.List.{list_any, filter_map, cons_option}
use Rattle.std.specs.Ordering.{nat_cmp, is_eq}
use Rattle.std.specs.Cmp.{Equal-is, nat_cmp_total}
use Rattle.std.proofs.lemmas.Cmp.{tied_itself}
use Rattle.std.proofs.lemmas.List.Sums.{sum_by-cons}
use borrow.Author.Tests.{eqb-true}
use Rattle.fm_lattice.specs.laws.ChainLaws.{nat_same}
use Rattle.fm_records.specs.declared.records.SpecReg.{SpecReg}
use Rattle.fm_records.specs.Options.{and_then, passes}
use Rattle.fm_records.specs.Sets.{IsMember, rising}
use Rattle.fm_records.specs.Table.{Table, TaskValue}
use Rattle.fm_records.specs.Facts.{live_spec, holder_of, job_of}
use Rattle.fm_net.specs.declared.node.Node.TheVariants.{Unscheduled, Request}
use Rattle.fm_net.specs.Network.{is_node, is_held, is_live_of, waits_for, live_tasks}
use Rattle.fm_tally.specs.declared.tally.LiveTask.{LiveTask}
use Rattle.fm_tally.specs.Tallies.{task_at}
use Rattle.fm_tally.proofs.Held.{live_job, entry_of}
use Rattle.fm_tally.proofs.Rows.{rows}
use Rattle.fm_policy.specs.inner.Inputs.{request_unless_held, waiting_request}
use Rattle.fm_policy.proofs.Parts.{spec_tested}
use Rattle.fm_policy.proofs.Finished.{some_found, and_left}
use Rattle.fm_policy.proofs.Named.{has, has_rising}

-- something passes the test if some are counted, and some are counted if something does
pub counted_some : {A : Type 0} (p : A → Bool) (xs : List A) → 1 ≤ count_by p xs → list_any p xs ≡ true
counted_some p [] h = absurd (omega arith)
counted_some p (x ∷ xs) h =
    let split : count_by p (x ∷ xs) ≡ cond (p x) 1 0 + count_by p xs = sum_by-cons (λ y. cond (p y) 1 0) x xs in
    elim (p x) as (λ b. 1 ≤ cond b 1 0 + count_by p xs → b || list_any p xs ≡ true) [
      | true ↦ λ _. refl
      | false ↦ λ g. counted_some p xs (omega (arith, g))
    ] (subst (λ n. 1 ≤ n) split h)

pub some_counted : {A : Type 0} (p : A → Bool) (xs : List A) → list_any p xs ≡ true → 1 ≤ count_by p xs
some_counted p [] h = absurd (let no : ⊥ = cc in no)
some_counted p (x ∷ xs) h =
    let split : count_by p (x ∷ xs) ≡ cond (p x) 1 0 + count_by p xs = sum_by-cons (λ y. cond (p y) 1 0) x xs in
    subst (λ n. 1 ≤ n) (sym split) (elim (p x) as (λ b. b || list_any p xs ≡ true → 1 ≤ cond b 1 0 + count_by p xs) [
      | true ↦ λ _. omega arith
      | false ↦ λ g. let rest = some_counted p xs g in omega (arith, rest)
    ] h)

member_has : (r : ℕ) (xs : List ℕ) → IsMember r xs → has xs r ≡ true
member_has r [] m = absurd m
member_has r (x ∷ xs) m = elim m [
  | inl e ↦ subst (λ b. b || has xs r ≡ true) (sym (ap is_eq (ap (nat_cmp r) e ∙ tied_itself nat_cmp_total r))) refl
  | inr later ↦ elim (is_eq (nat_cmp r x)) as (λ b. b || has xs r ≡ true) [ true ↦ refl | false ↦ member_has r xs later ]
]

has_member : (r : ℕ) (xs : List ℕ) → has xs r ≡ true → IsMember r xs
has_member r [] h = absurd (let no : ⊥ = cc in no)
has_member r (x ∷ xs) h = elim (is_eq (nat_cmp r x)) as (λ b. is_eq (nat_cmp r x) ≡ b → b || has xs r ≡ true → IsMember r (x ∷ xs)) [
  | true ↦ λ same _. inl (sym (nat_same r x ((Equal-is (nat_cmp r x)).0 same)))
  | false ↦ λ _ rest. inr (has_member r xs rest)
] refl h

-- a task waits for its request alone
same_request : (r n : ℕ) → is_eq (nat_cmp r n) ≡ (n == r)
same_request r n =
    elim (is_eq (nat_cmp r n)) as (λ b. is_eq (nat_cmp r n) ≡ b → b ≡ (n == r)) [
      | true ↦ λ same. let is : n ≡ r = sym (nat_same r n ((Equal-is (nat_cmp r n)).0 same)) in sym (eq-eqb n r is)
      | false ↦ λ apart. elim (n == r) as (λ b. (n == r) ≡ b → false ≡ b) [
        | true ↦ λ e. let is : n ≡ r = eqb-true n r e in sym apart ∙ ap is_eq (ap (nat_cmp r) is ∙ tied_itself nat_cmp_total r)
        | false ↦ λ _. refl
      ] refl
    ] refl

and_true : (b : Bool) → b && true ≡ b
and_true true = refl
and_true false = refl

and_false : (b : Bool) → b && false ≡ false
and_false true = refl
and_false false = refl

waits_too : (r request : ℕ) (holder : Option ℕ) (xs : List ℕ) (rest : Bool) → has xs r ≡ rest → has (cons_option (request_unless_held request holder) xs) r ≡ ((request == r && not (passes (λ m. true) holder)) || rest)
waits_too r request None xs rest e = (λ i. same_request r request i || e i) ∙ sym (ap (λ b. b || rest) (and_true (request == r)))
waits_too r request (Some m) xs rest e = e ∙ sym (ap (λ b. b || rest) (and_false (request == r)))

module _ (k : Table) where
  module _ (r : ℕ) where
    one_waits : (t : ℕ) (later : List (ℕ × LiveTask)) (rest : Bool) → has (filter_map waiting_request later) r ≡ rest → (o : Option SpecReg) → live_spec k t ≡ o
        → has (filter_map waiting_request (cons_option (option_map (λ (l : LiveTask). (t, l)) (and_then (λ (s : SpecReg). option_map (entry_of k t s) (job_of k s.job)) o)) later)) r
        ≡ ((passes (λ (s : SpecReg). s.request == r) o && not (is_held k t)) || rest)
    one_waits t later rest e None is = e
    one_waits t later rest e (Some s) is =
        ap (λ o. has (filter_map waiting_request (cons_option (option_map (λ (l : LiveTask). (t, l)) (option_map (entry_of k t s) o)) later)) r) (live_job k t s is).1
        ∙ waits_too r s.request (holder_of k t) (filter_map waiting_request later) rest e

    named_waits : (es : List (ℕ × TaskValue)) → has (filter_map waiting_request (rows (task_at k) es)) r ≡ list_any (λ e. waits_for k r e.0) es
    named_waits [] = refl
    named_waits (e ∷ es) = one_waits e.0 (rows (task_at k) es) (list_any (λ e. waits_for k r e.0) es) (named_waits es) (live_spec k e.0) refl

    -- the requests that tasks of a tally wait for are those that are nodes
    pub requests_are : (tasks : List (ℕ × LiveTask)) → tasks ≡ rows (task_at k) k.tasks → (requests : List ℕ) → requests ≡ rising nat_cmp (filter_map waiting_request tasks)
        → IsMember r requests ↔ (is_node k (Request r) ≡ true)
    requests_are tasks rows_are requests is =
        let named : has requests r ≡ is_node k (Request r) = ap (λ xs. has xs r) is ∙ has_rising (filter_map waiting_request tasks) r ∙ ap (λ xs. has (filter_map waiting_request xs) r) rows_are ∙ named_waits k.tasks in
        ((λ m. sym named ∙ member_has r requests m), (λ h. has_member r requests (named ∙ h)))

  -- a request that is a node is that of a live task
  pub request_of_live : (r : ℕ) → is_node k (Request r) ≡ true → (t : ℕ) × (s : SpecReg) × (live_spec k t ≡ Some s) × (s.request ≡ r)
  request_of_live r h =
      let found = some_found (waits_for k r) k.tasks h in
      let live = spec_tested k (λ s. s.request == r) found.0 (and_left _ _ found.1) in
      (found.0, live.0, live.1, eqb-true live.0.request r live.2)

  -- a job with live tasks is a node, and known
  pub job_counted : (j : ℕ) → 1 ≤ live_tasks k j → is_node k (Unscheduled j) ≡ true
  job_counted j h = counted_some (λ e. is_live_of k j e.0) k.tasks h

  pub job_counts : (j : ℕ) → is_node k (Unscheduled j) ≡ true → 1 ≤ live_tasks k j
  job_counts j h = some_counted (λ e. is_live_of k j e.0) k.tasks h
