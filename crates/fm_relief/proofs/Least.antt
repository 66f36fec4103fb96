-- What is preempted is least, comes first, and leaves what fits.
use Rattle.std.proofs.Common.{◌≡◌, ℕ, ◌+◌, ◌<◌, ◌≤◌, Bool, true, false, cond, List, [], ◌∷◌, ◌++◌, refl, sym, ◌∙◌, ap, subst, arith, filter, append_assoc, inl, inr}
use Rattle.std.specs.Prelude.{sum_by}
use Rattle.std.specs.List.{IsDistinct}
use Rattle.std.proofs.lemmas.Bool.{ltb-true, ltb-false, lt-ltb}
use Rattle.std.proofs.lemmas.List.Sums.{sum_by-cons, sum_by-append, sum_by-le-sum_by}
use Rattle.std.specs.declared.cmp.Ordering.TheVariants.{Less}
use Rattle.fm_records.specs.Rising.{IsBelowAll, Rises}
use Rattle.fm_records.specs.Sets.{IsMember}
use Rattle.fm_net.proofs.ListLaws.{member_passing, passes_kept}
use Rattle.fm_relief.specs.declared.held_task.HeldTask.{HeldTask}
use Rattle.fm_relief.specs.Relief.{preempt_cmp, comes_before, put_before, ordered, requests_from, is_preempted, preempted, requests_left}
use Rattle.fm_relief.proofs.Orders.{AreApart, same_task, same_back, total, comes_first, is_less, before_is, member_all, ordered_in, ordered_from, rises_ordered}
use Rattle.fm_relief.proofs.Fronts.{all_requests, from_here}

-- Sums over the tasks in their order.

sum_put : (f : HeldTask → ℕ) (e : HeldTask) (xs : List HeldTask) → sum_by f (put_before e xs) ≡ f e + sum_by f xs
sum_put f e [] = sum_by-cons f e []
sum_put f e (x ∷ xs) = elim (comes_before e x) as (λ b. sum_by f (cond b (e ∷ x ∷ xs) (x ∷ put_before e xs)) ≡ f e + sum_by f (x ∷ xs)) [
  | true ↦ sum_by-cons f e (x ∷ xs)
  | false ↦ omega (arith, sum_by-cons f x (put_before e xs), sum_by-cons f x xs, sum_put f e xs)
]

sum_ordered : (f : HeldTask → ℕ) (xs : List HeldTask) → sum_by f (ordered xs) ≡ sum_by f xs
sum_ordered f [] = refl
sum_ordered f (x ∷ xs) = omega (arith, sum_put f x (ordered xs), sum_ordered f xs, sum_by-cons f x xs)

from_ordered : (es : List HeldTask) (e : HeldTask) → requests_from (ordered es) e ≡ requests_from es e
from_ordered es e = sum_ordered (λ (u : HeldTask). cond (comes_before u e) 0 u.request) es

-- what stays of some of the tasks, by a test
abbrev left_of : (HeldTask → Bool) → List HeldTask → ℕ
left_of p xs = sum_by (λ e. cond (p e) 0 e.request) xs

at_most : (p : HeldTask → Bool) (e : HeldTask) → cond (p e) 0 e.request ≤ e.request
at_most p e = elim (p e) as (λ b. cond b 0 e.request ≤ e.request) [ true ↦ omega arith | false ↦ omega arith ]

left_within : (p : HeldTask → Bool) (xs : List HeldTask) → left_of p xs ≤ all_requests xs
left_within p xs = sum_by-le-sum_by (λ (e : HeldTask). cond (p e) 0 e.request) (λ (e : HeldTask). e.request) xs (at_most p)

left_first : (p : HeldTask → Bool) (x : HeldTask) (xs : List HeldTask) → left_of p (x ∷ xs) ≡ cond (p x) 0 x.request + left_of p xs
left_first p x xs = sum_by-cons (λ (e : HeldTask). cond (p e) 0 e.request) x xs

kept_from : (p : HeldTask → Bool) (e : HeldTask) (xs : List HeldTask) → IsMember e (filter p xs) → IsMember e xs
kept_from p e [] m = absurd m
kept_from p e (x ∷ xs) m =
    let rest = kept_from p e xs in
    elim (p x) as (λ b. IsMember e (cond b (x ∷ filter p xs) (filter p xs)) → IsMember e (x ∷ xs)) [
      | true ↦ λ is. elim is [ inl it ↦ inl it | inr later ↦ inr (rest later) ]
      | false ↦ λ later. inr (rest later)
    ] m

both_tests : (P : Type 0) (b : Bool) → b ≡ true → b ≡ false → P
both_tests P b on off = absurd (let both : true ≡ false = sym on ∙ off in let none : ⊥ = cc in none)

-- where one task is twice, it is the same
one_of : (xs : List HeldTask) → AreApart xs → (u e : HeldTask) → IsMember u xs → IsMember e xs → same_task u e ≡ true → u ≡ e
unfolding IsDistinct
one_of [] alone u e m n same = absurd m
one_of (x ∷ xs) alone u e m n same = elim m [
  | inl is ↦ elim n [
    | inl it ↦ sym is ∙ it
    | inr later ↦
        let other : same_task x e ≡ false = member_all (λ y. same_task x y ≡ false) xs e alone.0 later in
        both_tests (u ≡ e) (same_task u e) same (subst (λ z. same_task z e ≡ false) is other)
  ]
  | inr early ↦ elim n [
    | inl it ↦
        let other : same_task x u ≡ false = member_all (λ y. same_task x y ≡ false) xs u alone.0 early in
        both_tests (u ≡ e) (same_task u e) same (same_back e u ∙ subst (λ z. same_task z u ≡ false) it other)
    | inr later ↦ one_of xs alone.1 u e early later same
  ]
]

-- The last of the tasks that pass a test.

record IsLast (p : HeldTask → Bool) (e : HeldTask) (xs : List HeldTask) : Type 0 where
  before : List HeldTask
  after : List HeldTask
  is : xs ≡ before ++ e ∷ after
  passes : p e ≡ true
  none : filter p after ≡ []

one_before : (p : HeldTask → Bool) (x e : HeldTask) (xs : List HeldTask) → IsLast p e xs → IsLast p e (x ∷ xs)
one_before p x e xs last = record { before = x ∷ last.before; after = last.after; is = ap (λ zs. x ∷ zs) last.is; passes = last.passes; none = last.none }

last_or_later : (p : HeldTask → Bool) (x e : HeldTask) (xs : List HeldTask) → ((ys : List HeldTask) → filter p xs ≡ ys ++ e ∷ [] → IsLast p e xs)
    → p x ≡ true → (ys : List HeldTask) → x ∷ filter p xs ≡ ys ++ e ∷ [] → IsLast p e (x ∷ xs)
last_or_later p x e xs later on [] found =
    let head : x ≡ e = cc in
    let rest : filter p xs ≡ [] = cc in
    record { before = []; after = xs; is = ap (λ z. z ∷ xs) head; passes = subst (λ z. p z ≡ true) head on; none = rest }
last_or_later p x e xs later on (y ∷ ys) found = let rest : filter p xs ≡ ys ++ e ∷ [] = cc in one_before p x e xs (later ys rest)

no_last : (ys : List HeldTask) (e : HeldTask) (P : Type 0) → [] ≡ ys ++ e ∷ [] → P
no_last [] e P is = absurd (let no : ⊥ = cc in no)
no_last (y ∷ ys) e P is = absurd (let no : ⊥ = cc in no)

last_of : (p : HeldTask → Bool) (e : HeldTask) (xs ys : List HeldTask) → filter p xs ≡ ys ++ e ∷ [] → IsLast p e xs
last_of p e [] ys found = no_last ys e (IsLast p e []) found
last_of p e (x ∷ xs) ys found =
    let rest = last_of p e xs in
    elim (p x) as (λ b. p x ≡ b → cond b (x ∷ filter p xs) (filter p xs) ≡ ys ++ e ∷ [] → IsLast p e (x ∷ xs)) [
      | true ↦ λ on g. last_or_later p x e xs rest on ys g
      | false ↦ λ _ g. one_before p x e xs (rest ys g)
    ] refl found

none_pass : (p : HeldTask → Bool) (xs : List HeldTask) → filter p xs ≡ [] → left_of p xs ≡ all_requests xs
none_pass p [] none = refl
none_pass p (x ∷ xs) none =
    let rest = none_pass p xs in
    elim (p x) as (λ b. p x ≡ b → cond b (x ∷ filter p xs) (filter p xs) ≡ [] → left_of p (x ∷ xs) ≡ all_requests (x ∷ xs)) [
      | true ↦ λ _ g. absurd (let no : ⊥ = cc in no)
      | false ↦ λ off g. left_first p x xs ∙ (λ i. cond (off i) 0 x.request + rest g i) ∙ sym (sum_by-cons (λ (e : HeldTask). e.request) x xs)
    ] refl none

left_behind : (p : HeldTask → Bool) (before : List HeldTask) (x : HeldTask) (xs : List HeldTask) → left_of p xs ≤ left_of p (before ++ x ∷ xs)
left_behind p before x xs =
    omega (arith, sum_by-append (λ (e : HeldTask). cond (p e) 0 e.request) before (x ∷ xs), left_first p x xs)

below_kept : (p : HeldTask → Bool) (x : HeldTask) (xs : List HeldTask) → IsBelowAll preempt_cmp x xs → IsBelowAll preempt_cmp x (filter p xs)
below_kept p x [] below = tt
below_kept p x (y ∷ ys) below =
    elim (p y) as (λ b. IsBelowAll preempt_cmp x (cond b (y ∷ filter p ys) (filter p ys))) [ true ↦ (below.0, below_kept p x ys below.1) | false ↦ below_kept p x ys below.1 ]

rises_kept : (p : HeldTask → Bool) (xs : List HeldTask) → Rises preempt_cmp xs → Rises preempt_cmp (filter p xs)
rises_kept p [] rises = tt
rises_kept p (x ∷ xs) rises =
    elim (p x) as (λ b. Rises preempt_cmp (cond b (x ∷ filter p xs) (filter p xs))) [ true ↦ (below_kept p x xs rises.0, rises_kept p xs rises.1) | false ↦ rises_kept p xs rises.1 ]

-- just the tasks that do not fit with those behind them
pub goes_from : (es : List HeldTask) (nic : ℕ) (e : HeldTask) → IsMember e (preempted es nic) → IsMember e es × (nic < requests_from es e)
goes_from es nic e is =
    (ordered_from es e (kept_from (is_preempted es nic) e (ordered es) is), ltb-true nic (requests_from es e) (passes_kept (is_preempted es nic) e (ordered es) is))

pub goes_in : (es : List HeldTask) (nic : ℕ) (e : HeldTask) → IsMember e es × (nic < requests_from es e) → IsMember e (preempted es nic)
goes_in es nic e is =
    member_passing (is_preempted es nic) e (ordered es) (ordered_in es e is.0) (lt-ltb nic (requests_from es e) is.1)

module _ (es : List HeldTask) (nic : ℕ) (alone : AreApart es) where
  -- the tasks in their order
  abbrev turns : List HeldTask
  turns = ordered es

  pub order_kept : Rises preempt_cmp (preempted es nic)
  order_kept = rises_kept (is_preempted es nic) turns (rises_ordered es alone)

  -- what a task and those behind it request
  from_place : (before xs : List HeldTask) (x : HeldTask) → turns ≡ before ++ x ∷ xs → requests_from es x ≡ all_requests (x ∷ xs)
  from_place before xs x is =
      sym (from_ordered es x) ∙ ap (λ ys. requests_from ys x) is ∙ from_here before x xs (subst (Rises preempt_cmp) is (rises_ordered es alone))

  left_along : (before xs : List HeldTask) → turns ≡ before ++ xs → left_of (is_preempted es nic) xs ≤ nic
  left_along before [] is = omega arith
  left_along before (x ∷ xs) is =
      let later = left_along (before ++ x ∷ []) xs (is ∙ sym (append_assoc before (x ∷ []) xs)) in
      let sums = left_first (is_preempted es nic) x xs in
      elim (is_preempted es nic x) as (λ b. is_preempted es nic x ≡ b → left_of (is_preempted es nic) (x ∷ xs) ≤ nic) [
        | true ↦ λ on.
            let none : cond (is_preempted es nic x) 0 x.request ≡ 0 = ap (λ b. cond b 0 x.request) on in
            omega (arith, sums, none, later)
        | false ↦ λ off.
            let fits : requests_from es x ≤ nic = ltb-false nic (requests_from es x) off in
            omega (arith, left_within (is_preempted es nic) (x ∷ xs), fits, from_place before xs x is)
      ] refl

  left_turns : left_of (is_preempted es nic) turns ≡ requests_left es nic
  left_turns = sum_ordered (λ (e : HeldTask). cond (is_preempted es nic e) 0 e.request) es

  pub fits : requests_left es nic ≤ nic
  fits = omega (arith, left_along [] turns refl, left_turns)

  pub least : (ys : List HeldTask) (e : HeldTask) → preempted es nic ≡ ys ++ e ∷ [] → nic < requests_left es nic + e.request
  least ys e is =
      let last = last_of (is_preempted es nic) e turns ys is in
      let over : nic < requests_from es e = ltb-true nic (requests_from es e) last.passes in
      let sums = from_place last.before last.after e last.is in
      let all = none_pass (is_preempted es nic) last.after last.none in
      let within = left_behind (is_preempted es nic) last.before e last.after in
      let whole : left_of (is_preempted es nic) turns ≡ left_of (is_preempted es nic) (last.before ++ e ∷ last.after) = ap (left_of (is_preempted es nic)) last.is in
      omega (arith, over, sums, all, within, whole, left_turns, sum_by-cons (λ (u : HeldTask). u.request) e last.after)

  -- Each before all that stay.

  one_less : (u e x : HeldTask) → preempt_cmp u e ≡ Less → cond (comes_before x e) 0 x.request ≤ cond (comes_before x u) 0 x.request
  one_less u e x less = elim (comes_before x u) as (λ b. comes_before x u ≡ b → cond (comes_before x e) 0 x.request ≤ cond b 0 x.request) [
    | true ↦ λ on.
        let both : comes_before x e ≡ true = before_is x e (total.trans x u e (is_less x u on) less) in
        let none : cond (comes_before x e) 0 x.request ≡ 0 = ap (λ b. cond b 0 x.request) both in
        omega (arith, none)
    | false ↦ λ _. at_most (λ (z : HeldTask). comes_before z e) x
  ] refl

  from_less : (u e : HeldTask) → preempt_cmp u e ≡ Less → requests_from es e ≤ requests_from es u
  from_less u e less =
      sum_by-le-sum_by (λ (x : HeldTask). cond (comes_before x e) 0 x.request) (λ (x : HeldTask). cond (comes_before x u) 0 x.request) es (λ x. one_less u e x less)

  pub comes_earlier : (e u : HeldTask) → IsMember e (preempted es nic) → IsMember u es → is_preempted es nic u ≡ false → comes_before e u ≡ true
  comes_earlier e u gone there stays =
      let goes : is_preempted es nic e ≡ true = passes_kept (is_preempted es nic) e turns gone in
      let here : IsMember e es = ordered_from es e (kept_from (is_preempted es nic) e turns gone) in
      let fits : requests_from es u ≤ nic = ltb-false nic (requests_from es u) stays in
      let over : nic < requests_from es e = ltb-true nic (requests_from es e) goes in
      let other : same_task u e ≡ false = elim (same_task u e) as (λ b. same_task u e ≡ b → b ≡ false) [
        | true ↦ λ same.
            let it : u ≡ e = one_of es alone u e there here same in
            both_tests (true ≡ false) (is_preempted es nic e) goes (subst (λ z. is_preempted es nic z ≡ false) it stays)
        | false ↦ λ _. refl
      ] refl in
      elim (comes_before e u) as (λ b. comes_before e u ≡ b → b ≡ true) [
        | true ↦ λ _. refl
        | false ↦ λ off. let more = from_less u e (comes_first u e off other) in absurd (omega (arith, more, over, fits))
      ] refl

  -- At least one.

  first_goes : nic < all_requests es → (ys : List HeldTask) → turns ≡ ys → (e : HeldTask) × IsMember e (filter (is_preempted es nic) ys)
  first_goes over [] is = absurd (omega (arith, over, sum_ordered (λ (e : HeldTask). e.request) es, ap all_requests is))
  first_goes over (y ∷ ys) is =
      let more : nic < requests_from es y = omega (arith, over, from_place [] ys y is, sum_ordered (λ (e : HeldTask). e.request) es, ap all_requests is) in
      (y, member_passing (is_preempted es nic) y (y ∷ ys) (inl refl) (lt-ltb nic (requests_from es y) more))

  pub some_goes : nic < all_requests es → (e : HeldTask) × IsMember e (preempted es nic)
  some_goes over = first_goes over turns refl
