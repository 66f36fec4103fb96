-- The front of a list of tasks in their order is what is preempted of it.
use Rattle.std.proofs.Common.{◌≡◌, ℕ, ◌+◌, ◌-◌, ◌<◌, ◌≤◌, zero-add, true, false, cond, List, [], ◌∷◌, ◌++◌, length, refl, sym, ◌∙◌, ap, subst, arith, take, drop, filter, append_assoc, append-nil, inl, inr}
use Rattle.std.specs.Prelude.{nat_lt, sum_by}
use Rattle.std.specs.List.Sorted.{IsPermutation, IsSortedBy}
use Rattle.std.proofs.lemmas.Bool.{ltb-false, lt-ltb, le-ltb}
use Rattle.std.proofs.lemmas.List.{take_all, drop_all}
use Rattle.std.proofs.lemmas.List.Elements.{filter_agree}
use Rattle.std.proofs.lemmas.List.Sorted.{sum_by-IsPermutation}
use Rattle.std.proofs.lemmas.List.Sums.{sum_by-cons}
use Rattle.fm_records.specs.Rising.{IsBelowAll, Rises}
use Rattle.fm_records.specs.Sets.{IsMember}
use Rattle.fm_relief.specs.declared.held_task.HeldTask.{HeldTask}
use Rattle.fm_relief.specs.Relief.{preempt_cmp, comes_before, ordered, requests_from, is_preempted, preempted}
use Rattle.fm_relief.specs.inner.Fronts.{front}
use Rattle.fm_relief.proofs.Orders.{AreApart, not_before, before_is, not_itself, below_member, rises_ordered, sorted_is}

abbrev pub all_requests : List HeldTask → ℕ
all_requests xs = sum_by (λ e. e.request) xs

-- In a list in order all before a task come before it, and none behind it does.

none_before : (x : HeldTask) (xs : List HeldTask) → IsBelowAll preempt_cmp x xs → requests_from xs x ≡ all_requests xs
none_before x [] b = refl
none_before x (y ∷ ys) b =
    sum_by-cons (λ (u : HeldTask). cond (comes_before u x) 0 u.request) y ys
    ∙ (λ i. cond (not_before x y b.0 i) 0 y.request + none_before x ys b.1 i)
    ∙ sym (sum_by-cons (λ (e : HeldTask). e.request) y ys)

met : (before : List HeldTask) (x : HeldTask) (xs : List HeldTask) → IsMember x (before ++ x ∷ xs)
met [] x xs = inl refl
met (b ∷ before) x xs = inr (met before x xs)

pub from_here : (before : List HeldTask) (x : HeldTask) (xs : List HeldTask) → Rises preempt_cmp (before ++ x ∷ xs) → requests_from (before ++ x ∷ xs) x ≡ all_requests (x ∷ xs)
from_here [] x xs rises =
    sum_by-cons (λ (u : HeldTask). cond (comes_before u x) 0 u.request) x xs
    ∙ (λ i. cond (not_itself x i) 0 x.request + none_before x xs rises.0 i)
    ∙ sym (sum_by-cons (λ (e : HeldTask). e.request) x xs)
from_here (b ∷ before) x xs rises =
    let first = before_is b x (below_member b (before ++ x ∷ xs) x rises.0 (met before x xs)) in
    sum_by-cons (λ (u : HeldTask). cond (comes_before u x) 0 u.request) b (before ++ x ∷ xs)
    ∙ (λ i. cond (first i) 0 b.request + from_here before x xs rises.1 i)
    ∙ zero-add (all_requests (x ∷ xs))

front_none : (nic : ℕ) (xs : List HeldTask) → all_requests xs ≤ nic → front nic xs ≡ []
front_none nic [] fits = refl
front_none nic (y ∷ ys) fits = ap (λ b. cond b (y ∷ front nic ys) []) (le-ltb nic (all_requests (y ∷ ys)) fits)

front_more : (nic : ℕ) (x : HeldTask) (xs : List HeldTask) → nic < all_requests (x ∷ xs) → front nic (x ∷ xs) ≡ x ∷ front nic xs
front_more nic x xs over = ap (λ b. cond b (x ∷ front nic xs) []) (lt-ltb nic (all_requests (x ∷ xs)) over)

stops : (nic : ℕ) (x : HeldTask) (xs : List HeldTask)
    → cond (nat_lt nic (all_requests (x ∷ xs))) (x ∷ front nic xs) (front nic xs) ≡ cond (nat_lt nic (all_requests (x ∷ xs))) (x ∷ front nic xs) []
stops nic x xs =
    elim (nat_lt nic (all_requests (x ∷ xs))) as (λ b. nat_lt nic (all_requests (x ∷ xs)) ≡ b → cond b (x ∷ front nic xs) (front nic xs) ≡ cond b (x ∷ front nic xs) []) [
      | true ↦ λ _. refl
      | false ↦ λ off. front_none nic xs (omega (arith, ltb-false nic (all_requests (x ∷ xs)) off, sum_by-cons (λ (e : HeldTask). e.request) x xs))
    ] refl

is_front : (nic : ℕ) (all before xs : List HeldTask) → all ≡ before ++ xs → Rises preempt_cmp all → filter (is_preempted all nic) xs ≡ front nic xs
is_front nic all before [] is rises = refl
is_front nic all before (x ∷ xs) is rises =
    let sums : requests_from all x ≡ all_requests (x ∷ xs) = ap (λ es. requests_from es x) is ∙ from_here before x xs (subst (Rises preempt_cmp) is rises) in
    let later : filter (is_preempted all nic) xs ≡ front nic xs = is_front nic all (before ++ x ∷ []) xs (is ∙ sym (append_assoc before (x ∷ []) xs)) rises in
    (λ i. cond (nat_lt nic (sums i)) (x ∷ later i) (later i)) ∙ stops nic x xs

-- the same sums of the same tasks in another order
same_tests : (xs ys : List HeldTask) (nic : ℕ) → IsPermutation xs ys → (e : HeldTask) → is_preempted ys nic e ≡ is_preempted xs nic e
same_tests xs ys nic perm e = ap (nat_lt nic) (sum_by-IsPermutation (λ (u : HeldTask). cond (comes_before u e) 0 u.request) xs ys perm)

-- what is preempted is the front of what a sort leaves
pub front_is : (xs ys : List HeldTask) (nic : ℕ) → IsPermutation xs ys → IsSortedBy comes_before ys → AreApart xs → front nic ys ≡ preempted xs nic
front_is xs ys nic perm up apart =
    let same : ys ≡ ordered xs = sorted_is xs ys perm up apart in
    let rises : Rises preempt_cmp ys = subst (Rises preempt_cmp) (sym same) (rises_ordered xs apart) in
    sym (is_front nic ys [] ys refl rises)
    ∙ filter_agree (is_preempted ys nic) (is_preempted xs nic) (same_tests xs ys nic perm) ys
    ∙ ap (filter (is_preempted xs nic)) same

pub same_sum : (xs ys : List HeldTask) → IsPermutation xs ys → all_requests ys ≡ all_requests xs
same_sum xs ys perm = sum_by-IsPermutation (λ (e : HeldTask). e.request) xs ys perm

-- A walk along the front.

pub record IsAlong (nic : ℕ) (xs : List HeldTask) (left i : ℕ) : Type 0 where
  pub left_is : left ≡ all_requests (drop i xs)
  pub front_so_far : take i xs ++ front nic (drop i xs) ≡ front nic xs

module _ (nic : ℕ) (xs : List HeldTask) (left i : ℕ) (along : IsAlong nic xs left i) where
  pub stops_here : left ≤ nic → take i xs ≡ front nic xs
  stops_here fits =
      let none : front nic (drop i xs) ≡ [] = front_none nic (drop i xs) (omega (arith, fits, along.left_is)) in
      sym (append-nil (take i xs)) ∙ ap (λ zs. take i xs ++ zs) (sym none) ∙ along.front_so_far

  pub stops_at_end : length xs ≤ i → take (length xs) xs ≡ front nic xs
  stops_at_end past =
      let rest : drop i xs ≡ [] = drop_all i xs past in
      let whole : take i xs ≡ xs = take_all i xs past in
      take_all (length xs) xs (omega arith)
      ∙ sym whole
      ∙ sym (append-nil (take i xs))
      ∙ ap (λ zs. take i xs ++ front nic zs) (sym rest)
      ∙ along.front_so_far

  module _ (x : HeldTask) (rest : List HeldTask) (is : drop i xs ≡ x ∷ rest) where
    sum_is : left ≡ x.request + all_requests rest
    sum_is = along.left_is ∙ ap all_requests is ∙ sum_by-cons (λ (e : HeldTask). e.request) x rest

    pub request_fits : x.request ≤ left
    request_fits = omega (arith, sum_is)

    pub goes_on : nic < left → drop (i + 1) xs ≡ rest → take (i + 1) xs ≡ take i xs ++ x ∷ [] → IsAlong nic xs (left - x.request) (i + 1)
    goes_on over later more =
        let first : front nic (x ∷ rest) ≡ x ∷ front nic rest = front_more nic x rest (omega (arith, over, sum_is, sum_by-cons (λ (e : HeldTask). e.request) x rest)) in
        let less : left - x.request ≡ all_requests rest = omega (arith, sum_is) in
        record {
          left_is = less ∙ ap all_requests (sym later);
          front_so_far =
              (λ j. more j ++ front nic (later j))
              ∙ append_assoc (take i xs) (x ∷ []) (front nic rest)
              ∙ ap (λ zs. take i xs ++ zs) (sym first)
              ∙ ap (λ zs. take i xs ++ front nic zs) (sym is)
              ∙ along.front_so_far;
        }
