-- The order in which tasks are preempted, and lists in that order.
use Rattle.std.proofs.Common.{◌≡◌, ℕ, ◌<◌, ◌≤◌, zero, suc, Bool, true, false, cond, List, [], ◌∷◌, length, get_or, refl, sym, ◌∙◌, ap, subst, arith, inl, inr}
use Rattle.std.specs.Prelude.{◌==◌}
use Rattle.std.specs.Cmp.{IsTotalOrder, IsStrictWeakOrder, nat_cmp_total, nat_eq_equiv}
use Rattle.std.specs.List.{All, AllByRecursion, Contains, IsDistinct}
use Rattle.std.specs.List.Sorted.{IsPermutation, IsSortedBy}
use Rattle.std.specs.Ordering.{nat_cmp, ordering_then, is_lt}
use Rattle.std.specs.declared.cmp.Ordering.{Ordering}
use Rattle.std.specs.declared.cmp.Ordering.TheVariants.{Less, Equal, Greater}
use Rattle.std.proofs.lemmas.Bool.{eq-eqb}
use Rattle.std.proofs.lemmas.Cmp.{then_total, on_total, back_total, tied_itself}
use Rattle.std.proofs.lemmas.List.Elements.{All-head, All-tail}
use Rattle.std.proofs.lemmas.List.Sorted.{ranks_by, sorted_far, Contains-permutation, IsPermutation-sym}
use Rattle.std.proofs.lemmas.Map.Keys.{IsDistinct-IsPermutation}
use Rattle.fm_lattice.specs.laws.ChainLaws.{nat_same, by_cases, less_greater, greater_less}
use Rattle.fm_records.specs.Rising.{IsBelowAll, Rises}
use Rattle.fm_records.specs.Sets.{IsMember, HaveSameMembers}
use Rattle.fm_relief.specs.declared.held_task.HeldTask.{HeldTask}
use Rattle.fm_relief.specs.Relief.{preempt_cmp, comes_before, put_before, ordered}

pub total : IsTotalOrder preempt_cmp
total = then_total (then_total (on_total (λ (e : HeldTask). e.price) nat_cmp_total) (back_total (on_total (λ (e : HeldTask). e.request) nat_cmp_total))) (on_total (λ (e : HeldTask). e.task) nat_cmp_total)

pub weak : IsStrictWeakOrder comes_before
weak = ranks_by total (λ (e : HeldTask). e)

abbrev pub same_task : HeldTask → HeldTask → Bool
same_task a b = a.task == b.task

pub same_back : (a b : HeldTask) → same_task b a ≡ same_task a b
same_back a b = nat_eq_equiv.symm b.task a.task

-- no two are of one task
abbrev pub AreApart : List HeldTask → Type 0
AreApart xs = IsDistinct same_task xs

then_equal : (a b : Ordering) → ordering_then a b ≡ Equal → b ≡ Equal
then_equal Less b e = absurd (let no : ⊥ = cc in no)
then_equal Equal b e = e
then_equal Greater b e = absurd (let no : ⊥ = cc in no)

lt_false : (P : Type 0) (o : Ordering) → o ≡ Less → is_lt o ≡ false → P
lt_false P o is off = absurd (let both : true ≡ false = sym (ap is_lt is) ∙ off in let none : ⊥ = cc in none)

-- of two tasks, if the second does not come before the first, the first comes before the second
pub comes_first : (x y : HeldTask) → comes_before y x ≡ false → same_task x y ≡ false → preempt_cmp x y ≡ Less
comes_first x y off apart =
    by_cases (preempt_cmp x y) (λ o. preempt_cmp x y ≡ o → o ≡ Less)
    (λ _ _. refl)
    (λ e _.
    let tied : nat_cmp x.task y.task ≡ Equal = then_equal (ordering_then (nat_cmp x.price y.price) (nat_cmp y.request x.request)) (nat_cmp x.task y.task) e in
    let same : same_task x y ≡ true = eq-eqb x.task y.task (nat_same x.task y.task tied) in
    absurd (let both : true ≡ false = sym same ∙ apart in let none : ⊥ = cc in none))
    (λ g _. lt_false (Greater ≡ Less) (preempt_cmp y x) (greater_less preempt_cmp total x y g) off)
    refl

pub before_is : (x y : HeldTask) → preempt_cmp x y ≡ Less → comes_before x y ≡ true
before_is x y e = ap is_lt e

pub not_before : (x y : HeldTask) → preempt_cmp x y ≡ Less → comes_before y x ≡ false
not_before x y e = ap is_lt (less_greater preempt_cmp total x y e)

pub not_itself : (x : HeldTask) → comes_before x x ≡ false
not_itself x = ap is_lt (tied_itself total x)

pub is_less : (x y : HeldTask) → comes_before x y ≡ true → preempt_cmp x y ≡ Less
is_less x y h =
    by_cases (preempt_cmp x y) (λ o. is_lt o ≡ true → o ≡ Less)
    (λ _ _. refl)
    (λ _ e. absurd (let none : ⊥ = cc in none))
    (λ _ e. absurd (let none : ⊥ = cc in none))
    h

-- Members.

pub member_all : (P : HeldTask → Type 0) (xs : List HeldTask) (z : HeldTask) → AllByRecursion P xs → IsMember z xs → P z
member_all P [] z all m = absurd m
member_all P (x ∷ xs) z all m = elim m [ inl is ↦ subst P is all.0 | inr later ↦ member_all P xs z all.1 later ]

pub below_member : (x : HeldTask) (xs : List HeldTask) (z : HeldTask) → IsBelowAll preempt_cmp x xs → IsMember z xs → preempt_cmp x z ≡ Less
below_member x [] z b m = absurd m
below_member x (y ∷ ys) z b m = elim m [ inl is ↦ subst (λ w. preempt_cmp x w ≡ Less) is b.0 | inr later ↦ below_member x ys z b.1 later ]

below_all : (x : HeldTask) (xs : List HeldTask) → ((z : HeldTask) → IsMember z xs → preempt_cmp x z ≡ Less) → IsBelowAll preempt_cmp x xs
below_all x [] each = tt
below_all x (y ∷ ys) each = (each y (inl refl), below_all x ys (λ z m. each z (inr m)))

has_member : (z : HeldTask) (xs : List HeldTask) → IsMember z xs → Contains xs z
has_member z [] m = absurd m
has_member z (x ∷ xs) m = elim m [
  | inl is ↦ (0, omega arith, is)
  | inr later ↦ let at = has_member z xs later in (suc at.0, omega (arith, at.1), at.2)
]

member_at : (z : HeldTask) (xs : List HeldTask) (k : ℕ) → k < length xs → get_or xs k z ≡ z → IsMember z xs
member_at z [] k lt is = absurd (omega arith)
member_at z (x ∷ xs) zero lt is = inl is
member_at z (x ∷ xs) (suc k) lt is = inr (member_at z xs k (omega arith) is)

moved : (xs ys : List HeldTask) → IsPermutation xs ys → (z : HeldTask) → IsMember z xs → IsMember z ys
moved xs ys perm z m = let at = Contains-permutation xs ys z perm (has_member z xs m) in member_at z ys at.0 at.1 at.2

-- Lists in the order.

tail_sorted : (x : HeldTask) (xs : List HeldTask) → ((i j : ℕ) (d : HeldTask) → i ≤ j → j < length (x ∷ xs) → comes_before (get_or (x ∷ xs) j d) (get_or (x ∷ xs) i d) ≡ false)
    → (i j : ℕ) (d : HeldTask) → i ≤ j → j < length xs → comes_before (get_or xs j d) (get_or xs i d) ≡ false
tail_sorted x xs far i j d le lt = far (suc i) (suc j) d (omega arith) (omega arith)

head_below : (x : HeldTask) (xs : List HeldTask) → All (λ y. comes_before y x ≡ false) xs → AllByRecursion (λ y. same_task x y ≡ false) xs → IsBelowAll preempt_cmp x xs
head_below x [] all apart = tt
head_below x (y ∷ ys) all apart =
    (comes_first x y (All-head (λ y. comes_before y x ≡ false) y ys all) apart.0, head_below x ys (All-tail (λ y. comes_before y x ≡ false) y ys all) apart.1)

rises_far : (xs : List HeldTask) → ((i j : ℕ) (d : HeldTask) → i ≤ j → j < length xs → comes_before (get_or xs j d) (get_or xs i d) ≡ false) → AreApart xs → Rises preempt_cmp xs
unfolding IsDistinct
rises_far [] far apart = tt
rises_far (x ∷ xs) far apart =
    let all : All (λ y. comes_before y x ≡ false) xs = All-tail (λ y. comes_before y x ≡ false) x xs (λ k d lt. far 0 k d (omega arith) lt) in
    (head_below x xs all apart.0, rises_far xs (tail_sorted x xs far) apart.1)

rises_sorted : (xs : List HeldTask) → IsSortedBy comes_before xs → AreApart xs → Rises preempt_cmp xs
rises_sorted xs up apart = rises_far xs (sorted_far comes_before weak xs up) apart

-- rising lists with the same members are equal
unique : (xs ys : List HeldTask) → Rises preempt_cmp xs → Rises preempt_cmp ys → HaveSameMembers xs ys → xs ≡ ys
unique [] [] rx ry same = refl
unique [] (y ∷ ys) rx ry same = absurd (same.1 y (inl refl))
unique (x ∷ xs) [] rx ry same = absurd (same.0 x (inl refl))
unique (x ∷ xs) (y ∷ ys) rx ry same =
    let heads : x ≡ y = elim (same.0 x (inl refl)) [
      | inl is ↦ sym is
      | inr later ↦ elim (same.1 y (inl refl)) [
        | inl is ↦ is
        | inr early ↦ lt_false (x ≡ y) (preempt_cmp x y) (below_member x xs y rx.0 early) (not_before y x (below_member y ys x ry.0 later))
      ]
    ] in
    let into : (z : HeldTask) → IsMember z xs → IsMember z ys = λ z m. elim (same.0 z (inr m)) [
      | inl is ↦ let itself : preempt_cmp x x ≡ Less = subst (λ w. preempt_cmp x w ≡ Less) (sym is ∙ sym heads) (below_member x xs z rx.0 m) in lt_false (IsMember z ys) (preempt_cmp x x) itself (not_itself x)
      | inr later ↦ later
    ] in
    let back : (z : HeldTask) → IsMember z ys → IsMember z xs = λ z m. elim (same.1 z (inr m)) [
      | inl is ↦ let itself : preempt_cmp y y ≡ Less = subst (λ w. preempt_cmp y w ≡ Less) (sym is ∙ heads) (below_member y ys z ry.0 m) in lt_false (IsMember z xs) (preempt_cmp y y) itself (not_itself y)
      | inr later ↦ later
    ] in
    let tails : xs ≡ ys = unique xs ys rx.1 ry.1 (into, back) in
    λ i. heads i ∷ tails i

-- Putting tasks in the order.

put_in : (e : HeldTask) (xs : List HeldTask) (z : HeldTask) → IsMember z (e ∷ xs) → IsMember z (put_before e xs)
put_in e [] z m = m
put_in e (x ∷ xs) z m = elim (comes_before e x) as (λ b. IsMember z (cond b (e ∷ x ∷ xs) (x ∷ put_before e xs))) [
  | true ↦ m
  | false ↦ elim m [
    | inl is ↦ inr (put_in e xs z (inl is))
    | inr later ↦ elim later [ inl is ↦ inl is | inr far ↦ inr (put_in e xs z (inr far)) ]
  ]
]

put_from : (e : HeldTask) (xs : List HeldTask) (z : HeldTask) → IsMember z (put_before e xs) → IsMember z (e ∷ xs)
put_from e [] z m = m
put_from e (x ∷ xs) z m = elim (comes_before e x) as (λ b. IsMember z (cond b (e ∷ x ∷ xs) (x ∷ put_before e xs)) → IsMember z (e ∷ x ∷ xs)) [
  | true ↦ λ m. m
  | false ↦ λ m. elim m [
    | inl is ↦ inr (inl is)
    | inr later ↦ elim (put_from e xs z later) [ inl is ↦ inl is | inr far ↦ inr (inr far) ]
  ]
] m

pub ordered_in : (xs : List HeldTask) (z : HeldTask) → IsMember z xs → IsMember z (ordered xs)
ordered_in [] z m = m
ordered_in (x ∷ xs) z m = put_in x (ordered xs) z (elim m [ inl is ↦ inl is | inr later ↦ inr (ordered_in xs z later) ])

pub ordered_from : (xs : List HeldTask) (z : HeldTask) → IsMember z (ordered xs) → IsMember z xs
ordered_from [] z m = m
ordered_from (x ∷ xs) z m = elim (put_from x (ordered xs) z m) [ inl is ↦ inl is | inr later ↦ inr (ordered_from xs z later) ]

rises_put : (e : HeldTask) (xs : List HeldTask) → Rises preempt_cmp xs → ((z : HeldTask) → IsMember z xs → same_task e z ≡ false) → Rises preempt_cmp (put_before e xs)
rises_put e [] rises apart = (tt, tt)
rises_put e (x ∷ xs) rises apart = elim (comes_before e x) as (λ b. comes_before e x ≡ b → Rises preempt_cmp (cond b (e ∷ x ∷ xs) (x ∷ put_before e xs))) [
  | true ↦ λ h.
      let less = is_less e x h in
      ((less, below_all e xs (λ z m. total.trans e x z less (below_member x xs z rises.0 m))), rises)
  | false ↦ λ h.
      let other : same_task x e ≡ false = same_back e x ∙ apart x (inl refl) in
      let first = comes_first x e h other in (
        below_all x (put_before e xs) (λ z m. elim (put_from e xs z m) [ inl is ↦ subst (λ w. preempt_cmp x w ≡ Less) is first | inr later ↦ below_member x xs z rises.0 later ]),
        rises_put e xs rises.1 (λ z m. apart z (inr m)),
      )
] refl

pub rises_ordered : (xs : List HeldTask) → AreApart xs → Rises preempt_cmp (ordered xs)
unfolding IsDistinct
rises_ordered [] apart = tt
rises_ordered (x ∷ xs) apart =
    rises_put x (ordered xs) (rises_ordered xs apart.1) (λ z m. member_all (λ y. same_task x y ≡ false) xs z apart.0 (ordered_from xs z m))

-- what a sort leaves is that
pub sorted_is : (xs ys : List HeldTask) → IsPermutation xs ys → IsSortedBy comes_before ys → AreApart xs → ys ≡ ordered xs
sorted_is xs ys perm up apart =
    let moved_apart : AreApart ys = IsDistinct-IsPermutation same_task (λ a b. same_back b a) xs ys perm apart in
    unique ys (ordered xs) (rises_sorted ys up moved_apart) (rises_ordered xs apart)
    (λ z m. ordered_in xs z (moved ys xs (IsPermutation-sym xs ys perm) z m), λ z m. moved xs ys perm z (ordered_from xs z m))
