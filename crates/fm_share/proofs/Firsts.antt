-- The first places on each machine.
use Rattle.std.proofs.Common.{◌≡◌, ℕ, ◌+◌, ◌-◌, ◌<◌, ◌≤◌, zero, suc, zero-add, append_assoc, append-nil, Bool, true, false, cond, List, [], ◌∷◌, ◌++◌, refl, sym, ◌∙◌, ap, subst, arith, take, filter}
use Rattle.std.specs.Prelude.{◌==◌, ◌&&◌, nat_lt, min}
use Rattle.std.proofs.lemmas.Bool.Decides.{nat_tests}
use Rattle.std.proofs.lemmas.Bool.{ltb-true, ltb-false, eqb-true}
use Rattle.std.proofs.lemmas.List.Sums.{sum_by-append}
use Rattle.fm_records.specs.Table.{Table}
use Rattle.fm_round.specs.declared.plan.Place.{Place}
use Rattle.fm_round.specs.declared.plan.Plan.{Plan}
use Rattle.fm_share.specs.Shares.{on_machine, count_on, first_on_each, share_of, whole}

-- one more place counts for its machine
pub counted_more : (m : ℕ) (places : List Place) (p : Place) → count_on m (places ++ p ∷ []) ≡ count_on m places + cond (p.machine == m) 1 0
counted_more m places p =
    sum_by-append (λ (q : Place). cond (q.machine == m) 1 0) places (p ∷ [])
    ∙ ap (λ n. count_on m places + n) (zero-add (cond (p.machine == m) 1 0))

-- a count up to a limit is below the limit just as the count is
pub below_limit : (each n : ℕ) → nat_lt (min each n) each ≡ nat_lt n each
below_limit each n = grind (arith, nat_tests)

-- and it goes on just as the count does
limited_more : (each n : ℕ) → min each n + cond (nat_lt (min each n) each) 1 0 ≡ min each (n + 1)
limited_more each n = grind (arith, nat_tests)

pub taken_more : (each n : ℕ) (here : Bool) → min each n + cond (here && nat_lt (min each n) each) 1 0 ≡ min each (n + cond here 1 0)
taken_more each n true = limited_more each n
taken_more each n false = omega arith

-- all pass
all_stay : {A : Type 0} (xs : List A) → filter (λ x. true) xs ≡ xs
all_stay [] = refl
all_stay (x ∷ xs) = ap (λ ys. x ∷ ys) (all_stay xs)

-- a share without a restriction is the plan
pub whole_is : (k : Table) (plan : Plan) → share_of k whole plan ≡ plan
whole_is k plan = λ j. record { places = all_stay plan.places j; preempts = all_stay plan.preempts j }

-- a place on another machine makes no difference
there_other : (m : ℕ) (p : Place) (kept : Bool) (places : List Place) → (p.machine == m) ≡ false
    → on_machine m (cond kept (p ∷ places) places) ≡ on_machine m places
there_other m p true places other = ap (λ b. cond b (p ∷ on_machine m places) (on_machine m places)) other
there_other m p false places other = refl

-- one on the machine comes first
there_first : (m : ℕ) (p : Place) (places : List Place) → (p.machine == m) ≡ true → on_machine m (p ∷ places) ≡ p ∷ on_machine m places
there_first m p places here = ap (λ b. cond b (p ∷ on_machine m places) (on_machine m places)) here

-- one that comes first there takes one of those that are left
there_next : (m each n : ℕ) (p : Place) (rest left : List Place) → (p.machine == m) ≡ true
    → on_machine m rest ≡ take (each - (n + 1)) left
    → on_machine m (cond (nat_lt n each) (p ∷ rest) rest) ≡ take (each - n) (p ∷ left)
there_next m each n p rest left here is =
    elim (nat_lt n each) as (λ b. nat_lt n each ≡ b → on_machine m (cond b (p ∷ rest) rest) ≡ take (each - n) (p ∷ left)) [
      | true ↦ λ below.
          let under : n < each = ltb-true n each below in
          let one_more : each - n ≡ suc (each - (n + 1)) = omega (arith, under) in
          there_first m p rest here ∙ ap (λ xs. p ∷ xs) is ∙ sym (ap (λ k. take k (p ∷ left)) one_more)
      | false ↦ λ above.
          let over : each ≤ n = ltb-false n each above in
          let none : each - n ≡ 0 = omega (arith, over) in
          let none_later : each - (n + 1) ≡ 0 = omega (arith, over) in
          is ∙ ap (λ k. take k left) none_later ∙ sym (ap (λ k. take k (p ∷ left)) none)
    ] refl

none_taken : (n : ℕ) → take {A = Place} n [] ≡ []
none_taken zero = refl
none_taken (suc n) = refl

-- on each machine the first places stay, as many as the earlier ones leave of the limit
pub first_there : (m each : ℕ) (before later : List Place)
    → on_machine m (first_on_each each before later) ≡ take (each - count_on m before) (on_machine m later)
first_there m each before [] = sym (none_taken (each - count_on m before))
first_there m each before (p ∷ later) =
    let n = count_on m before in
    let left = on_machine m later in
    let rest = first_on_each each (before ++ p ∷ []) later in
    let is : on_machine m rest ≡ take (each - count_on m (before ++ p ∷ [])) left = first_there m each (before ++ p ∷ []) later in
    let more : count_on m (before ++ p ∷ []) ≡ n + cond (p.machine == m) 1 0 = counted_more m before p in
    elim (p.machine == m) as (λ b. (p.machine == m) ≡ b
    → on_machine m (cond (nat_lt (count_on p.machine before) each) (p ∷ rest) rest) ≡ take (each - n) (cond b (p ∷ left) left)) [
      | true ↦ λ here.
          let next = is ∙ ap (λ k. take (each - k) left) (more ∙ ap (λ b. n + cond b 1 0) here) in
          subst (λ q. on_machine m (cond (nat_lt (count_on q before) each) (p ∷ rest) rest) ≡ take (each - n) (p ∷ left))
          (sym (eqb-true p.machine m here)) (there_next m each n p rest left here next)
      | false ↦ λ other.
          let same : n + cond false 1 0 ≡ n = omega arith in
          there_other m p (nat_lt (count_on p.machine before) each) rest other
          ∙ is ∙ ap (λ k. take (each - k) left) (more ∙ ap (λ b. n + cond b 1 0) other ∙ same)
    ] refl

-- a walk goes on: the place is kept or not, and the later ones follow
pub walked_on : (kept now later : List Place) (p : Place) (b : Bool) → now ≡ kept ++ cond b (p ∷ []) [] → now ++ later ≡ kept ++ cond b (p ∷ later) later
walked_on kept now later p true is = ap (λ xs. xs ++ later) is ∙ append_assoc kept (p ∷ []) later
walked_on kept now later p false is = ap (λ xs. xs ++ later) (is ∙ append-nil kept)
