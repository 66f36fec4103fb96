-- What machines hold, counted in a walk over the tasks.
use Rattle.std.proofs.Common.{◌≡◌, ℕ, ◌+◌, ◌*◌, ◌<◌, ◌≤◌, ◌^◌, Bool, true, false, cond, IsTrue, List, [], ◌∷◌, Option, Some, None, refl, sym, ◌∙◌, ap, subst, arith, length, zero-add, inl, inr}
use Rattle.std.specs.Prelude.{◌⊎◌, ◌==◌, filter, is_some, sum_by, unwrap_or}
use Rattle.std.specs.BTreeMap.{is_at}
use Rattle.std.specs.Ordering.{nat_cmp, is_eq}
use Rattle.std.specs.Cmp.{Equal-is, nat_cmp_total}
use Rattle.std.proofs.lemmas.Bool.{eqb-true}
use Rattle.std.proofs.lemmas.Cmp.{tied_itself}
use Rattle.std.proofs.lemmas.List.Sums.{sum_by-cons}
use Rattle.fm_lattice.specs.laws.ChainLaws.{nat_same}
use Rattle.fm_records.specs.Options.{only_if, passes}
use Rattle.fm_records.specs.Sets.{IsMember}
use Rattle.fm_records.specs.Table.{Table, TaskValue}
use Rattle.fm_round.specs.declared.plan.Place.{Place}
use Rattle.fm_records.specs.Facts.{request_of, holder_of, holds, held_tasks}
use Rattle.fm_round.specs.declared.machine_holdings.Holding.{Holding}
use Rattle.fm_round.specs.declared.machine_holdings.Holdings.{Holdings}
use Rattle.fm_round.specs.inner.MachineHoldings.{is_counted, holding_of, nothing_held, requests_of, share, AreCountedHoldings}

itself : (t : ℕ) → is_eq (nat_cmp t t) ≡ true
itself t = ap is_eq (tied_itself nat_cmp_total t)

-- a machine that is counted does not hold what no machine that is counted holds
pub not_held : (test : ℕ → Bool) (o : Option ℕ) (m : ℕ) → only_if test o ≡ None → IsTrue (test m) → passes (λ h. h == m) o ≡ false
not_held test None m none counted = refl
not_held test (Some h) m none counted =
    elim (h == m) as (λ b. (h == m) ≡ b → b ≡ false) [
      | true ↦ λ yes.
          let test_h : test h ≡ true = subst (λ z. test z ≡ true) (sym (eqb-true h m yes)) counted in
          let some : only_if test (Some h) ≡ Some h = ap (λ b. cond b (Some h) None) test_h in
          absurd (let no : ⊥ = cc in no)
      | false ↦ λ _. refl
    ] refl

-- the holder, if one is counted
pub held_by : (test : ℕ → Bool) (o : Option ℕ) (h : ℕ) → only_if test o ≡ Some h → (o ≡ Some h) × IsTrue (test h)
held_by test None h e = absurd (let no : ⊥ = cc in no)
held_by test (Some g) h e = elim (test g) as (λ b. test g ≡ b → cond b (Some g) None ≡ Some h → (Some g ≡ Some h) × IsTrue (test h)) [ true ↦ λ yes is. let same : g ≡ h = cc in (is, subst (λ z. test z ≡ true) same yes) | false ↦ λ _ is. absurd (let no : ⊥ = cc in no) ] refl e

-- a machine whose holding is put
module _ (key : ℕ) (v : Holding) (old new : ℕ → Option Holding) (puts : (q : ℕ) → new q ≡ cond (is_at (nat_cmp key) q) (Some v) (old q)) where
  pub put_counted : is_some (new key) ≡ true
  put_counted = ap is_some (puts key ∙ ap (λ b. cond b (Some v) (old key)) (itself key))

  pub stays_counted : (m : ℕ) → is_some (old m) ≡ true → is_some (new m) ≡ true
  stays_counted m was = ap is_some (puts m) ∙ elim (is_at (nat_cmp key) m) as (λ b. is_some (cond b (Some v) (old m)) ≡ true) [ true ↦ refl | false ↦ was ]

  pub same_counted : is_some (old key) ≡ true → (m : ℕ) → is_some (new m) ≡ is_some (old m)
  same_counted was m =
      ap is_some (puts m) ∙ elim (is_at (nat_cmp key) m) as (λ b. is_at (nat_cmp key) m ≡ b → is_some (cond b (Some v) (old m)) ≡ is_some (old m)) [
        | true ↦ λ yes. sym (subst (λ z. is_some (old z) ≡ true) (nat_same key m ((Equal-is (nat_cmp key m)).0 yes)) was)
        | false ↦ λ _. refl
      ] refl

  pub put_nothing : v ≡ nothing_held → (m : ℕ) → unwrap_or (old m) nothing_held ≡ nothing_held → unwrap_or (new m) nothing_held ≡ nothing_held
  put_nothing nothing m was = ap (λ o. unwrap_or o nothing_held) (puts m) ∙ elim (is_at (nat_cmp key) m) as (λ b. unwrap_or (cond b (Some v) (old m)) nothing_held ≡ nothing_held) [ true ↦ nothing | false ↦ was ]

  -- in a walk over places: those to come, and those whose machines are counted
  pub counted_on : (item : Place) → item.machine ≡ key → (left later : List Place) → left ≡ item ∷ later → (p : Place)
      → IsMember p left ⊎ IsTrue (is_some (old p.machine)) → IsMember p later ⊎ IsTrue (is_some (new p.machine))
  counted_on item at left later split p was = elim was [
    | inl here ↦ elim (subst (IsMember p) split here) [
      | inl same ↦ inr (subst (λ m. IsTrue (is_some (new m))) (sym at ∙ ap (λ (z : Place). z.machine) same) put_counted)
      | inr further ↦ inl further
    ]
    | inr counted ↦ inr (stays_counted p.machine counted)
  ]

  -- what holds of each holding that is counted
  pub put_right : (Right : ℕ → Holding → Type 0) → Right key v → ((m : ℕ) → is_some (old m) ≡ true → Right m (unwrap_or (old m) nothing_held))
      → (m : ℕ) → is_some (new m) ≡ true → Right m (unwrap_or (new m) nothing_held)
  put_right Right here others m counted =
      subst (λ o. Right m (unwrap_or o nothing_held)) (sym (puts m))
      (elim (is_at (nat_cmp key) m) as (λ b. is_at (nat_cmp key) m ≡ b → is_some (cond b (Some v) (old m)) ≡ true → Right m (unwrap_or (cond b (Some v) (old m)) nothing_held)) [
        | true ↦ λ yes _. subst (λ z. Right z v) (nat_same key m ((Equal-is (nat_cmp key m)).0 yes)) here
        | false ↦ λ _ was. others m was
      ] refl (ap is_some (sym (puts m)) ∙ counted))

at_most : (b : Bool) (r : ℕ) → cond b r 0 ≤ r
at_most true r = omega arith
at_most false r = omega arith

-- what is counted where the rest of the tasks is still to come
pub record IsCounting (k : Table) (rest : List (ℕ × TaskValue)) (holdings : Holdings) : Type 0 where
  pub requests : (m : ℕ) → IsTrue (is_counted holdings m) → (holding_of holdings m).requests + sum_by (λ e. request_of e.1.0) (filter (λ e. holds k m e.0) rest) ≡ requests_of k m
  pub tasks : (m : ℕ) → IsTrue (is_counted holdings m) → (holding_of holdings m).tasks + length (filter (λ e. holds k m e.0) rest) ≡ length (held_tasks k m)
  pub requests_fit : (m : ℕ) → (holding_of holdings m).requests + 2 ^ 32 * length rest ≤ 2 ^ 32 * length k.tasks
  pub tasks_fit : (m : ℕ) → (holding_of holdings m).tasks + length rest ≤ length k.tasks

module _ (k : Table) where
  pub counting_begins : (holdings : Holdings) → ((m : ℕ) → holding_of holdings m ≡ nothing_held) → IsCounting k k.tasks holdings
  counting_begins holdings nothing = record {
    requests = λ m _. ap (λ (h : Holding). h.requests + requests_of k m) (nothing m) ∙ zero-add (requests_of k m);
    tasks = λ m _. ap (λ (h : Holding). h.tasks + length (held_tasks k m)) (nothing m) ∙ zero-add (length (held_tasks k m));
    requests_fit = λ m. let none : (holding_of holdings m).requests ≡ 0 = ap (λ (h : Holding). h.requests) (nothing m) in omega arith;
    tasks_fit = λ m. let none : (holding_of holdings m).tasks ≡ 0 = ap (λ (h : Holding). h.tasks) (nothing m) in omega arith;
  }

  -- the sums over the tasks to come, with the next one apart
  next_request : (m t : ℕ) (v : TaskValue) (rest : List (ℕ × TaskValue)) (b : Bool) → holds k m t ≡ b → sum_by (λ e. request_of e.1.0) (filter (λ e. holds k m e.0) ((t, v) ∷ rest)) ≡ cond b (request_of v.0) 0 + sum_by (λ e. request_of e.1.0) (filter (λ e. holds k m e.0) rest)
  next_request m t v rest true is = ap (λ b. sum_by (λ (e : ℕ × TaskValue). request_of e.1.0) (cond b ((t, v) ∷ filter (λ e. holds k m e.0) rest) (filter (λ e. holds k m e.0) rest))) is ∙ sum_by-cons (λ (e : ℕ × TaskValue). request_of e.1.0) (t, v) (filter (λ e. holds k m e.0) rest)
  next_request m t v rest false is = ap (λ b. sum_by (λ (e : ℕ × TaskValue). request_of e.1.0) (cond b ((t, v) ∷ filter (λ e. holds k m e.0) rest) (filter (λ e. holds k m e.0) rest))) is ∙ sym (zero-add _)

  next_task : (m t : ℕ) (v : TaskValue) (rest : List (ℕ × TaskValue)) (b : Bool) → holds k m t ≡ b → length (filter (λ e. holds k m e.0) ((t, v) ∷ rest)) ≡ cond b 1 0 + length (filter (λ e. holds k m e.0) rest)
  next_task m t v rest true is = ap (λ b. length (cond b ((t, v) ∷ filter (λ (e : ℕ × TaskValue). holds k m e.0) rest) (filter (λ e. holds k m e.0) rest))) is ∙ (let xs = filter (λ (e : ℕ × TaskValue). holds k m e.0) rest in let e : length ((t, v) ∷ xs) ≡ 1 + length xs = omega arith in e)
  next_task m t v rest false is = ap (λ b. length (cond b ((t, v) ∷ filter (λ (e : ℕ × TaskValue). holds k m e.0) rest) (filter (λ e. holds k m e.0) rest))) is ∙ sym (zero-add _)

  -- a task that no machine holds which is counted
  pub counting_skips : (t : ℕ) (v : TaskValue) (rest : List (ℕ × TaskValue)) (holdings : Holdings) → only_if (is_counted holdings) (holder_of k t) ≡ None → IsCounting k ((t, v) ∷ rest) holdings → IsCounting k rest holdings
  counting_skips t v rest holdings none counting =
      let apart = λ (m : ℕ) (is : IsTrue (is_counted holdings m)). not_held (is_counted holdings) (holder_of k t) m none is in
      record {
        requests = λ m is. let a = counting.requests m is in let b = next_request m t v rest false (apart m is) in omega (arith, a, b);
        tasks = λ m is. let a = counting.tasks m is in let b = next_task m t v rest false (apart m is) in omega (arith, a, b);
        requests_fit = λ m. let a = counting.requests_fit m in omega (arith, a);
        tasks_fit = λ m. let a = counting.tasks_fit m in omega (arith, a);
      }

  -- a task that a machine holds which is counted
  pub counting_adds : (t n r : ℕ) (v : TaskValue) (rest : List (ℕ × TaskValue)) (old new : Holdings) → only_if (is_counted old) (holder_of k t) ≡ Some n → r ≡ request_of v.0 → r < 2 ^ 32 → ((m : ℕ) → (holding_of new m).requests ≡ (holding_of old m).requests + share n m r) → ((m : ℕ) → (holding_of new m).tasks ≡ (holding_of old m).tasks + share n m 1) → ((m : ℕ) → is_counted new m ≡ is_counted old m) → IsCounting k ((t, v) ∷ rest) old → IsCounting k rest new
  counting_adds t n r v rest old new held request fits requests tasks counted counting =
      let was = λ (m : ℕ) (is : IsTrue (is_counted new m)). sym (counted m) ∙ is in
      let holder = (held_by (is_counted old) (holder_of k t) n held).0 in
      let now = λ (m : ℕ). ap (passes (λ h. h == m)) holder in
      record {
        requests = λ m is. let a = counting.requests m (was m is) in let b = next_request m t v rest (n == m) (now m) in let c = requests m in let d : cond (n == m) r 0 ≡ cond (n == m) (request_of v.0) 0 = ap (λ x. cond (n == m) x 0) request in omega (arith, a, b, c, d);
        tasks = λ m is. let a = counting.tasks m (was m is) in let b = next_task m t v rest (n == m) (now m) in let c = tasks m in omega (arith, a, b, c);
        requests_fit = λ m. let a = counting.requests_fit m in let c = requests m in let d = at_most (n == m) r in omega (arith, a, c, d, fits);
        tasks_fit = λ m. let a = counting.tasks_fit m in let c = tasks m in let d = at_most (n == m) 1 in omega (arith, a, c, d);
      }

  pub counting_ends : (holdings : Holdings) → IsCounting k [] holdings → AreCountedHoldings k holdings
  counting_ends holdings counting = record {
    requests = λ m is. let a = counting.requests m is in omega (arith, a);
    tasks = λ m is. let a = counting.tasks m is in omega (arith, a);
  }
