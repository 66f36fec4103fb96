-- How the sums over tasks go on when one goes out or comes back, and that a delta changes none while the dirty tasks are out.
use Rattle.std.proofs.Common.{◌≡◌, ◌∙◌, ℕ, ◌+◌, ◌-◌, ◌*◌, ◌<◌, ◌≤◌, ◌^◌, Bool, true, false, cond, List, [], ◌∷◌, length, drop, get_or, suc, add-one, Some, None, refl, sym, ap, subst, inl, inr, arith}
use Rattle.std.proofs.Math.Seq.{drop-cons}
use Rattle.std.specs.Prelude.{◌&&◌, ◌||◌, ◌==◌, not, filter, sum_by, option_map}
use Rattle.std.specs.Ordering.{nat_cmp, is_eq}
use Rattle.std.specs.Cmp.{nat_cmp_total, Equal-is}
use Rattle.std.proofs.lemmas.List.Sums.{sum_by-cons, length-filter, count_by-le-length}
use Rattle.std.proofs.lemmas.Cmp.{tied_itself, tied_back}
use Rattle.fm_lattice.specs.laws.ChainLaws.{nat_same, by_cases, less_greater, greater_less}
use Rattle.fm_lattice.specs.Maps.{lookup, IsBelow, IsRising}
use Rattle.fm_lattice.specs.laws.MapLaws.{below_trans, lookup_below}
use Rattle.fm_records.specs.declared.records.SpecReg.{SpecReg}
use Rattle.std.specs.declared.cmp.Ordering.TheVariants.{Less}
use Rattle.fm_records.specs.Options.{and_then, only_if, passes}
use Rattle.fm_records.specs.Sets.{IsMember}
use Rattle.fm_records.specs.Rising.{IsBelowAll, Rises}
use Rattle.fm_records.proofs.LookupLaws.{both_true}
use Rattle.fm_records.specs.Table.{Table, TaskValue}
use Rattle.fm_records.specs.Ranges.{CanBe}
use Rattle.fm_records.specs.Facts.{spec_of, progress_of, is_done, job_stands, live_spec, is_present, won_spot, holder_of, request_of}
use Rattle.fm_net.specs.declared.node.Node.{Node}
use Rattle.fm_net.specs.declared.node.Node.TheVariants.{Sink, Unscheduled, Request, Machine, Task}
use Rattle.fm_net.proofs.BoundLaws.{spec_ranges}
use Rattle.fm_net.proofs.ListLaws.{passes_kept}
use Rattle.fm_net.proofs.NetworkLaws.{live_entry}
use Rattle.fm_policy.specs.Changes.{Keys}
use Rattle.fm_edit.specs.declared.task_index.TaskIndex.{TaskIndex}
use Rattle.fm_edit.specs.Dirty.{SameBeyond, has_id, dirty_task}
use Rattle.fm_edit.proofs.LocalLaws.{same_kept, live_same, holder_same, spec_same, won_same, prefers_same}
use Rattle.fm_edit.specs.CacheModel.{Sight, sight_of, prefers_in}
use Rattle.fm_edit.specs.TaskIndex.{is_indexed, counts_at, weight_at, lists, lists_preferred, sum_in}
use Rattle.fm_edit.specs.inner.TaskIndexParts.{amount_at}
use Rattle.fm_edit.specs.EditorState.{sum_over, Counts}
use Rattle.fm_edit.specs.inner.EditorFacts.{also_out}

nothing : (n : ℕ) → 0 + n ≡ n
nothing n = omega arith

swapped : (a b c : ℕ) → a + (b + c) ≡ b + (a + c)
swapped a b c = omega arith

and_yes : (b : Bool) → (b && true) ≡ b
and_yes true = refl
and_yes false = refl

and_no : (b : Bool) → (b && false) ≡ false
and_no true = refl
and_no false = refl

-- One task goes out of a sum.
module _ {V : Type 0} (f : ℕ × V → ℕ) (test : ℕ → Bool) (out : ℕ → Bool) where
  abbrev stays : (ℕ → Bool) → ℕ × V → Bool
  stays o e = test e.0 && not (o e.0)

  picked : (p : ℕ × V → Bool) (x : ℕ × V) (es : List (ℕ × V)) → sum_by f (filter p (x ∷ es)) ≡ cond (p x) (f x) 0 + sum_by f (filter p es)
  picked p x es = elim (p x) as (λ b. sum_by f (cond b (x ∷ filter p es) (filter p es)) ≡ cond b (f x) 0 + sum_by f (filter p es)) [ true ↦ sum_by-cons f x (filter p es) | false ↦ omega arith ]

  other : (t q : ℕ) → is_eq (nat_cmp q t) ≡ false → also_out t out q ≡ out q
  other t q e = ap (λ b. b || out q) e

  unaffected : (t : ℕ) (es : List (ℕ × V)) → IsBelow nat_cmp t es → sum_by f (filter (stays (also_out t out)) es) ≡ sum_by f (filter (stays out) es)
  unaffected t [] b = refl
  unaffected t (x ∷ es) b =
      let apart : is_eq (nat_cmp x.0 t) ≡ false = ap is_eq (less_greater nat_cmp nat_cmp_total t x.0 b.0) in
      picked (stays (also_out t out)) x es
      ∙ (λ i. cond (test x.0 && not (other t x.0 apart i)) (f x) 0 + unaffected t es b.1 i)
      ∙ sym (picked (stays out) x es)

  no_value : {P : Type 0} (v : V) → None ≡ Some v → P
  no_value v e = absurd (let no : ⊥ = cc in no)

  inside : (v w : V) → Some v ≡ Some w → v ≡ w
  inside v w e = cc

  pub taken_out : (t : ℕ) (v : V) (es : List (ℕ × V)) → IsRising nat_cmp es → lookup nat_cmp t es ≡ Some v → out t ≡ false
      → sum_by f (filter (stays out) es) ≡ cond (test t) (f (t, v)) 0 + sum_by f (filter (stays (also_out t out)) es)
  taken_out t v [] r e h = no_value v e
  taken_out t v (x ∷ es) r e h =
      by_cases (nat_cmp t x.0) (λ o. nat_cmp t x.0 ≡ o → cond (is_eq o) (Some x.1) (lookup nat_cmp t es) ≡ Some v → sum_by f (filter (stays out) (x ∷ es)) ≡ cond (test t) (f (t, v)) 0 + sum_by f (filter (stays (also_out t out)) (x ∷ es)))
      (λ _ l g. no_value v (sym (lookup_below nat_cmp nat_cmp_total nat_same t es (below_trans nat_cmp nat_cmp_total nat_same t x.0 es l r.0)) ∙ g))
      (λ _ u g.
      let key : t ≡ x.0 = nat_same t x.0 u in
      let value : x.1 ≡ v = inside x.1 v g in
      let pair : (t, v) ≡ x = λ i. (key i, sym value i) in
      let here : stays out x ≡ test t = ap (λ q. test q && not (out q)) (sym key) ∙ ap (λ b. test t && not b) h ∙ and_yes (test t) in
      let gone : stays (also_out t out) x ≡ false = ap (λ q. test q && not (also_out t out q)) (sym key) ∙ ap (λ o. test t && not (is_eq o || out t)) (tied_itself nat_cmp_total t) ∙ and_no (test t) in
      let below : IsBelow nat_cmp t es = subst (λ q. IsBelow nat_cmp q es) (sym key) r.0 in
      picked (stays out) x es
      ∙ (λ i. cond (here i) (f (sym pair i)) 0 + sym (unaffected t es below) i)
      ∙ ap (λ n. cond (test t) (f (t, v)) 0 + n) (sym (picked (stays (also_out t out)) x es ∙ ap (λ b. cond b (f x) 0 + sum_by f (filter (stays (also_out t out)) es)) gone ∙ nothing (sum_by f (filter (stays (also_out t out)) es)))))
      (λ _ w g.
      let apart : is_eq (nat_cmp x.0 t) ≡ false = ap is_eq (greater_less nat_cmp nat_cmp_total t x.0 w) in
      let rest = taken_out t v es r.1 g h in
      picked (stays out) x es
      ∙ ap (λ n. cond (stays out x) (f x) 0 + n) rest
      ∙ swapped (cond (stays out x) (f x) 0) (cond (test t) (f (t, v)) 0) (sum_by f (filter (stays (also_out t out)) es))
      ∙ ap (λ n. cond (test t) (f (t, v)) 0 + n) (sym (picked (stays (also_out t out)) x es ∙ ap (λ b. cond (test x.0 && not b) (f x) 0 + sum_by f (filter (stays (also_out t out)) es)) (other t x.0 apart))))
      refl e

  -- one that is no key adds nothing
  pub not_there : (t : ℕ) (es : List (ℕ × V)) → lookup nat_cmp t es ≡ None → sum_by f (filter (stays out) es) ≡ sum_by f (filter (stays (also_out t out)) es)
  not_there t [] e = refl
  not_there t (x ∷ es) e =
      elim (is_eq (nat_cmp t x.0)) as (λ b. is_eq (nat_cmp t x.0) ≡ b → cond b (Some x.1) (lookup nat_cmp t es) ≡ None → sum_by f (filter (stays out) (x ∷ es)) ≡ sum_by f (filter (stays (also_out t out)) (x ∷ es))) [
        | true ↦ λ _ g. absurd (let no : ⊥ = cc in no)
        | false ↦ λ a g.
            let apart : is_eq (nat_cmp x.0 t) ≡ false = by_cases (nat_cmp t x.0)
            (λ o. nat_cmp t x.0 ≡ o → is_eq o ≡ false → is_eq (nat_cmp x.0 t) ≡ false)
            (λ _ l _. ap is_eq (less_greater nat_cmp nat_cmp_total t x.0 l)) (λ _ _ h. absurd (let no : ⊥ = cc in no))
            (λ _ l _. ap is_eq (greater_less nat_cmp nat_cmp_total t x.0 l)) refl a in
            picked (stays out) x es
            ∙ (λ i. cond (test x.0 && not (sym (other t x.0 apart) i)) (f x) 0 + not_there t es g i)
            ∙ sym (picked (stays (also_out t out)) x es)
      ] refl e

-- A task of a table.
module _ (k : Table) (t : ℕ) where
  dead : lookup nat_cmp t k.tasks ≡ None → live_spec k t ≡ None
  dead e = ap (λ o. only_if (λ s. not s.withdrawn && job_stands k s.job && not (is_done (progress_of k t).phase)) (and_then (λ (v : TaskValue). v.0) o)) e

  dead_amount : lookup nat_cmp t k.tasks ≡ None → (n : Node) → amount_at (sight_of k) n t ≡ 0
  dead_amount e Sink = refl
  dead_amount e (Unscheduled j) = ap (λ o. cond (passes (λ r. r.job == j) o) 1 0) (dead e)
  dead_amount e (Request q) = ap (λ o. cond (passes (λ r. r.request == q) o && not (passes (λ m. true) (holder_of k t))) 1 0) (dead e)
  dead_amount e (Machine m) = ap (λ o. cond (passes (λ h. h == m) (cond (passes (λ s. true) o) (option_map (λ s. s.machine) (only_if (is_present k) (won_spot k t))) None)) (request_of (spec_of k t)) 0) (dead e)
  dead_amount e (Task u) = refl

  pub out_of_sum : (n : Node) (out : ℕ → Bool) → IsRising nat_cmp k.tasks → out t ≡ false → sum_over out k n ≡ amount_at (sight_of k) n t + sum_over (also_out t out) k n
  out_of_sum n out r h =
      elim (lookup nat_cmp t k.tasks) as (λ o. lookup nat_cmp t k.tasks ≡ o → sum_over out k n ≡ amount_at (sight_of k) n t + sum_over (also_out t out) k n) [
        | None ↦ λ e. not_there (λ x. weight_at n x.1.0) (counts_at (sight_of k) n) out t k.tasks e ∙ sym (ap (λ a. a + sum_over (also_out t out) k n) (dead_amount e n) ∙ nothing (sum_over (also_out t out) k n))
        | Some v ↦ λ e. taken_out (λ x. weight_at n x.1.0) (counts_at (sight_of k) n) out t v k.tasks r e h ∙ ap (λ o. cond (counts_at (sight_of k) n t) (weight_at n (and_then (λ (w : TaskValue). w.0) o)) 0 + sum_over (also_out t out) k n) (sym e)
      ] refl

-- The sums are bounded.
module _ {X : Type 0} (f : X → ℕ) where
  sum_bound : (xs : List X) → ((x : X) → IsMember x xs → f x ≤ 1000000) → sum_by f xs ≤ 1000000 * length xs
  sum_bound [] h = omega arith
  sum_bound (x ∷ xs) h =
      let rest = sum_bound xs (λ y g. h y (inr g)) in
      let first = h x (inl refl) in
      subst (λ n. n ≤ 1000000 * length (x ∷ xs)) (sym (sum_by-cons f x xs)) (omega (arith, rest, first))

pub kept_member : {X : Type 0} (p : X → Bool) (x : X) (xs : List X) → IsMember x (filter p xs) → IsMember x xs
kept_member p x [] h = absurd h
kept_member p x (z ∷ xs) h =
    let rest = kept_member p x xs in
    elim (p z) as (λ b. IsMember x (cond b (z ∷ filter p xs) (filter p xs)) → IsMember x (z ∷ xs)) [
      | true ↦ λ g. elim g [ inl is ↦ inl is | inr later ↦ inr (rest later) ]
      | false ↦ λ g. inr (rest g)
    ] h

module _ {V : Type 0} where
  above : (q : ℕ) (x : ℕ × V) (es : List (ℕ × V)) → IsBelow nat_cmp q es → IsMember x es → nat_cmp q x.0 ≡ Less
  above q x [] b h = absurd h
  above q x (y ∷ es) b h = elim h [ inl is ↦ subst (λ (z : ℕ × V). nat_cmp q z.0 ≡ Less) is b.0 | inr later ↦ above q x es b.1 later ]

  member_at : (es : List (ℕ × V)) (x : ℕ × V) → IsRising nat_cmp es → IsMember x es → lookup nat_cmp x.0 es ≡ Some x.1
  member_at [] x r h = absurd h
  member_at (y ∷ es) x r h = elim h [
    | inl is ↦ subst (λ (z : ℕ × V). lookup nat_cmp z.0 (y ∷ es) ≡ Some z.1) is (rw (tied_itself nat_cmp_total y.0) refl)
    | inr later ↦ let less = above y.0 x es r.0 later in rw (less_greater nat_cmp nat_cmp_total y.0 x.0 less) (member_at es x r.1 later)
  ]

no_true : {P : Type 0} → true ≡ false → P
no_true e = absurd (let no : ⊥ = cc in no)

one_value : {V : Type 0} (v w : V) → Some v ≡ Some w → v ≡ w
one_value v w e = cc

module _ (k : Table) (is : CanBe k) where
  live_weight : (e : ℕ × TaskValue) → lookup nat_cmp e.0 k.tasks ≡ Some e.1 → (s : SpecReg) → live_spec k e.0 ≡ Some s → request_of e.1.0 ≤ 1000000
  live_weight e f s live =
      let entry = live_entry k e.0 s live in
      let value : entry.0 ≡ e.1 = one_value entry.0 e.1 (sym entry.1 ∙ f) in
      let spec : e.1.0 ≡ Some s = ap (λ (v : TaskValue). v.0) (sym value) ∙ entry.2 in
      subst (λ o. request_of o ≤ 1000000) (sym spec) (spec_ranges k is e.0 s live).request

  weight_bound : (n : Node) (e : ℕ × TaskValue) → lookup nat_cmp e.0 k.tasks ≡ Some e.1 → counts_at (sight_of k) n e.0 ≡ true → weight_at n e.1.0 ≤ 1000000
  weight_bound (Machine m) e f c =
      elim (live_spec k e.0) as (λ o. live_spec k e.0 ≡ o → request_of e.1.0 ≤ 1000000) [
        | None ↦ λ d. no_true (sym c ∙ ap (λ o. passes (λ h. h == m) (cond (passes (λ s. true) o) (option_map (λ s. s.machine) (only_if (is_present k) (won_spot k e.0))) None)) d)
        | Some s ↦ λ l. live_weight e f s l
      ] refl
  weight_bound Sink e f c = omega arith
  weight_bound (Unscheduled j) e f c = omega arith
  weight_bound (Request q) e f c = omega arith
  weight_bound (Task u) e f c = omega arith

  pub sum_small : (n : Node) (out : ℕ → Bool) → length k.tasks < 2 ^ 63 → sum_over out k n < 2 ^ 128
  sum_small n out small =
      let p : ℕ × TaskValue → Bool = λ e. counts_at (sight_of k) n e.0 && not (out e.0) in
      let bound = sum_bound (λ (e : ℕ × TaskValue). weight_at n e.1.0) (filter p k.tasks) (λ e g. weight_bound n e (member_at k.tasks e is.table.tasks.rising (kept_member p e k.tasks g)) (both_true _ _ (passes_kept p e k.tasks g)).0) in
      let kept = length-filter p k.tasks in
      let shorter = count_by-le-length p k.tasks in
      omega (arith, bound, kept, shorter, small)

either_way : (m x : ℕ) → is_eq (nat_cmp m x) ≡ is_eq (nat_cmp x m)
either_way m x =
    by_cases (nat_cmp m x) (λ o. nat_cmp m x ≡ o → is_eq o ≡ is_eq (nat_cmp x m))
    (λ _ l. sym (ap is_eq (less_greater nat_cmp nat_cmp_total m x l)))
    (λ _ t. sym (ap is_eq (tied_back nat_cmp_total m x t)))
    (λ _ g. sym (ap is_eq (greater_less nat_cmp nat_cmp_total m x g)))
    refl

off_list : (b l o : Bool) → cond (b && l) false (l && not o) ≡ (l && not (b || o))
off_list true true o = refl
off_list true false o = refl
off_list false l o = refl

on_list : (b l o : Bool) → (b ≡ true → o ≡ false) → cond (b && l) true (l && not (b || o)) ≡ (l && not o)
on_list true true o f = sym (ap not (f refl))
on_list true false o f = refl
on_list false l o f = refl

pub same_out : (k : Table) (x : TaskIndex) (out now : ℕ → Bool) → ((q : ℕ) → out q ≡ now q) → Counts out k x → Counts now k x
same_out k x out now h = subst (λ o. Counts o k x) (λ i q. h q i)

-- What an index says of a table, when a task goes out, when one comes back, and when a delta is taken in.
module _ (k : Table) (x y : TaskIndex) (out : ℕ → Bool) (t : ℕ) (rise : IsRising nat_cmp k.tasks) (inn : out t ≡ false) where
  pub goes_out : Counts out k x
      → ((n : Node) (q : ℕ) → lists y n q ≡ cond (is_eq (nat_cmp t q) && is_indexed (sight_of k) n q) false (lists x n q))
      → ((m q : ℕ) → lists_preferred y m q ≡ cond (is_eq (nat_cmp t q) && prefers_in (sight_of k) m q) false (lists_preferred x m q))
      → ((n : Node) → sum_in y n ≡ sum_in x n - amount_at (sight_of k) n t)
      → Counts (also_out t out) k y
  goes_out c listed preferred sums = record {
    preferred = λ m q.
        let l = prefers_in (sight_of k) m q in
        preferred m q ∙ ap (λ b. cond (is_eq (nat_cmp t q) && l) false b) (c.preferred m q) ∙ off_list (is_eq (nat_cmp t q)) l (out q)
        ∙ ap (λ b. l && not (b || out q)) (either_way t q);
    listed = λ n q.
        let l = is_indexed (sight_of k) n q in
        listed n q ∙ ap (λ b. cond (is_eq (nat_cmp t q) && l) false b) (c.listed n q) ∙ off_list (is_eq (nat_cmp t q)) l (out q)
        ∙ ap (λ b. l && not (b || out q)) (either_way t q);
    sums = λ n. let whole = out_of_sum k t n out rise inn in let was = c.sums n in let now = sums n in omega (arith, whole, was, now);
  }

  pub comes_back : CanBe k → length k.tasks < 2 ^ 63 → Counts (also_out t out) k x
      → ((n : Node) (q : ℕ) → lists y n q ≡ cond (is_eq (nat_cmp t q) && is_indexed (sight_of k) n q) true (lists x n q))
      → ((m q : ℕ) → lists_preferred y m q ≡ cond (is_eq (nat_cmp t q) && prefers_in (sight_of k) m q) true (lists_preferred x m q))
      → ((n : Node) → sum_in x n + amount_at (sight_of k) n t < 2 ^ 128 → sum_in y n ≡ sum_in x n + amount_at (sight_of k) n t)
      → Counts out k y
  comes_back is small c listed preferred sums = record {
    preferred = λ m q.
        let l = prefers_in (sight_of k) m q in
        preferred m q
        ∙ ap (λ b. cond (is_eq (nat_cmp t q) && l) true b) (c.preferred m q ∙ ap (λ b. l && not (b || out q)) (either_way q t))
        ∙ on_list (is_eq (nat_cmp t q)) l (out q) (λ e. subst (λ z. out z ≡ false) (nat_same t q ((Equal-is (nat_cmp t q)).0 e)) inn);
    listed = λ n q.
        let l = is_indexed (sight_of k) n q in
        listed n q
        ∙ ap (λ b. cond (is_eq (nat_cmp t q) && l) true b) (c.listed n q ∙ ap (λ b. l && not (b || out q)) (either_way q t))
        ∙ on_list (is_eq (nat_cmp t q)) l (out q) (λ e. subst (λ z. out z ≡ false) (nat_same t q ((Equal-is (nat_cmp t q)).0 e)) inn);
    sums = λ n. let whole = out_of_sum k t n out rise inn in let was = c.sums n in let fits = sum_small k is n out small in let now = sums n (omega (arith, whole, was, fits)) in omega (arith, whole, was, now);
  }

module _ (k after : Table) (keys : Keys) (turned : List ℕ) (same : SameBeyond k after keys turned) (out : ℕ → Bool) (covers : (t : ℕ) → dirty_task k after keys turned t ≡ true → out t ≡ true) where
  clean_counts : (n : Node) (t : ℕ) → dirty_task k after keys turned t ≡ false → counts_at (sight_of after) n t ≡ counts_at (sight_of k) n t
  clean_counts Sink t e = refl
  clean_counts (Unscheduled j) t e = ap (λ o. passes (λ r. r.job == j) o) (live_same k after keys turned same t e)
  clean_counts (Request q) t e = λ i. passes (λ r. r.request == q) (live_same k after keys turned same t e i) && not (passes (λ m. true) (holder_same k after keys turned same t e i))
  clean_counts (Machine m) t e = ap (λ o. passes (λ h. h == m) o) (holder_same k after keys turned same t e)
  clean_counts (Task u) t e = refl

  clean_listed : (n : Node) (t : ℕ) → dirty_task k after keys turned t ≡ false → is_indexed (sight_of after) n t ≡ is_indexed (sight_of k) n t
  clean_listed Sink t e = refl
  clean_listed (Unscheduled j) t e = ap (λ o. passes (λ r. r.job == j) o) (spec_same k after keys turned same t e)
  clean_listed (Request q) t e = refl
  clean_listed (Machine m) t e = ap (λ o. passes (λ p. p.machine == m) o) (won_same k after keys turned same t e)
  clean_listed (Task u) t e = refl

  out_of : (P : ℕ → Bool) (t : ℕ) → dirty_task k after keys turned t ≡ true → (P t && not (out t)) ≡ false
  out_of P t e = ap (λ b. P t && not b) (covers t e) ∙ and_no (P t)

  sums_stay : (n : Node) → sum_over out after n ≡ sum_over out k n
  sums_stay n =
      ap (λ es. sum_by (λ e. weight_at n e.1.0) es)
      (same_kept k after keys turned same (λ t. counts_at (sight_of k) n t && not (out t)) (λ t. counts_at (sight_of after) n t && not (out t))
      (λ t e. ap (λ b. b && not (out t)) (clean_counts n t e))
      (λ t e. (out_of (counts_at (sight_of k) n) t e, out_of (counts_at (sight_of after) n) t e)))

  lists_stay : (n : Node) (t : ℕ) → (is_indexed (sight_of after) n t && not (out t)) ≡ (is_indexed (sight_of k) n t && not (out t))
  lists_stay n t = elim (dirty_task k after keys turned t) as (λ b. dirty_task k after keys turned t ≡ b → (is_indexed (sight_of after) n t && not (out t)) ≡ (is_indexed (sight_of k) n t && not (out t))) [
    | true ↦ λ e. out_of (is_indexed (sight_of after) n) t e ∙ sym (out_of (is_indexed (sight_of k) n) t e)
    | false ↦ λ e. ap (λ b. b && not (out t)) (clean_listed n t e)
  ] refl

  preferred_stay : (m t : ℕ) → (prefers_in (sight_of after) m t && not (out t)) ≡ (prefers_in (sight_of k) m t && not (out t))
  preferred_stay m t = elim (dirty_task k after keys turned t) as (λ b. dirty_task k after keys turned t ≡ b → (prefers_in (sight_of after) m t && not (out t)) ≡ (prefers_in (sight_of k) m t && not (out t))) [
    | true ↦ λ e. out_of (prefers_in (sight_of after) m) t e ∙ sym (out_of (prefers_in (sight_of k) m) t e)
    | false ↦ λ e. ap (λ b. b && not (out t)) (prefers_same k after keys turned same t e m)
  ] refl

  pub counts_stay : (x : TaskIndex) → Counts out k x → Counts out after x
  counts_stay x c = record { listed = λ n t. c.listed n t ∙ sym (lists_stay n t); preferred = λ m t. c.preferred m t ∙ sym (preferred_stay m t); sums = λ n. c.sums n ∙ sym (sums_stay n) }

-- The steps of the loops that take tasks out and put them back.
drop_split : (xs : List ℕ) (i t : ℕ) → i < length xs → t ≡ get_or xs i t → drop i xs ≡ t ∷ drop (i + 1) xs
drop_split xs i t h e = drop-cons xs i t h ∙ ap (λ z. z ∷ drop (suc i) xs) (sym e) ∙ ap (λ n. t ∷ drop n xs) (sym (add-one i))

not_below : (t : ℕ) (xs : List ℕ) → IsBelowAll nat_cmp t xs → has_id xs t ≡ false
not_below t [] b = refl
not_below t (x ∷ xs) b = rw b.0 (not_below t xs b.1)

or_right : (a b : Bool) → b ≡ true → (a || b) ≡ true
or_right true b h = refl
or_right false b h = h

-- one more of the tasks is out
also_taken : (xs rest : List ℕ) (t q : ℕ) → has_id xs t ≡ true → has_id rest t ≡ false → also_out t (λ z. has_id xs z && not (has_id (t ∷ rest) z)) q ≡ (has_id xs q && not (has_id rest q))
also_taken xs rest t q member alone =
    elim (is_eq (nat_cmp q t)) as (λ b. is_eq (nat_cmp q t) ≡ b → (b || (has_id xs q && not (b || has_id rest q))) ≡ (has_id xs q && not (has_id rest q))) [
      | true ↦ λ e.
          let same : q ≡ t = nat_same q t ((Equal-is (nat_cmp q t)).0 e) in
          sym ((λ i. has_id xs (same i) && not (has_id rest (same i))) ∙ (λ i. member i && not (alone i)))
      | false ↦ λ _. refl
    ] refl

module _ (xs : List ℕ) (i t : ℕ) (here : i < length xs) (is : t ≡ get_or xs i t) (rises : Rises nat_cmp (drop i xs)) where
  split : drop i xs ≡ t ∷ drop (i + 1) xs
  split = drop_split xs i t here is

  parts : Rises nat_cmp (t ∷ drop (i + 1) xs)
  parts = subst (Rises nat_cmp) split rises

  pub rises_on : Rises nat_cmp (drop (i + 1) xs)
  rises_on = parts.1

  alone : has_id (drop (i + 1) xs) t ≡ false
  alone = not_below t (drop (i + 1) xs) parts.0

  pub within_on : ((q : ℕ) → has_id (drop i xs) q ≡ true → has_id xs q ≡ true) → (q : ℕ) → has_id (drop (i + 1) xs) q ≡ true → has_id xs q ≡ true
  within_on w q h = w q (subst (λ ys. has_id ys q ≡ true) (sym split) (or_right (is_eq (nat_cmp q t)) (has_id (drop (i + 1) xs) q) h))

  member_here : ((q : ℕ) → has_id (drop i xs) q ≡ true → has_id xs q ≡ true) → has_id xs t ≡ true
  member_here w = w t (subst (λ ys. has_id ys t ≡ true) (sym split) (ap (λ o. is_eq o || has_id (drop (i + 1) xs) t) (tied_itself nat_cmp_total t)))

  module _ (s : Sight) (x y : TaskIndex) (k : Table) (can : CanBe k) (sees : s ≡ sight_of k) where
    pub take_step : ((q : ℕ) → has_id (drop i xs) q ≡ true → has_id xs q ≡ true)
        → ((n : Node) (q : ℕ) → lists y n q ≡ cond (is_eq (nat_cmp t q) && is_indexed s n q) false (lists x n q))
        → ((m q : ℕ) → lists_preferred y m q ≡ cond (is_eq (nat_cmp t q) && prefers_in s m q) false (lists_preferred x m q))
        → ((n : Node) → sum_in y n ≡ sum_in x n - amount_at s n t)
        → Counts (λ q. has_id xs q && not (has_id (drop i xs) q)) k x → Counts (λ q. has_id xs q && not (has_id (drop (i + 1) xs) q)) k y
    take_step w listed preferred sums c =
        let out : ℕ → Bool = λ q. has_id xs q && not (has_id (t ∷ drop (i + 1) xs) q) in
        let inn : out t ≡ false = ap (λ o. has_id xs t && not (is_eq o || has_id (drop (i + 1) xs) t)) (tied_itself nat_cmp_total t) ∙ and_no (has_id xs t) in
        same_out k y (also_out t out) (λ q. has_id xs q && not (has_id (drop (i + 1) xs) q))
        (λ q. also_taken xs (drop (i + 1) xs) t q (member_here w) alone)
        (goes_out k x y out t can.table.tasks.rising inn
        (subst (λ ys. Counts (λ q. has_id xs q && not (has_id ys q)) k x) split c)
        (subst (λ z. (n : Node) (q : ℕ) → lists y n q ≡ cond (is_eq (nat_cmp t q) && is_indexed z n q) false (lists x n q)) sees listed)
        (subst (λ z. (m q : ℕ) → lists_preferred y m q ≡ cond (is_eq (nat_cmp t q) && prefers_in z m q) false (lists_preferred x m q)) sees preferred)
        (subst (λ z. (n : Node) → sum_in y n ≡ sum_in x n - amount_at z n t) sees sums))

    pub put_step : length k.tasks < 2 ^ 63
        → ((n : Node) (q : ℕ) → lists y n q ≡ cond (is_eq (nat_cmp t q) && is_indexed s n q) true (lists x n q))
        → ((m q : ℕ) → lists_preferred y m q ≡ cond (is_eq (nat_cmp t q) && prefers_in s m q) true (lists_preferred x m q))
        → ((n : Node) → sum_in x n + amount_at s n t < 2 ^ 128 → sum_in y n ≡ sum_in x n + amount_at s n t)
        → Counts (has_id (drop i xs)) k x → Counts (has_id (drop (i + 1) xs)) k y
    put_step small listed preferred sums c =
        comes_back k x y (has_id (drop (i + 1) xs)) t can.table.tasks.rising alone can small
        (subst (λ ys. Counts (has_id ys) k x) split c)
        (subst (λ z. (n : Node) (q : ℕ) → lists y n q ≡ cond (is_eq (nat_cmp t q) && is_indexed z n q) true (lists x n q)) sees listed)
        (subst (λ z. (m q : ℕ) → lists_preferred y m q ≡ cond (is_eq (nat_cmp t q) && prefers_in z m q) true (lists_preferred x m q)) sees preferred)
        (subst (λ z. (n : Node) → sum_in x n + amount_at z n t < 2 ^ 128 → sum_in y n ≡ sum_in x n + amount_at z n t) sees sums)
