-- What the operations of a place, and of a preempt, come to.
use Rattle.std.proofs.Common.{◌≡◌, ℕ, ◌+◌, ◌<◌, Bool, true, false, cond, List, [], ◌∷◌, Option, Some, None, refl, sym, ◌∙◌, ap, subst, arith, eq-eqb, length}
use Rattle.std.specs.Prelude.{◌==◌, ◌&&◌, not, option_map, sum_by}
use Rattle.std.specs.Ordering.{nat_cmp}
use Rattle.std.proofs.lemmas.Bool.{eqb-true}
use Rattle.fm_lattice.specs.Maps.{lookup}
use Rattle.fm_records.specs.declared.ops.Op.TheVariants as op
use Rattle.fm_records.specs.declared.ops.Phase.TheVariants.{Pending}
use Rattle.fm_records.specs.declared.records.JobReg.{JobReg}
use Rattle.fm_records.specs.declared.records.Progress.{Progress}
use Rattle.fm_records.specs.declared.records.SpecReg.{SpecReg}
use Rattle.fm_records.specs.declared.records.Spot.{Spot}
use Rattle.fm_records.specs.Options.{when, and_then, only_if, passes}
use Rattle.fm_records.specs.Table.{Table, TaskValue}
use Rattle.fm_records.specs.OpsOfTable.{IsTable}
use Rattle.fm_records.specs.Facts.{spec_of, progress_of, attempt_of, incarnation_of, live_spec, is_live, is_open, is_present, is_done, winner_of, holder_of, holds, held_tasks, request_of}
use Rattle.fm_net.specs.Network.{is_held}
use Rattle.fm_round.specs.declared.plan.Place.{Place}
use Rattle.fm_round.specs.declared.plan.Preempt.{Preempt}
use Rattle.fm_round.specs.Admission.{told, has_proposal, has_incarnation, is_open_at, place_ops, preempt_ops}
use Rattle.fm_round.specs.inner.AdmissionSteps.{winner_with, spot_of, winning_spot, is_spot_of}
use Rattle.fm_round.proofs.Told.{told_more, told_table}
use Rattle.fm_round.proofs.Weights.{weight, picked, counted, moved}
use Rattle.fm_round.proofs.Keeps.{Keeps, keeps_both, live_from, holder_from, holds_kept}
use Rattle.fm_round.proofs.Steps.{pending, begun, proposed, told_begun, told_proposed, begun_progress, begun_keeps, proposed_winner, proposed_keeps}

-- l is k after operations for the live task t, by which the spot has won the task's present attempt
pub record After (k l : Table) (t : ℕ) (spec : SpecReg) (won : Option Spot) : Type 0 where
  pub keeps : Keeps t k l
  pub live : live_spec l t ≡ Some spec
  pub holder : holder_of l t ≡ option_map (λ s. s.machine) (only_if (is_present k) won)

-- a live task has a record
was_there : {A : Type 0} (test : A → Bool) (o : Option A) (a : A) → only_if test o ≡ Some a → o ≡ Some a
was_there test None a e = absurd (let no : ⊥ = cc in no)
was_there test (Some b) a e = elim (test b) as (λ t. cond t (Some b) None ≡ Some a → Some b ≡ Some a) [ true ↦ λ h. h | false ↦ λ h. absurd (let no : ⊥ = cc in no) ] e

record_in : {V W : Type 0} (part : V → Option W) (o : Option V) (w : W) → and_then part o ≡ Some w → (v : V) × (o ≡ Some v) × (part v ≡ Some w)
record_in part None w e = absurd (let no : ⊥ = cc in no)
record_in part (Some v) w e = (v, refl, e)

pub live_record : (k : Table) (t : ℕ) (s : SpecReg) → live_spec k t ≡ Some s → (v : TaskValue) × (lookup nat_cmp t k.tasks ≡ Some v) × (v.0 ≡ Some s)
live_record k t s e = record_in (λ v. v.0) (lookup nat_cmp t k.tasks) s (was_there _ (spec_of k t) s e)

pub live_spec_of : (k : Table) (t : ℕ) → is_live k t ≡ true → (s : SpecReg) × (live_spec k t ≡ Some s)
live_spec_of k t h = elim (live_spec k t) as (λ o. passes (λ s. true) o ≡ true → (s : SpecReg) × (o ≡ Some s)) [ None ↦ λ no. absurd (let no2 : ⊥ = cc in no2) | Some s ↦ λ _. (s, refl) ] h

-- a live task stays so in a later attempt
still : (a b : Bool) (r s : SpecReg) → when (a && b) r ≡ Some s → when (a && true) r ≡ Some s
still true true r s e = e
still true false r s e = absurd (let no : ⊥ = cc in no)
still false b r s e = absurd (let no : ⊥ = cc in no)

still_live : (jobs : List (ℕ × JobReg)) (spec : Option SpecReg) (p : Progress) (s : SpecReg) (a : ℕ) → live_from jobs spec p ≡ Some s → live_from jobs spec (pending a) ≡ Some s
still_live jobs None p s a e = absurd (let no : ⊥ = cc in no)
still_live jobs (Some r) p s a e = still _ (not (is_done p.phase)) r s e

module _ (k : Table) (form : IsTable k) (t : ℕ) (spec : SpecReg) (live : live_spec k t ≡ Some spec) where
  value : TaskValue
  value = (live_record k t spec live).0

  known : lookup nat_cmp t k.tasks ≡ Some value
  unfolding value
  known = (live_record k t spec live).1

  begun_form : (a : ℕ) → IsTable (begun t a k)
  begun_form a = subst IsTable (told_begun k t a) (told_table k form (op.Progress t a Pending ∷ []))

  module _ (a : ℕ) (less : attempt_of k t < a) where
    keeps_begun : Keeps t k (begun t a k)
    keeps_begun = begun_keeps k form t a value known

    now_pending : progress_of (begun t a k) t ≡ pending a
    now_pending = begun_progress k form t a value known less

    begun_live : live_spec (begun t a k) t ≡ Some spec
    begun_live = (λ i. live_from k.jobs (keeps_begun.spec t i) (now_pending i)) ∙ still_live k.jobs (spec_of k t) (progress_of k t) spec a live

    -- if a later attempt begins, the winner is the one that is known for it
    pub after_begun : After k (begun t a k) t spec (option_map (λ w. w.1) (winner_of k t a))
    after_begun = record {
      keeps = keeps_begun;
      live = begun_live;
      holder = λ i. holder_from (begun_live i) k.machines (winner_of k t (now_pending i).attempt);
    }

    -- if a later attempt begins and a spot is proposed for it
    pub after_both : (c : ℕ) (s : Spot) → After k (proposed (t, a) c s (begun t a k)) t spec (Some (winner_with (winner_of k t a) c s).1)
    after_both c s =
        let l = begun t a k in
        let more = proposed_keeps l (begun_form a) t a c s in
        let won = proposed_winner l (begun_form a) t a c s in
        let at : winner_of (proposed (t, a) c s l) t (attempt_of l t) ≡ Some (winner_with (winner_of k t a) c s) = ap (λ p. winner_of (proposed (t, a) c s l) t p.attempt) now_pending ∙ won in
        record {
          keeps = keeps_both t k l (proposed (t, a) c s l) keeps_begun more;
          live = begun_live;
          holder = λ i. holder_from (begun_live i) k.machines (at i);
        }

  -- if a spot is proposed for the present attempt
  pub after_proposed : (c : ℕ) (s : Spot) → After k (proposed (t, attempt_of k t) c s k) t spec (Some (winner_with (winner_of k t (attempt_of k t)) c s).1)
  after_proposed c s =
      let won = proposed_winner k form t (attempt_of k t) c s in
      record {
        keeps = proposed_keeps k form t (attempt_of k t) c s;
        live = live;
        holder = λ i. holder_from (live i) k.machines (won i);
      }

module _ (k : Table) (form : IsTable k) where
  -- the operations of a place
  pub after_place : (c : ℕ) (p : Place) (spec : SpecReg) → live_spec k p.task ≡ Some spec → After k (told k (place_ops c k p)) p.task spec (Some (winning_spot c k p))
  after_place c p spec live =
      let t = p.task in
      let a = attempt_of k t in
      let first = op.Progress t (a + 1) Pending in
      let then = op.Propose t (a + 1) c p.machine p.incarnation in
      let only = op.Propose t a c p.machine p.incarnation in
      let two : told k (first ∷ then ∷ []) ≡ proposed (t, a + 1) c (spot_of p) (begun t (a + 1) k) =
      sym (told_more k form (first ∷ []) (then ∷ [])) ∙ ap (λ l. told l (then ∷ [])) (told_begun k t (a + 1)) ∙ told_proposed (begun t (a + 1) k) t (a + 1) c p.machine p.incarnation in
      let one : told k (only ∷ []) ≡ proposed (t, a) c (spot_of p) k = told_proposed k t a c p.machine p.incarnation in
      elim (has_proposal k t a) as (λ b. After k (told k (cond b (first ∷ then ∷ []) (only ∷ []))) t spec (Some (winner_with (winner_of k t (cond b (a + 1) a)) c (spot_of p)).1)) [
        | true ↦ subst (λ l. After k l t spec (Some (winner_with (winner_of k t (a + 1)) c (spot_of p)).1)) (sym two) (after_both k form t spec live (a + 1) (omega arith) c (spot_of p))
        | false ↦ subst (λ l. After k l t spec (Some (winner_with (winner_of k t a) c (spot_of p)).1)) (sym one) (after_proposed k form t spec live c (spot_of p))
      ]

  -- the operation of a preempt
  pub after_preempt : (p : Preempt) (spec : SpecReg) → live_spec k p.task ≡ Some spec → attempt_of k p.task ≡ p.attempt → After k (told k (preempt_ops k p)) p.task spec (option_map (λ w. w.1) (winner_of k p.task (p.attempt + 1)))
  after_preempt p spec live at =
      subst (λ l. After k l p.task spec (option_map (λ w. w.1) (winner_of k p.task (p.attempt + 1)))) (sym (told_begun k p.task (p.attempt + 1)))
      (after_begun k form p.task spec live (p.attempt + 1) (omega (arith, at)))

-- Whether the winner is where the place would go.

same_number : (n i j : ℕ) → (n == i) ≡ true → (n == j) ≡ (j == i)
same_number n i j e =
    let is : n ≡ i = eqb-true n i e in
    elim (n == j) as (λ b. (n == j) ≡ b → b ≡ (j == i)) [
      | true ↦ λ h. let here : n ≡ j = eqb-true n j h in sym (eq-eqb j i (sym here ∙ is))
      | false ↦ λ h. elim (j == i) as (λ b. (j == i) ≡ b → false ≡ b) [
        | true ↦ λ g. let here : j ≡ i = eqb-true j i g in let yes : (n == j) ≡ true = eq-eqb n j (is ∙ sym here) in let no : ⊥ = cc in absurd no
        | false ↦ λ _. refl
      ] refl
    ] refl

same_incarnation : (o : Option ℕ) (i j : ℕ) → passes (λ n. n == i) o ≡ true → passes (λ n. n == j) o ≡ (j == i)
same_incarnation None i j e = absurd (let no : ⊥ = cc in no)
same_incarnation (Some n) i j e = same_number n i j e

both_true : (a b : Bool) → a && b ≡ true → (a ≡ true) × (b ≡ true)
both_true true b e = (refl, e)
both_true false b e = absurd (let no : ⊥ = cc in no)

swap : (b a : Bool) → cond b a false ≡ a && b
swap true true = refl
swap true false = refl
swap false true = refl
swap false false = refl

under_test : (a b x : Bool) → (a ≡ true → b ≡ x) → a && b ≡ (a && x)
under_test true b x h = h refl
under_test false b x h = refl

held_there : (k : Table) (m i : ℕ) (w : Spot) → is_open_at k m i ≡ true → passes (λ h. h == m) (option_map (λ s. s.machine) (only_if (is_present k) (Some w))) ≡ (w.machine == m && w.incarnation == i)
held_there k m i w there =
    let both = both_true (is_open k m) (has_incarnation k m i) there in
    elim (is_present k w) as (λ b. passes (λ h. h == m) (option_map (λ s. s.machine) (cond b (Some w) None)) ≡ cond b (w.machine == m) false) [ true ↦ refl | false ↦ refl ]
    ∙ swap (is_present k w) (w.machine == m)
    ∙ under_test (w.machine == m) (is_present k w) (w.incarnation == i)
    (λ e. let is : w.machine ≡ m = eqb-true w.machine m e in
    ap (λ z. is_open k z && has_incarnation k z w.incarnation) is
    ∙ (λ j. both.0 j && same_incarnation (incarnation_of k m) i w.incarnation both.1 j))

pub place_holds : (k : Table) → IsTable k → (c : ℕ) (p : Place) (spec : SpecReg) → live_spec k p.task ≡ Some spec → is_open_at k p.machine p.incarnation ≡ true → holds (told k (place_ops c k p)) p.machine p.task ≡ is_spot_of p (winning_spot c k p)
place_holds k form c p spec live there = ap (passes (λ h. h == p.machine)) (after_place k form c p spec live).holder ∙ held_there k p.machine p.incarnation (winning_spot c k p) there

still_held : (k : Table) (o : Option Spot) → passes (λ m. true) (option_map (λ s. s.machine) (only_if (is_present k) o)) ≡ passes (is_present k) o
still_held k None = refl
still_held k (Some w) = elim (is_present k w) as (λ b. passes (λ m. true) (option_map (λ s. s.machine) (cond b (Some w) None)) ≡ b) [ true ↦ refl | false ↦ refl ]

pub preempt_leaves : (k : Table) → IsTable k → (p : Preempt) (spec : SpecReg) → live_spec k p.task ≡ Some spec → attempt_of k p.task ≡ p.attempt → is_held (told k (preempt_ops k p)) p.task ≡ passes (is_present k) (option_map (λ w. w.1) (winner_of k p.task (p.attempt + 1)))
preempt_leaves k form p spec live at = ap (passes (λ m. true)) (after_preempt k form p spec live at).holder ∙ still_held k (option_map (λ w. w.1) (winner_of k p.task (p.attempt + 1)))

-- What machines hold.

module _ (k l : Table) (form : IsTable k) (t : ℕ) (spec : SpecReg) (won : Option Spot) (live : live_spec k t ≡ Some spec) (after : After k l t spec won) where
  shifted : (f : Option SpecReg → ℕ) (m : ℕ) → weight (λ v. f v.0) (holds l m) l.tasks + cond (holds k m t) (f (Some spec)) 0 ≡ weight (λ v. f v.0) (holds k m) k.tasks + cond (holds l m t) (f (Some spec)) 0
  shifted f m =
      let there = live_record k t spec live in
      let move = moved (λ v. f v.0) (holds k m) (holds l m) t there.0 k.tasks form.tasks.rising (λ q other. holds_kept t k l after.keeps m q other) there.1 in
      let same = after.keeps.weights f (holds l m) in
      let weighs : f there.0.0 ≡ f (Some spec) = ap f there.2 in
      let move2 = rw weighs at move in
      omega (arith, same, move2)

  -- the requests and the count of the tasks that a machine holds
  pub requests_after : (m : ℕ) → sum_by (λ e. request_of e.1.0) (held_tasks l m) + cond (holds k m t) spec.request 0 ≡ sum_by (λ e. request_of e.1.0) (held_tasks k m) + cond (holds l m t) spec.request 0
  requests_after m = let a = picked (λ v. request_of v.0) (holds l m) l.tasks in let b = picked (λ v. request_of v.0) (holds k m) k.tasks in let s = shifted request_of m in omega (arith, a, b, s)

  pub count_after : (m : ℕ) → length (held_tasks l m) + cond (holds k m t) 1 0 ≡ length (held_tasks k m) + cond (holds l m t) 1 0
  count_after m = let a = counted (holds l m) l.tasks in let b = counted (holds k m) k.tasks in let s = shifted (λ o. 1) m in omega (arith, a, b, s)
