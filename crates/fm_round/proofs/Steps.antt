-- What one operation of a plan changes in a table: an attempt that begins, and a proposal.
use Rattle.std.proofs.Common.{◌≡◌, ℕ, ◌<◌, Bool, true, false, cond, List, [], ◌∷◌, Option, Some, None, refl, sym, ◌∙◌, ap, subst, eq-eqb}
use Rattle.std.specs.Prelude.{◌==◌, option_map}
use Rattle.std.specs.Ordering.{nat_cmp, is_eq, is_lt, ordering_then}
use Rattle.std.specs.Cmp.{nat_cmp_total, nat_cmp_is, Equal-is}
use Rattle.std.specs.declared.cmp.Ordering.TheVariants.{Greater}
use Rattle.std.proofs.lemmas.Cmp.{tied_itself}
use Rattle.fm_lattice.specs.Chains.{by_order}
use Rattle.fm_lattice.specs.laws.ChainLaws.{nat_same, by_cases}
use Rattle.fm_lattice.specs.Joins.{max_join, min_join, option_join}
use Rattle.fm_lattice.specs.Maps.{lookup, put}
use Rattle.fm_lattice.specs.laws.MapLaws.{lookup_put}
use Rattle.fm_records.specs.declared.ops.Op.TheVariants as op
use Rattle.fm_records.specs.declared.ops.Phase.TheVariants.{Pending}
use Rattle.fm_records.specs.declared.records.Progress.{Progress}
use Rattle.fm_records.specs.declared.records.Spot.{Spot}
use Rattle.fm_records.specs.Options.{and_then, or_else}
use Rattle.fm_records.specs.Orders.{spec_cmp, progress_cmp, phase_cmp, spot_cmp, attempt_cmp}
use Rattle.fm_records.specs.laws.OrderLaws.{total_attempt, same_attempt}
use Rattle.fm_records.specs.Table.{Table, TaskValue}
use Rattle.fm_records.specs.Know.{table_of, initial_progress}
use Rattle.fm_records.specs.OpsOfTable.{IsTable}
use Rattle.fm_records.specs.Joined.{task_join, spots_join, tasks_join, proposals_join}
use Rattle.fm_records.specs.Facts.{spec_of, progress_of, attempt_of, winner_of, head_option}
use Rattle.fm_round.specs.Admission.{told}
use Rattle.fm_round.specs.inner.AdmissionSteps.{winner_with}
use Rattle.fm_round.proofs.Weights.{put_weighs}
use Rattle.fm_round.proofs.Keeps.{Keeps}

abbrev pub pending : ℕ → Progress
pending a = record { attempt = a; phase = Pending }

-- the table where the task's attempt has begun, and the one with the spot proposed
abbrev pub begun : ℕ → ℕ → Table → Table
begun t a k = record { jobs = k.jobs; tasks = put nat_cmp task_join t (None, pending a) k.tasks; machines = k.machines; proposals = k.proposals }

abbrev pub proposed : ℕ × ℕ → ℕ → Spot → Table → Table
proposed at c s k = record { jobs = k.jobs; tasks = k.tasks; machines = k.machines; proposals = put attempt_cmp spots_join at ((c, s) ∷ []) k.proposals }

progress_alone : (t a : ℕ) → (table_of (op.Progress t a Pending ∷ [])).tasks ≡ (t, (None, pending a)) ∷ []
progress_alone t a = let itself : (t == t) ≡ true = eq-eqb t t refl in rw itself refl

pub told_begun : (k : Table) (t a : ℕ) → told k (op.Progress t a Pending ∷ []) ≡ begun t a k
unfolding told
told_begun k t a = λ i. record { jobs = k.jobs; tasks = tasks_join k.tasks (progress_alone t a i); machines = k.machines; proposals = k.proposals }

proposal_alone : (t a c m n : ℕ) → (table_of (op.Propose t a c m n ∷ [])).proposals ≡ ((t, a), (c, record { machine = m; incarnation = n }) ∷ []) ∷ []
proposal_alone t a c m n =
    let task : (t == t) ≡ true = eq-eqb t t refl in
    let attempt : (a == a) ≡ true = eq-eqb a a refl in
    let coordinator : (c == c) ≡ true = eq-eqb c c refl in
    rw (task, attempt, coordinator) refl

pub told_proposed : (k : Table) (t a c m n : ℕ) → told k (op.Propose t a c m n ∷ []) ≡ proposed (t, a) c (record { machine = m; incarnation = n }) k
unfolding told
told_proposed k t a c m n = λ i. record { jobs = k.jobs; tasks = k.tasks; machines = k.machines; proposals = proposals_join k.proposals (proposal_alone t a c m n i) }

join_none : {V : Type 0} (join : V → V → V) (o : Option V) → option_join join o None ≡ o
join_none join None = refl
join_none join (Some v) = refl

not_tied : (q t : ℕ) → (q ≡ t → ⊥) → is_eq (nat_cmp q t) ≡ false
not_tied q t other = elim (is_eq (nat_cmp q t)) as (λ b. is_eq (nat_cmp q t) ≡ b → b ≡ false) [ true ↦ λ e. absurd (other (nat_same q t ((Equal-is (nat_cmp q t)).0 e))) | false ↦ λ _. refl ] refl

tied : (t : ℕ) → is_eq (nat_cmp t t) ≡ true
tied t = ap is_eq (tied_itself nat_cmp_total t)

-- the later of two attempts
later : (p : Progress) (a : ℕ) → p.attempt < a → max_join progress_cmp p (pending a) ≡ pending a
later p a less =
    let greater : nat_cmp a p.attempt ≡ Greater = sym (nat_cmp_is a p.attempt Greater less) in
    let order : progress_cmp (pending a) p ≡ Greater = ap (λ o. ordering_then o (phase_cmp Pending p.phase)) greater in
    ap (λ o. cond (is_lt o) p (pending a)) order

module _ (k : Table) (form : IsTable k) (t a : ℕ) where
  begun_at : (q : ℕ) → lookup nat_cmp q (begun t a k).tasks ≡ option_join task_join (lookup nat_cmp q k.tasks) (cond (is_eq (nat_cmp q t)) (Some (None, pending a)) None)
  begun_at q = lookup_put nat_cmp nat_cmp_total nat_same task_join q t (None, pending a) k.tasks form.tasks.rising

  begun_other : (q : ℕ) → (q ≡ t → ⊥) → lookup nat_cmp q (begun t a k).tasks ≡ lookup nat_cmp q k.tasks
  begun_other q other = begun_at q ∙ ap (λ b. option_join task_join (lookup nat_cmp q k.tasks) (cond b (Some (None, pending a)) None)) (not_tied q t other) ∙ join_none task_join (lookup nat_cmp q k.tasks)

  begun_itself : (v : TaskValue) → lookup nat_cmp t k.tasks ≡ Some v → lookup nat_cmp t (begun t a k).tasks ≡ Some (task_join v (None, pending a))
  begun_itself v known = begun_at t ∙ (λ i. option_join task_join (known i) (cond (tied t i) (Some (None, pending a)) None))

  pub begun_progress : (v : TaskValue) → lookup nat_cmp t k.tasks ≡ Some v → attempt_of k t < a → progress_of (begun t a k) t ≡ pending a
  begun_progress v known less =
      let before : progress_of k t ≡ v.1 = ap (λ o. or_else initial_progress (option_map (λ r. r.1) o)) known in
      ap (λ o. or_else initial_progress (option_map (λ r. r.1) o)) (begun_itself v known) ∙ later v.1 a (subst (λ p. p.attempt < a) before less)

  begun_spec : (v : TaskValue) → lookup nat_cmp t k.tasks ≡ Some v → (q : ℕ) (b : Bool) → is_eq (nat_cmp q t) ≡ b → spec_of (begun t a k) q ≡ spec_of k q
  begun_spec v known q true same =
      let is : q ≡ t = nat_same q t ((Equal-is (nat_cmp q t)).0 same) in
      subst (λ z. spec_of (begun t a k) z ≡ spec_of k z) (sym is)
      (ap (and_then (λ r. r.0)) (begun_itself v known) ∙ join_none (max_join spec_cmp) v.0 ∙ sym (ap (and_then (λ r. r.0)) known))
  begun_spec v known q false apart = ap (and_then (λ r. r.0)) (begun_at q ∙ ap (λ b. option_join task_join (lookup nat_cmp q k.tasks) (cond b (Some (None, pending a)) None)) apart ∙ join_none task_join (lookup nat_cmp q k.tasks))

  pub begun_keeps : (v : TaskValue) → lookup nat_cmp t k.tasks ≡ Some v → Keeps t k (begun t a k)
  begun_keeps v known = record {
    jobs = refl;
    machines = refl;
    spec = λ q. begun_spec v known q _ refl;
    progress = λ q other. ap (λ o. or_else initial_progress (option_map (λ r. r.1) o)) (begun_other q other);
    winner = λ q b other. refl;
    weights = λ f test. put_weighs task_join (λ r. f r.0) test t v (None, pending a) k.tasks form.tasks.rising known (ap f (join_none (max_join spec_cmp) v.0));
  }

-- the first entry once another is put
first_put : (c : ℕ) (s : Spot) (es : List (ℕ × Spot)) → head_option (put nat_cmp (min_join spot_cmp) c s es) ≡ Some (winner_with (head_option es) c s)
first_put c s [] = refl
first_put c s (e ∷ es) =
    by_cases (nat_cmp c e.0) (λ o. head_option (by_order o ((c, s) ∷ e ∷ es) ((e.0, min_join spot_cmp e.1 s) ∷ es) (e ∷ put nat_cmp (min_join spot_cmp) c s es)) ≡ Some (by_order o (c, s) (e.0, min_join spot_cmp e.1 s) e))
    (λ _. refl) (λ _. refl) (λ _. refl)

first_joined : (c : ℕ) (s : Spot) (o : Option (List (ℕ × Spot))) → head_option (or_else [] (option_join spots_join o (Some ((c, s) ∷ [])))) ≡ Some (winner_with (head_option (or_else [] o)) c s)
first_joined c s None = refl
first_joined c s (Some es) = first_put c s es

module _ (k : Table) (form : IsTable k) (t a c : ℕ) (s : Spot) where
  proposed_at : (at : ℕ × ℕ) → lookup attempt_cmp at (proposed (t, a) c s k).proposals ≡ option_join spots_join (lookup attempt_cmp at k.proposals) (cond (is_eq (attempt_cmp at (t, a))) (Some ((c, s) ∷ [])) None)
  proposed_at at = lookup_put attempt_cmp total_attempt same_attempt spots_join at (t, a) ((c, s) ∷ []) k.proposals form.proposals.rising

  pub proposed_winner : winner_of (proposed (t, a) c s k) t a ≡ Some (winner_with (winner_of k t a) c s)
  proposed_winner =
      let itself : is_eq (attempt_cmp (t, a) (t, a)) ≡ true = ap is_eq (tied_itself total_attempt (t, a)) in
      ap (λ o. head_option (or_else [] o)) (proposed_at (t, a) ∙ ap (λ b. option_join spots_join (lookup attempt_cmp (t, a) k.proposals) (cond b (Some ((c, s) ∷ [])) None)) itself)
      ∙ first_joined c s (lookup attempt_cmp (t, a) k.proposals)

  apart : (q b : ℕ) → (q ≡ t → ⊥) → is_eq (attempt_cmp (q, b) (t, a)) ≡ false
  apart q b other = elim (is_eq (attempt_cmp (q, b) (t, a))) as (λ x. is_eq (attempt_cmp (q, b) (t, a)) ≡ x → x ≡ false) [ true ↦ λ e. absurd (other (ap (λ p. p.0) (same_attempt (q, b) (t, a) ((Equal-is (attempt_cmp (q, b) (t, a))).0 e)))) | false ↦ λ _. refl ] refl

  pub proposed_keeps : Keeps t k (proposed (t, a) c s k)
  proposed_keeps = record {
    jobs = refl;
    machines = refl;
    spec = λ q. refl;
    progress = λ q other. refl;
    winner = λ q b other. ap (λ o. head_option (or_else [] o)) (proposed_at (q, b) ∙ ap (λ x. option_join spots_join (lookup attempt_cmp (q, b) k.proposals) (cond x (Some ((c, s) ∷ [])) None)) (apart q b other) ∙ join_none spots_join (lookup attempt_cmp (q, b) k.proposals));
    weights = λ f test. refl;
  }
