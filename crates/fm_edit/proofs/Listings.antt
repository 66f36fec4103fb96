-- Where a task is listed, once it was put into the list of its job and that of its winner's machine, or taken from
-- them.
use Rattle.std.proofs.Common.{◌≡◌, ◌∙◌, ℕ, Bool, true, false, cond, Option, Some, None, refl, sym, ap, rules}
use Rattle.std.specs.Prelude.{◌&&◌, ◌||◌, ◌==◌, option_map}
use Rattle.std.specs.Ordering.{nat_cmp, is_eq, ordering_then}
use Rattle.std.specs.Cmp.{Equal-is}
use Rattle.fm_lattice.specs.laws.ChainLaws.{nat_same}
use Rattle.fm_records.specs.declared.records.SpecReg.{SpecReg}
use Rattle.fm_records.specs.declared.records.Spot.{Spot}
use Rattle.fm_records.specs.Options.{passes}
use Rattle.fm_net.specs.declared.node.Node.{Node}
use Rattle.fm_net.specs.declared.node.Node.TheVariants.{Sink, Unscheduled, Request, Machine, Task}
use Rattle.fm_edit.specs.TaskIndex.{listed_cmp, is_indexed}
use Rattle.fm_edit.specs.CacheModel.{Sight, cached_spec}
use Rattle.fm_edit.specs.inner.CachedNodes.{job_node_in, spot_node_in}
use Rattle.fm_edit.proofs.Preferring.{both_equal}

same_numbers : (a b : ℕ) → is_eq (nat_cmp a b) ≡ (a == b)
same_numbers a b = search rules

off : (b : Bool) → (b && false) ≡ false
off true = refl
off false = refl

turned : (x y : Bool) → (x && y) ≡ (y && x)
turned true true = refl
turned true false = refl
turned false true = refl
turned false false = refl

or_false : (b : Bool) → (b || false) ≡ b
or_false true = refl
or_false false = refl

in_turn : (b old x y : Bool) → cond y b (cond x b old) ≡ cond (x || y) b old
in_turn b old true true = refl
in_turn b old true false = refl
in_turn b old false true = refl
in_turn b old false false = refl

-- a test of the one key, and of the task
tested : (a b task t : ℕ) → is_eq (ordering_then (nat_cmp a b) (nat_cmp task t)) ≡ (is_eq (nat_cmp task t) && (a == b))
tested a b task t = both_equal (nat_cmp a b) (nat_cmp task t) ∙ turned (is_eq (nat_cmp a b)) (is_eq (nat_cmp task t)) ∙ ap (λ x. is_eq (nat_cmp task t) && x) (same_numbers a b)

-- what is said of the task is said of the other if they are one
of_same : (f : ℕ → Bool) (task t : ℕ) → (is_eq (nat_cmp task t) && f task) ≡ (is_eq (nat_cmp task t) && f t)
of_same f task t = elim (is_eq (nat_cmp task t)) as (λ b. is_eq (nat_cmp task t) ≡ b → (b && f task) ≡ (b && f t)) [
  | true ↦ λ e. ap f (nat_same task t ((Equal-is (nat_cmp task t)).0 e))
  | false ↦ λ _. refl
] refl

module _ (s : Sight) (task t : ℕ) where
  abbrev at : Node → Option Node → Bool
  at n o = passes (λ x. is_eq (listed_cmp (x, task) (n, t))) o

  of_job : (j : ℕ) (o : Option SpecReg) → at (Unscheduled j) (option_map (λ r. Unscheduled r.job) o) ≡ (is_eq (nat_cmp task t) && passes (λ r. r.job == j) o)
  of_job j None = sym (off (is_eq (nat_cmp task t)))
  of_job j (Some r) = tested r.job j task t

  of_spot : (m : ℕ) (o : Option Spot) → at (Machine m) (option_map (λ p. Machine p.machine) o) ≡ (is_eq (nat_cmp task t) && passes (λ p. p.machine == m) o)
  of_spot m None = sym (off (is_eq (nat_cmp task t)))
  of_spot m (Some p) = tested p.machine m task t

  no_job : (n : Node) (o : Option SpecReg) → ((j : ℕ) → n ≡ Unscheduled j → ⊥) → at n (option_map (λ r. Unscheduled r.job) o) ≡ false
  no_job n None h = refl
  no_job Sink (Some r) h = refl
  no_job (Unscheduled j) (Some r) h = absurd (h j refl)
  no_job (Request q) (Some r) h = refl
  no_job (Machine m) (Some r) h = refl
  no_job (Task u) (Some r) h = refl

  no_spot : (n : Node) (o : Option Spot) → ((m : ℕ) → n ≡ Machine m → ⊥) → at n (option_map (λ p. Machine p.machine) o) ≡ false
  no_spot n None h = refl
  no_spot Sink (Some p) h = refl
  no_spot (Unscheduled j) (Some p) h = refl
  no_spot (Request q) (Some p) h = refl
  no_spot (Machine m) (Some p) h = absurd (h m refl)
  no_spot (Task u) (Some p) h = refl

  nothing : (n : Node) → ((j : ℕ) → n ≡ Unscheduled j → ⊥) → ((m : ℕ) → n ≡ Machine m → ⊥) → is_indexed s n t ≡ false → (at n (job_node_in s task) || at n (spot_node_in s task)) ≡ (is_eq (nat_cmp task t) && is_indexed s n t)
  nothing n a b e = (λ i. no_job n (cached_spec s task) a i || no_spot n (s.spot task) b i) ∙ sym (ap (λ x. is_eq (nat_cmp task t) && x) e ∙ off (is_eq (nat_cmp task t)))

  both : (n : Node) → (at n (job_node_in s task) || at n (spot_node_in s task)) ≡ (is_eq (nat_cmp task t) && is_indexed s n t)
  both (Unscheduled j) =
      (λ i. of_job j (cached_spec s task) i || no_spot (Unscheduled j) (s.spot task) (λ m e. let no : ⊥ = cc in no) i)
      ∙ or_false (is_eq (nat_cmp task t) && passes (λ r. r.job == j) (cached_spec s task))
      ∙ of_same (λ q. passes (λ r. r.job == j) (cached_spec s q)) task t
  both (Machine m) =
      (λ i. no_job (Machine m) (cached_spec s task) (λ j e. let no : ⊥ = cc in no) i || of_spot m (s.spot task) i)
      ∙ of_same (λ q. passes (λ p. p.machine == m) (s.spot q)) task t
  both Sink = nothing Sink (λ j e. let no : ⊥ = cc in no) (λ m e. let no : ⊥ = cc in no) refl
  both (Request q) = nothing (Request q) (λ j e. let no : ⊥ = cc in no) (λ m e. let no : ⊥ = cc in no) refl
  both (Task u) = nothing (Task u) (λ j e. let no : ⊥ = cc in no) (λ m e. let no : ⊥ = cc in no) refl

  pub listed_both : (b : Bool) (n : Node) (old mid new : Bool) → mid ≡ cond (at n (job_node_in s task)) b old → new ≡ cond (at n (spot_node_in s task)) b mid → new ≡ cond (is_eq (nat_cmp task t) && is_indexed s n t) b old
  listed_both b n old mid new e f =
      f ∙ ap (λ x. cond (at n (spot_node_in s task)) b x) e ∙ in_turn b old (at n (job_node_in s task)) (at n (spot_node_in s task)) ∙ ap (λ x. cond x b old) (both n)
