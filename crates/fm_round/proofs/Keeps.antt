-- Tables that differ only in how far one task is and in the proposals for it.
use Rattle.std.proofs.Common.{◌≡◌, ℕ, Bool, true, cond, List, Option, None, refl, ◌∙◌, ap}
use Rattle.std.specs.Prelude.{not, ◌==◌, ◌&&◌, option_map}
use Rattle.std.specs.Ordering.{nat_cmp}
use Rattle.fm_lattice.specs.Maps.{lookup}
use Rattle.fm_records.specs.declared.records.JobReg.{JobReg}
use Rattle.fm_records.specs.declared.records.SpecReg.{SpecReg}
use Rattle.fm_records.specs.declared.records.Progress.{Progress}
use Rattle.fm_records.specs.declared.records.MachineReg.{MachineReg}
use Rattle.fm_records.specs.declared.records.Spot.{Spot}
use Rattle.fm_records.specs.Options.{and_then, only_if, passes, or_else}
use Rattle.fm_records.specs.Table.{Table, MachineValue}
use Rattle.fm_records.specs.Facts.{spec_of, progress_of, attempt_of, incarnation_of, is_done, live_spec, open_state, winner_of, holder_of, holds, used_of}
use Rattle.fm_round.proofs.Weights.{weight}

-- l is k but for how far task t is, and for the proposals for it
pub record Keeps (t : ℕ) (k l : Table) : Type 0 where
  pub jobs : l.jobs ≡ k.jobs
  pub machines : l.machines ≡ k.machines
  pub spec : (q : ℕ) → spec_of l q ≡ spec_of k q
  pub progress : (q : ℕ) → (q ≡ t → ⊥) → progress_of l q ≡ progress_of k q
  pub winner : (q a : ℕ) → (q ≡ t → ⊥) → winner_of l q a ≡ winner_of k q a
  pub weights : (f : Option SpecReg → ℕ) (test : ℕ → Bool) → weight (λ v. f v.0) test l.tasks ≡ weight (λ v. f v.0) test k.tasks

pub keeps_both : (t : ℕ) (k l m : Table) → Keeps t k l → Keeps t l m → Keeps t k m
keeps_both t k l m p q = record {
  jobs = q.jobs ∙ p.jobs;
  machines = q.machines ∙ p.machines;
  spec = λ x. q.spec x ∙ p.spec x;
  progress = λ x other. q.progress x other ∙ p.progress x other;
  winner = λ x a other. q.winner x a other ∙ p.winner x a other;
  weights = λ f test. q.weights f test ∙ p.weights f test;
}

-- The facts, as functions of the parts of a table that they read.

abbrev pub live_from : List (ℕ × JobReg) → Option SpecReg → Progress → Option SpecReg
live_from jobs spec p = only_if (λ s. not s.withdrawn && passes (λ r. not r.withdrawn) (lookup nat_cmp s.job jobs) && not (is_done p.phase)) spec

abbrev pub open_from : List (ℕ × MachineValue) → ℕ → Option MachineReg
open_from machines m = only_if (λ r. r.up) (and_then (λ v. v.1.0) (lookup nat_cmp m machines))

abbrev pub present_from : List (ℕ × MachineValue) → Spot → Bool
present_from machines s = passes (λ r. true) (open_from machines s.machine) && passes (λ i. i == s.incarnation) (option_map (λ v. v.0) (lookup nat_cmp s.machine machines))

abbrev pub holder_from : Option SpecReg → List (ℕ × MachineValue) → Option (ℕ × Spot) → Option ℕ
holder_from live machines won = cond (passes (λ s. true) live) (option_map (λ s. s.machine) (only_if (present_from machines) (option_map (λ w. w.1) won))) None

holder_is : (k : Table) (q : ℕ) → holder_of k q ≡ holder_from (live_spec k q) k.machines (winner_of k q (attempt_of k q))
holder_is k q = refl

module _ (t : ℕ) (k l : Table) (keeps : Keeps t k l) where
  pub open_kept : (m : ℕ) → open_state l m ≡ open_state k m
  open_kept m = ap (λ ms. open_from ms m) keeps.machines

  pub incarnation_kept : (m : ℕ) → incarnation_of l m ≡ incarnation_of k m
  incarnation_kept m = ap (λ ms. option_map (λ v. v.0) (lookup nat_cmp m ms)) keeps.machines

  pub used_kept : (m : ℕ) → used_of l m ≡ used_of k m
  used_kept m = ap (λ ms. or_else 0 (option_map (λ r. r.used) (and_then (λ v. v.1.1) (lookup nat_cmp m ms)))) keeps.machines

  pub live_kept : (q : ℕ) → progress_of l q ≡ progress_of k q → live_spec l q ≡ live_spec k q
  live_kept q same = λ i. live_from (keeps.jobs i) (keeps.spec q i) (same i)

  pub holder_kept : (q : ℕ) → (q ≡ t → ⊥) → holder_of l q ≡ holder_of k q
  holder_kept q other =
      let same = keeps.progress q other in
      let won : winner_of l q (attempt_of l q) ≡ winner_of k q (attempt_of k q) = keeps.winner q (attempt_of l q) other ∙ ap (λ p. winner_of k q p.attempt) same in
      λ i. holder_from (live_kept q same i) (keeps.machines i) (won i)

  pub holds_kept : (m q : ℕ) → (q ≡ t → ⊥) → holds l m q ≡ holds k m q
  holds_kept m q other = ap (passes (λ h. h == m)) (holder_kept q other)
