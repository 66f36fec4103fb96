-- The holders of the tasks of a tally.
use Rattle.std.proofs.Common.{◌≡◌, ap, sym, refl, ℕ, true, cond, not, Some, None, option_map}
use Rattle.fm_records.specs.declared.records.SpecReg.{SpecReg}
use Rattle.fm_records.specs.declared.records.JobReg.{JobReg}
use Rattle.fm_records.proofs.LookupLaws.{both_true}
use Rattle.fm_records.specs.Options.{and_then, only_if, passes}
use Rattle.fm_records.specs.Table.{Table}
use Rattle.fm_records.specs.Facts.{job_of, spec_of, live_spec, is_present, won_spot, holder_of}
use Rattle.fm_net.specs.Network.{is_held}
use Rattle.fm_net.proofs.NetworkLaws.{passes_some, only_if_some}
use Rattle.fm_tally.specs.declared.tally.LiveTask.{LiveTask}
use Rattle.fm_tally.specs.Tallies.{has_any, task_at}

module _ (k : Table) where
  -- the job of a live task is known
  pub live_job : (t : ℕ) (s : SpecReg) → live_spec k t ≡ Some s → (r : JobReg) × (job_of k s.job ≡ Some r)
  live_job t s e =
      let h = (only_if_some _ (spec_of k t) s e).1 in
      let stand = (both_true _ _ (both_true _ _ h).0).1 in
      let r = passes_some (λ r. not r.withdrawn) (job_of k s.job) stand in
      (r.0, r.1)

  abbrev pub entry_of : ℕ → SpecReg → JobReg → LiveTask
  entry_of t s job = record { job = s.job; request = s.request; price = cond (is_held k t) job.preempt job.wait; holder = holder_of k t; prefers = has_any s.prefer }

  -- a tally's holder of a task is the machine that holds it
  pub held_is : (t : ℕ) → and_then (λ (l : LiveTask). l.holder) (task_at k t) ≡ holder_of k t
  held_is t = elim (live_spec k t) as (λ o. live_spec k t ≡ o → and_then (λ (l : LiveTask). l.holder) (and_then (λ (s : SpecReg). option_map (entry_of t s) (job_of k s.job)) o) ≡ holder_of k t) [
    | None ↦ λ e. sym (ap (λ o. cond (passes (λ (s : SpecReg). true) o) (option_map (λ s. s.machine) (only_if (is_present k) (won_spot k t))) None) e)
    | Some s ↦ λ e. let r = live_job t s e in ap (λ o. and_then (λ (l : LiveTask). l.holder) (option_map (entry_of t s) o)) r.1
  ] refl
