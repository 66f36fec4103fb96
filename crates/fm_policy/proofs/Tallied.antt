-- What a live task and an open machine of a tally say of the table.
use Rattle.std.proofs.Common.{◌≡◌, ◌∙◌, ℕ, Some, true, ap, option_map}
use Rattle.fm_records.specs.declared.records.JobReg.{JobReg}
use Rattle.fm_records.specs.declared.records.MachineReg.{MachineReg}
use Rattle.fm_records.specs.declared.records.SpecReg.{SpecReg}
use Rattle.std.specs.Prelude.{count_by, sum_by}
use Rattle.fm_records.specs.Options.{and_then, passes}
use Rattle.fm_records.specs.Table.{Table}
use Rattle.fm_records.specs.Facts.{job_of, live_spec, is_live, open_state, is_open, holder_of, holds, held_tasks, request_of, load_of, spare_of}
use Rattle.fm_net.proofs.NetworkLaws.{came_from, mapped_from, passes_some}
use Rattle.fm_tally.specs.declared.tally.LiveTask.{LiveTask}
use Rattle.fm_tally.specs.declared.tally.OpenMachine.{OpenMachine}
use Rattle.fm_tally.specs.Tallies.{task_at, open_machine_at}
use Rattle.fm_tally.proofs.Held.{live_job, entry_of}

module _ (k : Table) where
  pub record IsLive (t : ℕ) (live : LiveTask) : Type 0 where
    pub spec : SpecReg
    pub job : JobReg
    pub is : live_spec k t ≡ Some spec
    pub known : job_of k spec.job ≡ Some job
    pub same : entry_of k t spec job ≡ live

  pub live_of : (t : ℕ) (live : LiveTask) → task_at k t ≡ Some live → IsLive t live
  live_of t live at =
      let s = came_from (λ (s : SpecReg). option_map (entry_of k t s) (job_of k s.job)) (live_spec k t) live at in
      let r = mapped_from (entry_of k t s.0) (job_of k s.0.job) live s.2 in
      record { spec = s.0; job = r.0; is = s.1; known = r.1; same = r.2 }

  pub it_lives : (t : ℕ) (live : LiveTask) → task_at k t ≡ Some live → is_live k t ≡ true
  it_lives t live at = ap (passes (λ s. true)) (live_of t live at).is

  pub its_holder : (t : ℕ) (live : LiveTask) → task_at k t ≡ Some live → holder_of k t ≡ live.holder
  its_holder t live at = ap (λ (l : LiveTask). l.holder) (live_of t live at).same

  pub found_live : (t : ℕ) (s : SpecReg) → live_spec k t ≡ Some s → (live : LiveTask) × (task_at k t ≡ Some live)
  found_live t s is =
      let r = live_job k t s is in
      (entry_of k t s r.0, ap (and_then (λ (s : SpecReg). option_map (entry_of k t s) (job_of k s.job))) is ∙ ap (option_map (entry_of k t s)) r.1)

  pub record IsOpen (m : ℕ) (open_one : OpenMachine) : Type 0 where
    pub state : MachineReg
    pub is : open_state k m ≡ Some state
    pub slots : state.slots ≡ open_one.slots
    pub load : load_of k m ≡ open_one.load
    pub spare : spare_of k m ≡ open_one.spare

  abbrev machine_of : ℕ → MachineReg → OpenMachine
  machine_of m state = record { slots = state.slots; load = load_of k m; spare = spare_of k m; held = count_by (λ e. holds k m e.0) k.tasks; requests = sum_by (λ e. request_of e.1.0) (held_tasks k m) }

  pub open_of : (m : ℕ) (open_one : OpenMachine) → open_machine_at k m ≡ Some open_one → IsOpen m open_one
  open_of m open_one at =
      let s = mapped_from (machine_of m) (open_state k m) open_one at in
      record {
        state = s.0;
        is = s.1;
        slots = ap (λ (x : OpenMachine). x.slots) s.2;
        load = ap (λ (x : OpenMachine). x.load) s.2;
        spare = ap (λ (x : OpenMachine). x.spare) s.2;
      }

  pub it_is_open : (m : ℕ) (open_one : OpenMachine) → open_machine_at k m ≡ Some open_one → is_open k m ≡ true
  it_is_open m open_one at = ap (passes (λ r. true)) (open_of m open_one at).is

  pub found_open : (m : ℕ) → is_open k m ≡ true → (open_one : OpenMachine) × (open_machine_at k m ≡ Some open_one)
  found_open m is =
      let s = passes_some (λ r. true) (open_state k m) is in
      (machine_of m s.0, ap (option_map (machine_of m)) s.1)
