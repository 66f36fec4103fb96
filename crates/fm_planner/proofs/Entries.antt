-- What the entries of a tally say of the table.
use Rattle.std.proofs.Common.{◌≡◌, ◌∙◌, ap, ℕ, ◌+◌, ◌-◌, ◌≤◌, true, cond, Some, option_map, count_by}
use Rattle.std.specs.Prelude.{nat_le, sum_by}
use Rattle.std.proofs.lemmas.Bool.{le-leb}
use Rattle.fm_records.specs.declared.records.SpecReg.{SpecReg}
use Rattle.fm_records.specs.declared.records.JobReg.{JobReg}
use Rattle.fm_records.specs.declared.records.MachineReg.{MachineReg}
use Rattle.fm_records.specs.Options.{when, and_then, passes}
use Rattle.fm_records.specs.Table.{Table}
use Rattle.fm_records.specs.Facts.{job_of, live_spec, is_live, open_state, holder_of, holds, load_of, spare_of, request_of, held_tasks}
use Rattle.fm_net.specs.Network.{is_held, room_arc, place_arc}
use Rattle.fm_net.proofs.NetworkLaws.{came_from, mapped_from}
use Rattle.fm_tally.specs.declared.tally.LiveTask.{LiveTask}
use Rattle.fm_tally.specs.declared.tally.OpenMachine.{OpenMachine}
use Rattle.fm_tally.specs.Tallies.{has_any, task_at, open_machine_at}
use Rattle.fm_policy.specs.Rooms.{fitting_tasks}

module _ (k : Table) where
  -- a live task of the tally
  pub record TaskFound (t : ℕ) (x : LiveTask) : Type 0 where
    pub spec : SpecReg
    pub live : live_spec k t ≡ Some spec
    pub job : JobReg
    pub known : job_of k spec.job ≡ Some job
    pub is : record { job = spec.job; request = spec.request; price = cond (is_held k t) job.preempt job.wait; holder = holder_of k t; prefers = has_any spec.prefer } ≡ x

  pub task_found : (t : ℕ) (x : LiveTask) → task_at k t ≡ Some x → TaskFound t x
  task_found t x e =
      let s = came_from _ (live_spec k t) x e in
      let j = mapped_from _ (job_of k s.0.job) x s.2 in
      record { spec = s.0; live = s.1; job = j.0; known = j.1; is = j.2 }

  abbrev pub entry_of : ℕ → SpecReg → JobReg → LiveTask
  entry_of t s job = record { job = s.job; request = s.request; price = cond (is_held k t) job.preempt job.wait; holder = holder_of k t; prefers = has_any s.prefer }

  pub in_tally : (t : ℕ) (s : SpecReg) (job : JobReg) → live_spec k t ≡ Some s → job_of k s.job ≡ Some job → task_at k t ≡ Some (entry_of t s job)
  in_tally t s job live known = ap (and_then (λ (x : SpecReg). option_map (λ (y : JobReg). entry_of t x y) (job_of k x.job))) live ∙ ap (option_map (λ (y : JobReg). entry_of t s y)) known

  pub lives : (t : ℕ) (x : LiveTask) → TaskFound t x → is_live k t ≡ true
  lives t x f = ap (passes (λ (s : SpecReg). true)) f.live

  -- an open machine of the tally
  abbrev pub open_of : ℕ → MachineReg → OpenMachine
  open_of m state = record { slots = state.slots; load = load_of k m; spare = spare_of k m; held = count_by (λ e. holds k m e.0) k.tasks; requests = sum_by (λ e. request_of e.1.0) (held_tasks k m) }

  pub machine_found : (m : ℕ) (y : OpenMachine) → open_machine_at k m ≡ Some y → (state : MachineReg) × (open_state k m ≡ Some state) × (open_of m state ≡ y)
  machine_found m y e = mapped_from (open_of m) (open_state k m) y e

  pub open_in_tally : (m : ℕ) (state : MachineReg) → open_state k m ≡ Some state → open_machine_at k m ≡ Some (open_of m state)
  open_in_tally m state e = ap (option_map (open_of m)) e

  -- room for a request, by the tally
  pub room_is : (r m : ℕ) (state : MachineReg) (spare : ℕ) → open_state k m ≡ Some state → spare_of k m ≡ Some spare → r ≤ spare → room_arc k r m ≡ Some (fitting_tasks state.slots spare r, r + load_of k m)
  room_is r m state spare opened left room =
      ap (and_then (λ (s : MachineReg). and_then (place_arc k r m s) (spare_of k m))) opened
      ∙ ap (and_then (place_arc k r m state)) left
      ∙ ap (λ b. when b (fitting_tasks state.slots spare r, r + load_of k m)) (le-leb r spare room)

  pub spare_left : (m : ℕ) (state : MachineReg) → open_state k m ≡ Some state → load_of k m ≤ state.nic → spare_of k m ≡ Some (state.nic - load_of k m)
  spare_left m state opened within =
      ap (and_then (λ (s : MachineReg). when (nat_le (load_of k m) s.nic) (s.nic - load_of k m))) opened
      ∙ ap (λ b. when b (state.nic - load_of k m)) (le-leb (load_of k m) state.nic within)
