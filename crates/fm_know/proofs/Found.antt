-- The facts on a task and on a machine, if their records are found.
use Rattle.std.proofs.Common.{◌≡◌, ℕ, true, cond, Option, Some, None, sym, ap}
use Rattle.std.specs.Prelude.{not, ◌&&◌, option_map}
use Rattle.std.specs.Ordering.{nat_cmp}
use Rattle.fm_lattice.specs.Maps.{lookup}
use Rattle.fm_records.specs.declared.records.Progress.{Progress}
use Rattle.fm_records.specs.declared.records.SpecReg.{SpecReg}
use Rattle.fm_records.specs.Options.{and_then, only_if, or_else, passes}
use Rattle.fm_records.specs.Know.{initial_progress}
use Rattle.fm_records.specs.Table.{Table, TaskValue, MachineValue}
use Rattle.fm_records.specs.Facts.{is_done, is_present, job_stands, live_spec, open_state, winner_of, holder_of}
use Rattle.fm_know.specs.RecordFacts.{open_state_in}
use Rattle.fm_know.specs.inner.Records.{live_in, holder_in}

abbrev how_far : Option TaskValue → Progress
how_far o = or_else initial_progress (option_map (λ v. v.1) o)

abbrev live_at : Table → Option TaskValue → Option SpecReg
live_at k o = only_if (λ s. not s.withdrawn && job_stands k s.job && not (is_done (how_far o).phase)) (and_then (λ v. v.0) o)

pub live_found : (k : Table) (t : ℕ) (v : TaskValue) → lookup nat_cmp t k.tasks ≡ Some v → live_in k v ≡ live_spec k t
live_found k t v found = ap (live_at k) (sym found)

pub holder_found : (k : Table) (t : ℕ) (v : TaskValue) → lookup nat_cmp t k.tasks ≡ Some v → holder_in k t v ≡ holder_of k t
holder_found k t v found = ap (λ o. cond (passes (λ s. true) (live_at k o)) (option_map (λ s. s.machine) (only_if (is_present k) (option_map (λ w. w.1) (winner_of k t (how_far o).attempt)))) None) (sym found)

pub state_found : (k : Table) (m : ℕ) (v : MachineValue) → lookup nat_cmp m k.machines ≡ Some v → open_state_in v ≡ open_state k m
state_found k m v found = ap (λ o. only_if (λ r. r.up) (and_then (λ r. r.1.0) o)) (sym found)
