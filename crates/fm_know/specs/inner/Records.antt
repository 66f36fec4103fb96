-- The facts on tasks and machines whose records are at hand.
use Rattle.std.specs.Prelude.{ℕ, true, cond, not, ◌&&◌, Option, None, option_map}
use Rattle.fm_records.specs.declared.records.SpecReg.{SpecReg}
use Rattle.fm_records.specs.Options.{only_if, passes}
use Rattle.fm_records.specs.Table.{Table, TaskValue}
use Rattle.fm_records.specs.Facts.{is_done, is_present, job_stands, winner_of}

-- the spec of a live task
abbrev pub live_in : Table → TaskValue → Option SpecReg
live_in k v = only_if (λ s. not s.withdrawn && job_stands k s.job && not (is_done v.1.phase)) v.0

-- the machine that the winner of the task's attempt names, if that is open and at its present incarnation
abbrev pub placed_in : Table → ℕ → TaskValue → Option ℕ
placed_in k t v = option_map (λ s. s.machine) (only_if (is_present k) (option_map (λ w. w.1) (winner_of k t v.1.attempt)))

-- the machine that holds the task
abbrev pub holder_in : Table → ℕ → TaskValue → Option ℕ
holder_in k t v = cond (passes (λ s. true) (live_in k v)) (placed_in k t v) None
