-- The entries of a coordinator that are to run no longer (this project's profile).
use Rattle.std.specs.Prelude.{ℕ, Bool, not, ◌==◌, ◌&&◌, List, Option}
use Rattle.std.specs.List.{filter_map}
use Rattle.std.specs.Ordering.{nat_cmp}
use Rattle.fm_lattice.specs.Maps.{lookup}
use Rattle.fm_records.specs.declared.records.Spot.{Spot}
use Rattle.fm_records.specs.Table.{Table}
use Rattle.fm_records.specs.Options.{when, and_then}
use Rattle.fm_records.specs.Facts.{attempt_of, holds}
use Rattle.fm_round.specs.declared.plan.Stop.{Stop}
use Rattle.fm_round.specs.Admission.{has_incarnation}

-- the attempt is the task's present one, and exactly the machine at that incarnation holds the task
abbrev pub is_present_holding : Table → ℕ × ℕ → Spot → Bool
is_present_holding k at s = attempt_of k at.0 == at.1 && holds k s.machine at.0 && has_incarnation k s.machine s.incarnation

-- the entry for a task and an attempt, as a stop
abbrev pub stop_at : ℕ × ℕ → Spot → Stop
stop_at at s = record { task = at.0; attempt = at.1; machine = s.machine; incarnation = s.incarnation }

-- the coordinator's entry for an attempt, unless it is a present holding
abbrev pub stop_of : Table → ℕ → (ℕ × ℕ) × List (ℕ × Spot) → Option Stop
stop_of k c e = and_then (λ s. when (not (is_present_holding k e.0 s)) (stop_at e.0 s)) (lookup nat_cmp c e.1)

-- all such entries, by task and attempt
abbrev pub stops_of : Table → ℕ → List Stop
stops_of k c = filter_map (stop_of k c) k.proposals
