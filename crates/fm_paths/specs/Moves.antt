-- Moves: the ways of the tasks that a plan moves. Every other task stays where it is held, or waits.
use Rattle.std.specs.Prelude.{◌≡◌, ℕ, ◌+◌, ◌≤◌, true, cond, List, Option, Some, None, count_by}
use Rattle.std.specs.List.{filter_map}
use Rattle.std.specs.Ordering.{nat_cmp}
use Rattle.fm_lattice.specs.Maps.{lookup, IsRising}
use Rattle.fm_records.specs.declared.records.MachineReg.{MachineReg}
use Rattle.fm_records.specs.Options.{or_else}
use Rattle.fm_records.specs.Table.{Table}
use Rattle.fm_records.specs.Facts.{is_live, open_state, holder_of, holds}
use Rattle.fm_round.specs.declared.plan.Place.{Place}
use Rattle.fm_round.specs.declared.plan.Preempt.{Preempt}
use Rattle.fm_round.specs.declared.plan.Plan.{Plan}
use Rattle.fm_round.specs.PlanOfFlow.{preempt_of}
use Rattle.fm_net.specs.Network.{room_arc}
use Rattle.fm_paths.specs.TaskPaths.{Way, Straight, MayGo, goes_by, takes_slot}
use Rattle.fm_paths.specs.Prices.{first_node}
use Rattle.fm_paths.specs.Plans.{is_job, place_way, all_at_jobs}

abbrev pub way_at_rest : Table → ℕ → Option ℕ → Way
way_at_rest k t None = all_at_jobs k t
way_at_rest k t (Some m) = Straight m

-- the way of a task that does not move
abbrev pub rest : Table → ℕ → Way
rest k t = way_at_rest k t (holder_of k t)

-- the ways of all tasks, where these move
abbrev pub ways_with : Table → List (ℕ × Way) → ℕ → Way
ways_with k moves t = or_else (rest k t) (lookup nat_cmp t moves)

-- moves are of live tasks, ids rising
pub record AreMoves (k : Table) (moves : List (ℕ × Way)) : Type 0 where
  pub rise : IsRising nat_cmp moves
  pub live : (t : ℕ) (w : Way) → lookup nat_cmp t moves ≡ Some w → is_live k t ≡ true

-- the plan, of the moves alone
abbrev pub places_of_moves : Table → List (ℕ × Way) → List Place
places_of_moves k moves = filter_map (λ p. place_way k p.0 p.1) moves

abbrev pub preempts_of_moves : Table → List (ℕ × Way) → List Preempt
preempts_of_moves k moves = filter_map (λ p. cond (is_job (first_node p.1)) (preempt_of k p.0) None) moves

abbrev pub plan_of_moves : Table → List (ℕ × Way) → Plan
plan_of_moves k moves = record { places = places_of_moves k moves; preempts = preempts_of_moves k moves }

-- the network has each move, and rooms and slots suffice: a machine has the tasks that it holds, less those that move, and those
-- that move to it
pub record FitMoves (k : Table) (moves : List (ℕ × Way)) : Type 0 where
  pub may : (t : ℕ) (w : Way) → lookup nat_cmp t moves ≡ Some w → MayGo k t w
  pub room : (r m : ℕ) (v : ℕ × ℕ) → room_arc k r m ≡ Some v → count_by (goes_by r m) moves ≤ v.0
  pub slots : (m : ℕ) (state : MachineReg) → open_state k m ≡ Some state → count_by (λ e. holds k m e.0) k.tasks + count_by (takes_slot m) moves ≤ state.slots + count_by (λ w. holds k m w.0) moves
