-- A walk over the tasks goes one task further.
use Rattle.std.proofs.Common.{◌≡◌, ◌∙◌, ℕ, sym, ap, List, ◌∷◌, [], Option, option_map}
use Rattle.fm_lattice.specs.Maps.{lookup}
use Rattle.fm_records.specs.declared.records.Spot.{Spot}
use Rattle.fm_records.specs.Options.{or_else}
use Rattle.fm_records.specs.Orders.{attempt_cmp}
use Rattle.fm_records.specs.Table.{Table, TaskValue}
use Rattle.fm_records.specs.Facts.{head_option}
use Rattle.fm_tally.specs.declared.unfinished.UnfinishedTask.{UnfinishedTask}
use Rattle.fm_tally.specs.Tallies.{unfinished_spec}
use Rattle.fm_tally.specs.Unfinished.{task_with, unfinished_at}
use Rattle.fm_tally.specs.WinnerScan.{winner_spot}
use Rattle.fm_tally.proofs.Following.{shape}
use Rattle.fm_tally.proofs.Walk.{IsWalk, first_row, first_entries}

module _ (k : Table) (t : ℕ) (v : TaskValue) (rest : List (ℕ × TaskValue)) (ps : List ((ℕ × ℕ) × List (ℕ × Spot))) (walk : IsWalk k ((t, v) ∷ rest) ps) where
  -- what is found of the task
  pub found_is : (o : Option UnfinishedTask) → o ≡ option_map (λ s. task_with s (winner_spot ps (t, v.1.attempt))) (unfinished_spec v) → o ≡ unfinished_at k t
  found_is o found =
      found
      ∙ ap (λ es. option_map (λ s. task_with s (option_map (λ w. w.1) (head_option (or_else [] es)))) (unfinished_spec v)) (first_entries k t v rest ps walk v.1.attempt)
      ∙ sym (ap (λ r. shape r (λ a. lookup attempt_cmp (t, a) k.proposals)) (first_row k t v rest ps walk))
