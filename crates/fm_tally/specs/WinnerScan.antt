-- The winners of attempts among entries.
use Rattle.std.specs.Prelude.{ℕ, List, [], Option, option_map}
use Rattle.fm_lattice.specs.Maps.{lookup}
use Rattle.fm_records.specs.declared.records.Spot.{Spot}
use Rattle.fm_records.specs.Options.{or_else}
use Rattle.fm_records.specs.Orders.{attempt_cmp}
use Rattle.fm_records.specs.Facts.{head_option}

-- the spot of the entry that wins the attempt: that of the least coordinator that has one
abbrev pub winner_spot : List ((ℕ × ℕ) × List (ℕ × Spot)) → ℕ × ℕ → Option Spot
winner_spot es at = option_map (λ w. w.1) (head_option (or_else [] (lookup attempt_cmp at es)))
