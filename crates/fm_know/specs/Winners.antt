-- The entry that wins an attempt.
use Rattle.std.specs.Prelude.{ℕ}
use Rattle.fm_records.specs.declared.records.Spot.{Spot}
use Rattle.fm_know.specs.declared.facts.Winner.{Winner}

-- a coordinator and the spot of its entry, as a record
abbrev pub as_winner : ℕ × Spot → Winner
as_winner w = record { coordinator = w.0; machine = w.1.machine; incarnation = w.1.incarnation }
