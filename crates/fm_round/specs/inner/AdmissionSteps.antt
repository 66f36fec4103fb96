-- How admission goes on, entry by entry.
use Rattle.std.specs.Prelude.{◌≡◌, ℕ, ◌+◌, cond, Bool, ◌==◌, ◌&&◌, ◌++◌, Option, Some, None, IsTrue}
use Rattle.std.specs.Ordering.{nat_cmp}
use Rattle.fm_lattice.specs.Chains.{by_order}
use Rattle.fm_lattice.specs.Joins.{min_join}
use Rattle.fm_know.specs.declared.facts.Winner.{Winner}
use Rattle.fm_records.specs.declared.records.Spot.{Spot}
use Rattle.fm_records.specs.Orders.{spot_cmp}
use Rattle.fm_records.specs.Ranges.{all_in_range}
use Rattle.fm_records.specs.OpsOfTable.{IsTable}
use Rattle.fm_records.specs.Table.{Table}
use Rattle.fm_records.specs.Facts.{winner_of, attempt_of}
use Rattle.fm_round.specs.declared.admission.AdmissionState.{AdmissionState}
use Rattle.fm_round.specs.declared.plan.Place.{Place}
use Rattle.fm_round.specs.declared.plan.Admitted.{Admitted}
use Rattle.fm_round.specs.Admission.{told, has_proposal}

-- the attempt that a place is for: the present one if that has no proposal, else the next
abbrev pub place_attempt : Table → Place → ℕ
place_attempt k p = let a = attempt_of k p.task in cond (has_proposal k p.task a) (a + 1) a

-- one entry more, or several, with these operations and answers, are dealt with
pub record Took (more : Admitted) (old new : AdmissionState) : Type 0 where
  pub now : new.now ≡ told old.now more.ops
  pub ops : new.ops.items ≡ old.ops.items ++ more.ops
  pub answers : new.answers.items ≡ old.answers.items ++ more.answers

-- what is known is a table, and what was added is in range
pub record IsAdmissionState (hearing : AdmissionState) : Type 0 where
  pub table : IsTable hearing.now
  pub in_range : IsTrue (all_in_range hearing.ops.items)

-- the winner of an attempt once coordinator c has proposed the spot for it too
abbrev pub winner_with : Option (ℕ × Spot) → ℕ → Spot → ℕ × Spot
winner_with None c s = (c, s)
winner_with (Some w) c s = by_order (nat_cmp c w.0) (c, s) (w.0, min_join spot_cmp w.1 s) w

abbrev pub as_pair : Winner → ℕ × Spot
as_pair w = (w.coordinator, record { machine = w.machine; incarnation = w.incarnation })

-- where a place would go, and where the winner would be once it were proposed
abbrev pub spot_of : Place → Spot
spot_of p = record { machine = p.machine; incarnation = p.incarnation }

abbrev pub winning_spot : ℕ → Table → Place → Spot
winning_spot c k p = (winner_with (winner_of k p.task (place_attempt k p)) c (spot_of p)).1

-- the spot is the place's
abbrev pub is_spot_of : Place → Spot → Bool
is_spot_of p s = s.machine == p.machine && s.incarnation == p.incarnation
