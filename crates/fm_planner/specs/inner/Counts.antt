-- How many moves go where, counted.
use Rattle.std.specs.Prelude.{◌≡◌, ℕ, ◌+◌, ◌==◌, cond, List, Option, Some, None, count_by, unwrap_or}
use Rattle.std.specs.Ordering.{nat_cmp}
use Rattle.std.specs.declared.cmp.Ordering.{Ordering}
use Rattle.std.specs.BTreeMap.{BTreeMap, get}
use Rattle.fm_records.specs.Options.{passes}
use Rattle.fm_records.specs.Orders.{attempt_cmp}
use Rattle.fm_records.specs.Table.{Table}
use Rattle.fm_records.specs.Facts.{holds}
use Rattle.fm_tally.specs.declared.way.Way.{Way}
use Rattle.fm_tally.specs.declared.way.Way.TheVariants.{ToJob, ByRequest, Straight}
use Rattle.fm_paths.specs.TaskPaths.{goes_by, takes_slot}
use Rattle.fm_planner.specs.declared.move_counts.Counts.{Counts}

abbrev pub count_in : {K : Type 0} → (K → K → Ordering) → BTreeMap K ℕ → K → ℕ
count_in cmp counts q = unwrap_or (get cmp counts q) 0

abbrev pub pairs_in : Counts → ℕ → ℕ → ℕ
pairs_in counts r m = count_in attempt_cmp counts.pairs (r, m)

abbrev pub arriving_in : Counts → ℕ → ℕ
arriving_in counts m = count_in nat_cmp counts.arriving m

abbrev pub leaving_in : Counts → ℕ → ℕ
leaving_in counts m = count_in nat_cmp counts.leaving m

-- the request and the machine of a way over a request, and the machine of which a way takes a slot
abbrev pub pair_of : Way → Option (ℕ × ℕ)
pair_of (ToJob j) = None
pair_of (ByRequest r m) = Some (r, m)
pair_of (Straight m) = None

abbrev pub moved_machine : Way → Option ℕ
moved_machine (ToJob j) = None
moved_machine (ByRequest r m) = Some m
moved_machine (Straight m) = Some m

-- the counts of the moves
pub record AreCounts (k : Table) (moves : List (ℕ × Way)) (counts : Counts) : Type 0 where
  pub pairs : (r m : ℕ) → pairs_in counts r m ≡ count_by (goes_by r m) moves
  pub arriving : (m : ℕ) → arriving_in counts m ≡ count_by (takes_slot m) moves
  pub leaving : (m : ℕ) → leaving_in counts m ≡ count_by (λ w. holds k m w.0) moves

-- one move more is counted, of whatever task has this holder
pub record CountsMore (holder : Option ℕ) (way : Way) (old new : Counts) : Type 0 where
  pub pairs : (r m t : ℕ) → pairs_in new r m ≡ pairs_in old r m + cond (goes_by r m (t, way)) 1 0
  pub arriving : (m t : ℕ) → arriving_in new m ≡ arriving_in old m + cond (takes_slot m (t, way)) 1 0
  pub leaving : (m : ℕ) → leaving_in new m ≡ leaving_in old m + cond (passes (λ h. h == m) holder) 1 0
