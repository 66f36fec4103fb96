-- Which deltas of a coordinator are its own, and what of them goes out as its own news (this project's profile).
use Rattle.std.specs.Prelude.{ℕ, ◌+◌, ◌==◌, Bool, true, false, cond, nat_lt, List, length, drop, map, Option, Some, None}
use Rattle.std.specs.Bool.{beq}
use Rattle.std.specs.List.{filter_map, prefix_len}
use Rattle.fm_records.specs.Options.{when}
use Rattle.fm_coord.specs.declared.entry.Call.{Call}
use Rattle.fm_coord.specs.declared.entry.Call.TheVariants as call
use Rattle.fm_coord.specs.declared.entry.Range.{Range}
use Rattle.fm_coord.specs.declared.entry.Range.TheVariants.{Interval, Full}
use Rattle.fm_coord.specs.Events.{Replica}
use Rattle.fm_coord.specs.States.{step_asked}

-- whether a call adds a delta, and whether that is the coordinator's own. What it is told and what it commits is its own. What it merges
-- is another's, but for what it knew when it was renewed, which is a packet with the number 0
abbrev pub delta_by : Call → Option Bool
delta_by (call.Tell op) = Some true
delta_by (call.Commit plan) = Some true
delta_by (call.Merge packet) = Some (packet.number == 0)
delta_by (call.Cut range) = None
delta_by (call.Trim n) = None
delta_by call.View = None

-- of the deltas that calls add, in their order: whether each is the coordinator's own
abbrev pub deltas_by : List (ℕ × Call) → List Bool
deltas_by = filter_map (λ asked. delta_by asked.1)

abbrev pub own_deltas : Replica → List Bool
own_deltas r = deltas_by (map step_asked r.steps)

-- how many of them from a number on are all its own, or all others'
abbrev pub count_from : Bool → ℕ → List Bool → ℕ
count_from own n deltas = prefix_len (λ is_own. beq is_own own) (drop n deltas)

-- the first longest run of own deltas from the mark on: the number of its first, and that behind its last
abbrev pub first_run : ℕ → List Bool → ℕ × ℕ
first_run mark deltas =
    let from = mark + count_from false mark deltas in
    (from, from + count_from true from deltas)

-- what goes out as a replica's own news: the first longest run of its own deltas from the mark on, if there is one; or all that it took
-- in, if some delta from the mark on was dropped
abbrev pub own_news_since : ℕ → Replica → Option Range
own_news_since mark r =
    let run = first_run mark (own_deltas r) in
    cond (nat_lt mark r.floor) (Some Full) (when (nat_lt run.0 run.1) (Interval run.0 run.1))

-- up to which delta its own have gone out then
abbrev pub own_mark_after : ℕ → Replica → ℕ
own_mark_after mark r = cond (nat_lt mark r.floor) (length r.buffer) (first_run mark (own_deltas r)).1
