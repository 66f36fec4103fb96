-- Buffers of deltas, and what a cut of one is. Delta-state CRDTs (Almeida, Shoker and Baquero): the delta group of a
-- delta-interval is the join of its deltas.
use Rattle.std.specs.Prelude.{ℕ, ◌+◌, ◌-◌, Bool, cond, nat_lt, nat_le, ◌||◌, ◌&&◌, List, [], ◌∷◌, ◌++◌, length, drop, Option, Some}
use Rattle.std.specs.List.{slice_range}
use Rattle.fm_records.specs.declared.refusal.Refusal.{Refusal}
use Rattle.fm_records.specs.declared.refusal.Refusal.TheVariants.{BadInterval, Trimmed}
use Rattle.fm_records.specs.Options.{when}
use Rattle.fm_records.specs.Table.{Table}
use Rattle.fm_records.specs.Know.{table_of}
use Rattle.fm_records.specs.Joined.{table_join}

-- the deltas that were pushed, counted from 0: those below the floor were dropped, the others are kept in order
pub record Deltas : Type 0 where
  pub floor : ℕ
  pub kept : List Table

-- a buffer: its deltas, and how many more can be pushed without allocating
pub record WithRoom : Type 0 where
  pub deltas : Deltas
  pub room : ℕ

-- how many were pushed
abbrev pub end_of : Deltas → ℕ
end_of b = b.floor + length b.kept

-- with one more at the end
abbrev pub with_delta : Deltas → Table → Deltas
with_delta b delta = record { floor = b.floor; kept = b.kept ++ delta ∷ [] }

-- with the floor at n
abbrev pub with_floor : Deltas → ℕ → Deltas
with_floor b n = record { floor = n; kept = drop (n - b.floor) b.kept }

-- the deltas from, .., to - 1
abbrev pub between : Deltas → ℕ → ℕ → List Table
between b from to = slice_range b.kept (from - b.floor) (to - b.floor)

-- the table with each delta joined in, in turn
abbrev pub joined_from : Table → List Table → Table
joined_from k [] = k
joined_from k (delta ∷ deltas) = joined_from (table_join k delta) deltas

-- the join of all deltas
abbrev pub joined_all : List Table → Table
joined_all = joined_from (table_of [])

-- why a cut is refused, unless memory ran out: it ends before it starts or beyond the end, or it starts
-- below the floor
abbrev pub cut_fault : Deltas → ℕ → ℕ → Option Refusal
cut_fault b from to = cond (nat_lt to from || nat_lt (end_of b) to) (Some BadInterval) (when (nat_lt from b.floor) (Trimmed b.floor))

-- the floor can be n: it does not fall, and stays within the end
abbrev pub can_trim : Deltas → ℕ → Bool
can_trim b n = nat_le b.floor n && nat_le n (end_of b)
