use Rattle.std.proofs.Common.{◌≡◌, ◌-◌, length, take, None}
use Rattle.std.specs.Ordering.{nat_cmp}
use Rattle.fm_wire.specs.Formats.{records_at}
use Rattle.fm_wire.specs.Grammar.{id, price_field}
use Rattle.fm_wire.proofs.Walks.{with_front}
use Rattle.fm_wire.proofs.preferences.entries_at.Given as goal

-- what was read and what is left are all
abbrev pub invariant-loop-place : goal.invariant-loop-place
invariant-loop-place l = record {
  so_far : with_front (take l.place l.row) (records_at nat_cmp id price_field (l.count - l.place) l.last l.rest) ≡ records_at nat_cmp id price_field l.count None l.bytes;
  whole : length l.row ≡ 4;
}
