-- Entries of a history by the deltas that they add.
use Rattle.std.specs.Prelude.{◌≡◌, ◌≤◌, ℕ, ◌++◌, Bool, List, length, map}
use Rattle.fm_coord.specs.declared.entry.Entry.{Entry}
use Rattle.fm_coord.specs.States.{caller_and_call}
use Rattle.fm_service.specs.OwnNews.{deltas_by}

-- of the deltas that entries added, in their order: whether each is the coordinator's own
abbrev pub added_by : List Entry → List Bool
added_by entries = deltas_by (map caller_and_call entries)

-- the latest entries of a history, which added n deltas, if all its entries added as many
pub record AreLatest (history : List Entry) (n : ℕ) (latest : List Entry) : Type 0 where
  pub earlier : List Entry
  pub whole : history ≡ earlier ++ latest
  pub added : n ≤ length (added_by history) → length (added_by latest) ≡ n
