-- Ids as numbers, and their texts.
use Rattle.std.specs.Prelude.{ℕ, Bool, nat_le, ◌&&◌, List, Option, option_map}
use Rattle.std.specs.Int.{from_be_bytes, to_be_bytes, w128}
use Rattle.uuid.specs.Text.{parsed, hyphenated_text, lower}
use Rattle.fm_records.specs.Options.{when}

-- the number that a text stands for, in any of the forms of a UUID (RFC 9562: sixteen bytes, the first the most significant)
abbrev pub read_id : List ℕ → Option ℕ
read_id text = option_map (from_be_bytes w128) (parsed text)

-- the text of an id: a UUID in lower case with hyphens (RFC 9562)
abbrev pub id_text : ℕ → List ℕ
id_text n = hyphenated_text lower (to_be_bytes w128 n)

-- coordinators, and what they sign as writers, are numbered from 1 to 64 (this project's profile)
abbrev pub is_coordinator : ℕ → Bool
is_coordinator n = nat_le 1 n && nat_le n 64

-- the coordinator with the number, if there can be one
abbrev pub coordinator_id : ℕ → Option ℕ
coordinator_id n = when (is_coordinator n) n
