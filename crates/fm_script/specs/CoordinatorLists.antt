-- Coordinators that a JSON value lists (this project's profile).
use Rattle.std.specs.Prelude.{ℕ, ◌==◌, ◌&&◌, List, [], ◌∷◌, map, Bool, true, false, not, codes, Option}
use Rattle.std.specs.List.{list_any}
use Rattle.serde_json.specs.Data.{Data}
use Rattle.fm_records.specs.Ids.{is_coordinator}
use Rattle.fm_records.specs.Options.{only_if}
use Rattle.fm_script.specs.Json.{bind, whole_number, items_at, all_there}

-- a coordinator's number, from 1 to 64
abbrev pub coordinator_of : Data → Option ℕ
coordinator_of d = only_if is_coordinator (whole_number d)

-- the number is one of those listed
abbrev pub is_listed : List ℕ → ℕ → Bool
is_listed listed n = list_any (λ c. c == n) listed

-- no number comes twice
abbrev pub are_distinct : List ℕ → Bool
are_distinct [] = true
are_distinct (n ∷ ns) = not (is_listed ns n) && are_distinct ns

-- coordinators: at least one number, no two of them equal
abbrev pub are_coordinators : List ℕ → Bool
are_coordinators [] = false
are_coordinators (n ∷ ns) = are_distinct (n ∷ ns)

-- the coordinators that the items list
abbrev pub listed_of : List Data → Option (List ℕ)
listed_of ds = only_if are_coordinators (all_there (map coordinator_of ds))

abbrev pub coordinators_of : Data → Option (List ℕ)
coordinators_of d = bind (items_at (codes "coordinators") d) listed_of
