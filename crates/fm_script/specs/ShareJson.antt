-- The share that a JSON value spells (this project's profile).
use Rattle.std.specs.Prelude.{ℕ, ◌+◌, ◌^◌, ◌&&◌, nat_le, nat_lt, List, Bool, cond, codes, Option, Some, None, is_some, option_map}
use Rattle.serde_json.specs.Data.{Data}
use Rattle.serde_json.specs.Find.{get, as_array}
use Rattle.fm_records.specs.Options.{when, only_if}
use Rattle.fm_share.specs.declared.writers.Writers.{Writers}
use Rattle.fm_share.specs.declared.share.Share.{Share}
use Rattle.fm_share.specs.Shares.{writers_of}
use Rattle.fm_script.specs.Json.{bind, either, whole_number, has_size, list_of}
use Rattle.fm_script.specs.CoordinatorLists.{listed_of}

-- a limit on the places of each machine: from 1, of 32 bits
abbrev pub is_limit : ℕ → Bool
is_limit n = nat_le 1 n && nat_lt n (2 ^ 32)

abbrev pub each_of : Data → Option ℕ
each_of d = only_if is_limit (whole_number d)

-- the set of the writers that an array lists, by the rule for coordinators: at least one, no two of them equal
abbrev pub writers_in : Data → Option Writers
writers_in d = bind (as_array d) (λ items. option_map writers_of (listed_of (list_of items)))

-- what the member of the name spells, which may be left out: nothing, if it is
abbrev pub optional_at : {A : Type 0} → List ℕ → (Data → Option A) → Data → Option (Option A)
optional_at name read d = either (get name d) (λ v. option_map Some (read v)) (Some None)

-- 1 if the value is there, and else 0
abbrev pub count_there : {A : Type 0} → Option A → ℕ
count_there o = cond (is_some o) 1 0

-- a share: an object of its writers and of its limit, of both or of one or of neither, and of no further member
abbrev pub share_in : Data → Option Share
share_in d =
    bind (optional_at (codes "writers") writers_in d) (λ writers.
    bind (optional_at (codes "each") each_of d) (λ each.
    when (has_size (count_there writers + count_there each) d) (record { writers = writers; each = each })))
