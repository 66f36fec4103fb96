-- Whose packets a store has (this project's profile).
use Rattle.std.specs.Prelude.{◌≡◌, ℕ, ◌≤◌, ◌==◌, ◌||◌, Bool, false, IsTrue, List, [], ◌∷◌, ◌++◌, length}
use Rattle.std.specs.List.{list_all, list_any}
use Rattle.fm_records.specs.Ids.{is_coordinator}

-- a cluster, by its label in UTF-8 and by its coordinators as they were first listed
pub record HeadModel : Type 0 where
  pub label : List ℕ
  pub numbers : List ℕ

-- a number is listed twice
abbrev pub has_repeat : List ℕ → Bool
has_repeat [] = false
has_repeat (n ∷ ns) = list_any (λ m. m == n) ns || has_repeat ns

-- the label has at most 200 bytes, and at most 64 coordinators are listed, each once
abbrev pub IsHead : HeadModel → Type 0
IsHead head = (length head.label ≤ 200) × (length head.numbers ≤ 64) × (has_repeat head.numbers ≡ false)

-- the record of a head: in a byte how many coordinators there are, the number of each in a byte, and the label
abbrev pub head_record : HeadModel → List ℕ
head_record head = length head.numbers ∷ (head.numbers ++ head.label)

-- the bytes are the record of the head, whose coordinators have numbers from 1 to 64
abbrev pub IsHeadRecord : HeadModel → List ℕ → Type 0
IsHeadRecord head bytes = IsHead head × IsTrue (list_all is_coordinator head.numbers) × (bytes ≡ head_record head)
