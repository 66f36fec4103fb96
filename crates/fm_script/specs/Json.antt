-- Members of a JSON object, each at the type that it is to have (this project's profile).
use Rattle.std.specs.Prelude.{ℕ, suc, ◌^◌, ◌==◌, List, [], ◌∷◌, Bool, nat_lt, Option, Some, None, option_map}
use Rattle.serde_json.specs.Data.{Data, Items, no_items, item, Members, no_members, member}
use Rattle.serde_json.specs.Find.{get, as_number, as_u64, as_bool, as_str, as_array, as_object}
use Rattle.fm_records.specs.Ids.{read_id}
use Rattle.fm_records.specs.Options.{when, passes}

-- what the function makes of the value, if there is one
abbrev pub bind : {A B : Type 0} → Option A → (A → Option B) → Option B
bind None f = None
bind (Some a) f = f a

-- the number, if it is below the bound
abbrev pub below : ℕ → ℕ → Option ℕ
below bound n = when (nat_lt n bound) n

-- the whole number that a value is, of 64 bits
abbrev pub whole_number : Data → Option ℕ
whole_number d = bind (as_number d) as_u64

-- the whole number in the member of the name, and the same if it fits a type of fewer bits
abbrev pub number_at : List ℕ → Data → Option ℕ
number_at name d = bind (get name d) whole_number

abbrev pub number_32_at : List ℕ → Data → Option ℕ
number_32_at name d = bind (number_at name d) (below (2 ^ 32))

abbrev pub number_8_at : List ℕ → Data → Option ℕ
number_8_at name d = bind (number_at name d) (below (2 ^ 8))

-- the truth value in the member of the name
abbrev pub flag_at : List ℕ → Data → Option Bool
flag_at name d = bind (get name d) as_bool

-- the text in the member of the name
abbrev pub text_at : List ℕ → Data → Option (List ℕ)
text_at name d = bind (get name d) as_str

-- the id that the text in the member of the name spells
abbrev pub id_at : List ℕ → Data → Option ℕ
id_at name d = bind (text_at name d) read_id

-- how many members an object has
abbrev pub count_of : Members → ℕ
count_of no_members = 0
count_of (member name d ms) = suc (count_of ms)

-- the value is an object of that many members
abbrev pub has_size : ℕ → Data → Bool
has_size n d = passes (λ ms. count_of ms == n) (as_object d)

-- the items of an array
abbrev pub list_of : Items → List Data
list_of no_items = []
list_of (item d ds) = d ∷ list_of ds

-- the items of the array in the member of the name
abbrev pub items_at : List ℕ → Data → Option (List Data)
items_at name d = option_map list_of (bind (get name d) as_array)

-- all of the values, if each is there
abbrev pub all_there : {A : Type 0} → List (Option A) → Option (List A)
all_there [] = Some []
all_there (o ∷ os) = bind o (λ a. option_map (λ rest. a ∷ rest) (all_there os))

-- what the first of the members that is there spells
abbrev pub either : {A : Type 0} → Option Data → (Data → Option A) → Option A → Option A
either None f other = other
either (Some d) f other = f d
