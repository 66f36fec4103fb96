-- What `serde_json`'s views of lists and members are, as lists.
use Rattle.std.proofs.Common.{◌≡◌, suc, List, [], ◌∷◌, length, String, Global, refl, ap}
use Rattle.serde_json.specs.Data.{Data}
use Rattle.serde_json.specs.View.{items_of, members_view}
use Rattle.serde_json.specs.declared.value.Value.{Value}
use Rattle.fm_script.specs.Json.{count_of, list_of}

-- an object has as many members as its map has entries
pub count_of-members_view : (es : List (String Global × Value)) → count_of (members_view es) ≡ length es
count_of-members_view [] = refl
count_of-members_view (e ∷ es) = ap suc (count_of-members_view es)

-- the items of a list of values are the list
pub list_of-items_of : (ds : List Data) → list_of (items_of ds) ≡ ds
list_of-items_of [] = refl
list_of-items_of (d ∷ ds) = ap (λ xs. d ∷ xs) (list_of-items_of ds)
