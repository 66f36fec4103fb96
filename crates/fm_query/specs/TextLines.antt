-- Lines of text, one for each item of a list.
use Rattle.std.specs.Prelude.{ℕ, List, ◌++◌, codes}
use Rattle.std.specs.List.{flat_map}

-- each item's text, with a line feed
abbrev pub text_of_lines : {T : Type 0} → (T → List ℕ) → List T → List ℕ
text_of_lines text = flat_map (λ item. text item ++ codes "\n")
