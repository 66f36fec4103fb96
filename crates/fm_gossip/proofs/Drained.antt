-- Loops whose iterator has come to its end, and lists of which nothing is left.
use Rattle.std.proofs.Common.{◌≡◌, List, [], ◌++◌, ◌∙◌, map, sym, ap}
use Rattle.std.proofs.lemmas.List.{append-nil}

-- what was made of each is made of all
pub all_made : {A B : Type 0} (rest : List A) (f : A → B) (done whole : List B) → rest ≡ [] → done ++ map f rest ≡ whole → done ≡ whole
all_made rest f done whole none so_far = sym (append-nil done) ∙ ap (λ xs. done ++ map f xs) (sym none) ∙ so_far

-- the same of what each shows
pub all_made_of : {A B C : Type 0} (rest : List A) (s : A → B) (f : B → C) (done whole : List C) → rest ≡ [] → done ++ map f (map s rest) ≡ whole → done ≡ whole
all_made_of rest s f done whole none so_far = sym (append-nil done) ∙ ap (λ xs. done ++ map f (map s xs)) (sym none) ∙ so_far

-- of nothing nothing is added
pub none_added : {A B C : Type 0} (rest : List A) (s : A → B) (f : B → C) (done : List C) → rest ≡ [] → done ≡ done ++ map f (map s rest)
none_added rest s f done none = sym (append-nil done) ∙ ap (λ xs. done ++ map f (map s xs)) (sym none)
