-- The lines of a text that is made of lines.
use Rattle.std.proofs.Common.{◌≡◌, ℕ, ◌==◌, ◌&&◌, List, [], ◌∷◌, ◌++◌, Bool, true, false, cond, not, refl, ap, ◌∙◌, append_assoc, append-nil}
use Rattle.std.specs.List.{list_all, flat_map}
use Rattle.std.proofs.lemmas.List.Concat.{flat_map-append}
use Rattle.std.proofs.lemmas.List.Folds.{list_all-append}
use Rattle.fm_records.proofs.LookupLaws.{both_true}
use Rattle.fm_io.specs.Lines.{onto_first, lines_of, IsLine, with_line_feed}

-- a byte that is no line feed goes onto the first line
onto : (feed : Bool) (b : ℕ) (lines : List (List ℕ)) → not feed ≡ true → cond feed ([] ∷ lines) (onto_first b lines) ≡ onto_first b lines
onto true b lines h = absurd (let no : ⊥ = cc in no)
onto false b lines h = refl

pub first_line : (line rest : List ℕ) → IsLine line → lines_of (with_line_feed line ++ rest) ≡ line ∷ lines_of rest
first_line [] rest h = refl
first_line (b ∷ line) rest h =
    let parts = both_true (not (b == 10)) (list_all (λ c. not (c == 10)) line) h in
    onto (b == 10) b (lines_of (with_line_feed line ++ rest)) parts.0 ∙ ap (onto_first b) (first_line line rest parts.1)

pub last_line : (b : ℕ) (line : List ℕ) → IsLine (b ∷ line) → lines_of (b ∷ line) ≡ (b ∷ line) ∷ []
last_line b [] h = onto (b == 10) b [] (both_true (not (b == 10)) true h).0
last_line b (c ∷ line) h =
    let parts = both_true (not (b == 10)) (list_all (λ d. not (d == 10)) (c ∷ line)) h in
    onto (b == 10) b (lines_of (c ∷ line)) parts.0 ∙ ap (onto_first b) (last_line c line parts.1)

-- two parts of one line
pub joined_line : (front back : List ℕ) → IsLine front → IsLine back → IsLine (front ++ back)
joined_line front back h e = list_all-append (λ b. not (b == 10)) front back ∙ (λ i. h i && e i)

-- each of them is a line
abbrev pub AreLines : List (List ℕ) → Type 0
AreLines [] = Unit {0}
AreLines (line ∷ lines) = IsLine line × AreLines lines

pub are_more : (lines : List (List ℕ)) (line : List ℕ) → AreLines lines → IsLine line → AreLines (lines ++ line ∷ [])
are_more [] line h e = (e, tt)
are_more (l ∷ lines) line h e = (h.0, are_more lines line h.1 e)

pub ended_more : (lines : List (List ℕ)) (line : List ℕ) → flat_map with_line_feed (lines ++ line ∷ []) ≡ flat_map with_line_feed lines ++ with_line_feed line
ended_more lines line = flat_map-append with_line_feed lines (line ∷ []) ∙ ap (λ t. flat_map with_line_feed lines ++ t) (append-nil (with_line_feed line))

-- whole lines and then more
pub lines_more : (lines : List (List ℕ)) (rest : List ℕ) → AreLines lines → lines_of (flat_map with_line_feed lines ++ rest) ≡ lines ++ lines_of rest
lines_more [] rest h = refl
lines_more (line ∷ lines) rest h =
    ap lines_of (append_assoc (with_line_feed line) (flat_map with_line_feed lines) rest) ∙ first_line line (flat_map with_line_feed lines ++ rest) h.0
    ∙ ap (λ ls. line ∷ ls) (lines_more lines rest h.1)
