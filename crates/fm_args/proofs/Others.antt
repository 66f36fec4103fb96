-- A first word that names no command.
use Rattle.std.proofs.Common.{◌≡◌, ◌∙◌, ◌==◌, ◌++◌, refl, inl, inr, true, false, Bool, ℕ, List, [], ◌∷◌, map, Option, Some, None, codes}
use Rattle.std.specs.Prelude.{find, slice_get, bytes_eq}
use Rattle.std.specs.Str.{chars}
use Rattle.clap.specs.Lexer.{long_of, short_of}
use Rattle.clap.specs.Simple.{names_of}
use Rattle.clap.specs.Walk.{Names, answers_to}
use Rattle.clap.proofs.OnLiterals.{clap_on_literals}
use Rattle.fm_args.specs.Invocation.{Telling, Text, wrong}
use Rattle.fm_args.specs.CommandLine.{Form, dashes, long, short, plain, command_named, commands, look_of, look_telling}
use Rattle.fm_args.specs.inner.ParserOutcomes.{IsOneOf, tellings}
use Rattle.fm_args.proofs.Entering.{all}
use Rattle.fm_args.proofs.Looks.{by_look, is_end, letter_in}

abbrev label : Form → Text × List Text
label c = (c.name, [])

past : (w : Text) (cs : List Form) (more : Names) → find (λ c. bytes_eq c.name w) cs ≡ None → find (answers_to w) (map label cs ++ more) ≡ find (answers_to w) more
past w [] more none = refl
past w (c ∷ cs) more none = go (bytes_eq c.name w) refl (past w cs more)
  where
    go : (b : Bool) → bytes_eq c.name w ≡ b → (find (λ d. bytes_eq d.name w) cs ≡ None → find (answers_to w) (map label cs ++ more) ≡ find (answers_to w) more)
        → find (answers_to w) (map label (c ∷ cs) ++ more) ≡ find (answers_to w) more
    go true e later = let bad : Some c ≡ None = rw e at none in cc
    go false e later = let left : find (λ d. bytes_eq d.name w) cs ≡ None = rw e at none in rw e (later left)

-- no name that the parser knows, `help` included, is the word
abbrev IsNone : Text → Type 0
IsNone w = find (answers_to w) (names_of all) ≡ None

is_none : (w : Text) → command_named w ≡ None → bytes_eq (codes "help") w ≡ false → IsNone w
is_none w none no_help = past w commands ((codes "help", []) ∷ []) none ∙ rw no_help refl

pub single : (t x : Telling) → IsOneOf t (x ∷ []) → t ≡ x
single t x (inl e) = e
single t x (inr h) = absurd h

double : (t x : Telling) → IsOneOf t (x ∷ x ∷ []) → t ≡ x
double t x (inl e) = e
double t x (inr (inl e)) = e
double t x (inr (inr h)) = absurd h

-- all that may be told is the one thing
abbrev Tells : List Text → Telling → Type 0
Tells words x = (t : Telling) → IsOneOf t (tellings words) → t ≡ x

other_dashes : (name w : Text) (rest : List Text) → IsNone w → is_end w ≡ true → Tells (name ∷ w ∷ rest) (look_telling dashes)
unfolding clap_on_literals
other_dashes name w [] i e t h = single t wrong (rw (i, e) at h)
other_dashes name w (v ∷ rest) i e t h = double t wrong (rw (i, e) at h)

other_long : (name w : Text) (rest : List Text) → IsNone w → (n : Text) (v : Option Text) → is_end w ≡ false → long_of w ≡ Some (n, v) → Tells (name ∷ w ∷ rest) (look_telling (long n v))
unfolding clap_on_literals
other_long name w rest i n v e l = go (bytes_eq (codes "help") n) v refl l
  where
    go : (b : Bool) (u : Option Text) → bytes_eq (codes "help") n ≡ b → long_of w ≡ Some (n, u) → Tells (name ∷ w ∷ rest) (look_telling (long n u))
    go true None k l t h = single t (look_telling (long n None)) (rw k (rw (i, e, l, k) at h))
    go true (Some x) k l t h = single t wrong (rw (i, e, l, k) at h)
    go false None k l t h = single t (look_telling (long n None)) (rw k (rw (i, e, l, k) at h))
    go false (Some x) k l t h = single t wrong (rw (i, e, l, k) at h)

other_short : (name w : Text) (rest : List Text) → IsNone w → (x : ℕ) (xs : Text) (c : ℕ) → is_end w ≡ false → long_of w ≡ None → short_of w ≡ Some (x ∷ xs) → slice_get (chars (x ∷ xs)) 0 ≡ Some c
    → Tells (name ∷ w ∷ rest) (look_telling (short c))
unfolding clap_on_literals
other_short name w rest i x xs c e l s o = go (104 == c) refl
  where
    go : (b : Bool) → (104 == c) ≡ b → Tells (name ∷ w ∷ rest) (look_telling (short c))
    go b k t h = single t (look_telling (short c)) (told b k)
      where
        told : (b : Bool) → (104 == c) ≡ b → IsOneOf t (look_telling (short c) ∷ [])
        told true k = rw k (rw (i, e, l, s, o, k) at h)
        told false k = rw k (rw (i, e, l, s, o, k) at h)

other_plain : (name w : Text) (rest : List Text) → IsNone w → (flags : Option Text) → is_end w ≡ false → long_of w ≡ None → short_of w ≡ flags → letter_in flags ≡ None
    → Tells (name ∷ w ∷ rest) (look_telling plain)
unfolding clap_on_literals
other_plain name w rest i None e l s o t h = double t wrong (rw (i, e, l, s) at h)
other_plain name w rest i (Some []) e l s o t h = double t wrong (rw (i, e, l, s) at h)
other_plain name w rest i (Some (x ∷ xs)) e l s o t h = double t wrong (rw (i, e, l, s, o) at h)

pub other : (name w : Text) (rest : List Text) → command_named w ≡ None → bytes_eq (codes "help") w ≡ false → Tells (name ∷ w ∷ rest) (look_telling (look_of w))
other name w rest none no_help =
    let i = is_none w none no_help in
    by_look w (λ look. Tells (name ∷ w ∷ rest) (look_telling look))
    (other_dashes name w rest i) (other_long name w rest i) (other_short name w rest i) (other_plain name w rest i)
