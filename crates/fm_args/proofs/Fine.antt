-- If the last argument was given and is not at fault, the command is told, unless help is asked for.
use Rattle.std.proofs.Common.{◌≡◌, ◌==◌, refl, true, false, Bool, ℕ, List, [], ◌∷◌, Option, Some, None}
use Rattle.std.specs.Prelude.{bytes_eq, codes, slice_get}
use Rattle.std.specs.Str.{chars}
use Rattle.clap.specs.Lexer.{long_of, short_of}
use Rattle.clap.specs.Words.{Row, Rule}
use Rattle.clap.specs.Walk.{arg_by_index, idle}
use Rattle.clap.specs.Faults.{settle_fault}
use Rattle.clap.proofs.OnLiterals.{clap_on_literals}
use Rattle.fm_args.specs.Invocation.{Telling, Text, wrong}
use Rattle.fm_args.specs.CommandLine.{dashes, long, short, ends, ends_after, look_telling}
use Rattle.fm_args.proofs.Looks.{by_look, is_end, letter_in}
use Rattle.fm_args.proofs.Leaf.{HasLetterOfHelp, HelpsAt, at, built_with, held_at, leaf_from}

-- what stands before the next word, if nothing waits for a value
pub record Place : Type 0 where
  pub name : Text
  pub rules : List Rule
  pub tell : List Row → Telling
  pub rows : List Row
  pub pending : Option (Text × List Text)
  pub position : ℕ
  pub no_fault : settle_fault rules false (held_at rows pending) ≡ []
  pub letters : HasLetterOfHelp rules

abbrev pub comes : Place → List Text → List Telling
comes p rest = leaf_from (built_with p.name p.rules) p.tell (at p.rows p.pending idle p.position) rest

-- no argument takes one more word, and so the command tells this
pub record IsLast (p : Place) (t : Telling) : Type 0 where
  pub no_positional : arg_by_index p.rules p.position ≡ None
  pub is_told : comes p [] ≡ t ∷ []

-- a long name that is no argument's, but that of help
pub at_long : (p : Place) (w : Text) (rest : List Text) (n : Text) (v : Option Text) → is_end w ≡ false → long_of w ≡ Some (n, v) → HelpsAt p.rules n
    → comes p (w ∷ rest) ≡ look_telling (long n v) ∷ []
unfolding clap_on_literals
at_long p w rest n v e l k = go (bytes_eq (codes "help") n) v refl l
  where
    go : (b : Bool) (u : Option Text) → bytes_eq (codes "help") n ≡ b → long_of w ≡ Some (n, u) → comes p (w ∷ rest) ≡ look_telling (long n u) ∷ []
    go true None h l = rw (e, l, k, h, p.no_fault) refl
    go true (Some x) h l = rw (e, l, k, h) refl
    go false None h l = rw (e, l, k, h) refl
    go false (Some x) h l = rw (e, l, k, h) refl

pub at_short : (p : Place) (w : Text) (rest : List Text) (x : ℕ) (xs : Text) (c : ℕ) → is_end w ≡ false → long_of w ≡ None → short_of w ≡ Some (x ∷ xs) → slice_get (chars (x ∷ xs)) 0 ≡ Some c
    → comes p (w ∷ rest) ≡ look_telling (short c) ∷ []
unfolding clap_on_literals
at_short p w rest x xs c e l s o = go (104 == c) refl
  where
    go : (b : Bool) → (104 == c) ≡ b → comes p (w ∷ rest) ≡ look_telling (short c) ∷ []
    go true h = rw (e, l, s, o, p.letters c, h, p.no_fault) refl
    go false h = rw (e, l, s, o, p.letters c, h) refl

pub at_dashes : (p : Place) (t : Telling) → IsLast p t → (w : Text) (rest : List Text) → is_end w ≡ true → comes p (w ∷ rest) ≡ ends_after dashes t rest ∷ []
unfolding clap_on_literals
at_dashes p t last w [] e = rw e last.is_told
at_dashes p t last w (v ∷ rest) e = rw (e, last.no_positional) refl

pub at_plain : (p : Place) (t : Telling) → IsLast p t → (w : Text) (rest : List Text) (flags : Option Text) → is_end w ≡ false → long_of w ≡ None → short_of w ≡ flags → letter_in flags ≡ None
    → comes p (w ∷ rest) ≡ wrong ∷ []
unfolding clap_on_literals
at_plain p t last w rest None e l s o = rw (e, l, s, last.no_positional) refl
at_plain p t last w rest (Some []) e l s o = rw (e, l, s, last.no_positional) refl
at_plain p t last w rest (Some (x ∷ xs)) e l s o = rw (e, l, s, o, last.no_positional) refl

-- if help alone has a long name
pub fine : (p : Place) (t : Telling) → IsLast p t → (rest : List Text) → ((n : Text) → HelpsAt p.rules n) → comes p rest ≡ ends t rest ∷ []
fine p t last [] k = last.is_told
fine p t last (w ∷ rest) k = by_look w (λ look. comes p (w ∷ rest) ≡ ends_after look t rest ∷ [])
    (at_dashes p t last w rest) (λ n v e l. at_long p w rest n v e l (k n)) (at_short p w rest) (at_plain p t last w rest)
