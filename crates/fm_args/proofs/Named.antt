-- The commands that take a name.
use Rattle.std.proofs.Common.{◌≡◌, ◌∙◌, refl, true, false, List, [], ◌∷◌, Option, Some, None, codes}
use Rattle.std.specs.Option.{option_map_or}
use Rattle.clap.specs.Lexer.{long_of, short_of}
use Rattle.clap.specs.Words.{Row, Rule, first_of}
use Rattle.clap.specs.Simple.{filled_from, help_rule}
use Rattle.clap.specs.Walk.{Walk, idle}
use Rattle.clap.proofs.OnLiterals.{clap_on_literals}
use Rattle.fm_args.specs.Invocation.{Telling, Text, wrong}
use Rattle.fm_args.specs.CommandLine.{dashes, name_argument, with_name}
use Rattle.fm_args.specs.Parser.{name_rule}
use Rattle.fm_args.proofs.Looks.{by_look, is_end, letter_in}
use Rattle.fm_args.proofs.Leaf.{at, built_with, helps_at, leaf_from, letter_of_help, passes, start}
use Rattle.fm_args.proofs.Fine.{IsLast, Place, at_long, at_short, fine}

abbrev pub rules : List Rule
rules = filled_from 1 (name_rule ∷ help_rule ∷ [])

-- a command that tells what `give` makes of its name
pub record Named : Type 0 where
  pub called : Text
  pub tell : List Row → Telling
  pub give : Text → Telling
  pub tells : (rows : List Row) → tell rows ≡ option_map_or give (first_of (codes "name") rows) wrong

abbrev pub comes : Named → Walk → List Text → List Telling
comes c walk rest = leaf_from (built_with c.called rules) c.tell walk rest

-- behind the name
abbrev named : Text → Walk
named v = at [] (Some (codes "name", v ∷ [])) idle 2

abbrev begun : Named → Place
begun c = record {
  name = c.called;
  rules = rules;
  tell = c.tell;
  rows = [];
  pending = None;
  position = 1;
  no_fault = refl;
  letters = letter_of_help;
}

abbrev told : Named → Text → Place
told c v = record {
  name = c.called;
  rules = rules;
  tell = c.tell;
  rows = [];
  pending = Some (codes "name", v ∷ []);
  position = 2;
  no_fault = refl;
  letters = letter_of_help;
}

is_last : (c : Named) (v : Text) → IsLast (told c v) (c.give v)
unfolding clap_on_literals
is_last c v = record { no_positional = refl; is_told = rw c.tells refl }

first_dashes : (c : Named) (w : Text) (rest : List Text) → is_end w ≡ true → comes c start (w ∷ rest) ≡ name_argument c.give dashes w rest ∷ []
unfolding clap_on_literals
first_dashes c w [] e = rw e refl
first_dashes c w (v ∷ []) e = rw (e, c.tells) refl
first_dashes c w (v ∷ u ∷ rest) e = rw e refl

first_plain : (c : Named) (w : Text) (rest : List Text) (flags : Option Text) → is_end w ≡ false → long_of w ≡ None → short_of w ≡ flags → letter_in flags ≡ None
    → comes c start (w ∷ rest) ≡ comes c (named w) rest
unfolding clap_on_literals
first_plain c w rest None e l s o = passes (built_with c.called rules) c.tell start (named w) w rest (rw (e, l, s) refl) (rw (e, l, s) refl)
first_plain c w rest (Some []) e l s o = passes (built_with c.called rules) c.tell start (named w) w rest (rw (e, l, s) refl) (rw (e, l, s) refl)
first_plain c w rest (Some (x ∷ xs)) e l s o = passes (built_with c.called rules) c.tell start (named w) w rest (rw (e, l, s, o) refl) (rw (e, l, s, o) refl)

none_given : (c : Named) → comes c start [] ≡ wrong ∷ []
unfolding clap_on_literals
none_given c = refl

pub takes_name : (c : Named) (rest : List Text) → comes c start rest ≡ with_name c.give rest ∷ []
takes_name c [] = none_given c
takes_name c (w ∷ rest) = by_look w (λ look. comes c start (w ∷ rest) ≡ name_argument c.give look w rest ∷ [])
    (first_dashes c w rest) (λ n v e l. at_long (begun c) w rest n v e l (helps_at n)) (at_short (begun c) w rest)
    (λ flags e l s o. first_plain c w rest flags e l s o ∙ fine (told c w) (c.give w) (is_last c w) rest helps_at)
