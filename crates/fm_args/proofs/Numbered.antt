-- The commands that take an option with a number.
use Rattle.std.proofs.Common.{◌≡◌, ◌∙◌, ◌<◌, ◌^◌, ap, sym, refl, subst, ℕ, Bool, true, false, List, [], ◌∷◌, Option, Some, None, codes}
use Rattle.std.specs.Prelude.{bytes_eq, is_some, pos}
use Rattle.std.proofs.lemmas.Slice.Eq.{bytes_eq-Decides}
use Rattle.clap.specs.Lexer.{long_of, short_of, without_minus}
use Rattle.clap.specs.ValueTests.{is_signed_in}
use Rattle.clap.specs.Words.{Row, Rule, Shape}
use Rattle.clap.specs.Simple.{filled_from, help_rule}
use Rattle.clap.specs.Walk.{Waiting, Walk, idle}
use Rattle.clap.specs.Walk as waiting
use Rattle.clap.specs.Faults.{settle_fault}
use Rattle.clap.specs.declared.builder.value_parser.Reading.TheVariants as reading
use Rattle.clap.specs.declared.error.ErrorKind.TheVariants as kind
use Rattle.clap.specs.declared.parser.matches.ValueSource.TheVariants.{CommandLine}
use Rattle.clap.proofs.OnLiterals.{clap_on_literals}
use Rattle.fm_args.specs.Invocation.{Telling, Text, wrong}
use Rattle.fm_args.specs.CommandLine.{long, ends, ends_after, look_telling, counts, number_option, number_argument, parsed_number, option_at, with_option}
use Rattle.fm_args.specs.Parser.{parsed_bits, number_read, number_rule}
use Rattle.fm_args.proofs.Same.{flipped}
use Rattle.fm_args.proofs.Looks.{by_look, is_end, letter_in}
use Rattle.fm_args.proofs.Digits.{is_read, taken}
use Rattle.fm_args.proofs.Leaf.{HelpsAt, at, built_with, fails, held_at, helps_at, leaf_from, letter_of_help, passes, start}
use Rattle.fm_args.proofs.Faulty.{Faulty, faulty}
use Rattle.fm_args.proofs.Faulty as bad
use Rattle.fm_args.proofs.Fine.{IsLast, Place, at_dashes, at_long, at_plain, at_short}

-- a command that tells what `give` makes of its option's number
pub record Numbered : Type 0 where
  pub called : Text
  pub option_name : Text
  pub least : ℕ
  pub most : ℕ
  pub bits : ℕ
  pub give : Option ℕ → Telling
  pub tell : List Row → Telling
  pub itself : bytes_eq option_name option_name ≡ true
  pub no_help : bytes_eq option_name (codes "help") ≡ false
  pub is_small : most < 2 ^ 63
  pub has_room : most < 2 ^ bits
  pub tells : (rows : List Row) → tell rows ≡ give (number_read bits option_name rows)

abbrev pub rules : Numbered → List Rule
rules c = filled_from 1 (number_rule c.option_name c.least c.most ∷ help_rule ∷ [])

abbrev pub shape : Numbered → Shape
shape c = built_with c.called (rules c)

abbrev pub comes : Numbered → Walk → List Text → List Telling
comes c walk rest = leaf_from (shape c) c.tell walk rest

-- what is made of the number and of the words behind it
abbrev behind : Numbered → ℕ → List Text → Telling
behind c n = ends (c.give (Some n))

abbrev fits : Numbered → Text → Bool
fits c z = is_signed_in (pos c.least) (pos c.most) z

abbrev row : Numbered → Text → Row
row c z = record { id = c.option_name; values = z ∷ []; count = None; source = Some CommandLine; reading = reading.WithoutMinus }

-- the option waits for its number; it has one, in the next word; it has one, in its own word
abbrev waits : Numbered → List Row → Walk
waits c rows = at rows (Some (c.option_name, [])) (waiting.option c.option_name) 1

abbrev next : Numbered → List Row → Text → Walk
next c rows z = at rows (Some (c.option_name, z ∷ [])) idle 1

abbrev own : Numbered → Text → Walk
own c z = at (row c z ∷ []) None idle 1

-- ---- places where whatever follows is wrong

waiting_fault : (c : Numbered) (rows : List Row) → settle_fault (rules c) false (held_at rows (Some (c.option_name, []))) ≡ kind.InvalidValue ∷ []
waiting_fault c rows = rw c.itself refl

abbrev is_waiting : Numbered → List Row → Faulty
is_waiting c rows = record {
  name = c.called;
  rules = rules c;
  tell = c.tell;
  rows = rows;
  pending = Some (c.option_name, []);
  kind = kind.InvalidValue;
  fault = waiting_fault c rows;
  is_wrong = refl;
  letters = letter_of_help;
  position = 1;
  positional = None;
  taker = refl;
  settles = tt;
}

unfit_fault : (c : Numbered) (z : Text) → fits c z ≡ false → settle_fault (rules c) false (held_at [] (Some (c.option_name, z ∷ []))) ≡ kind.ValueValidation ∷ []
unfit_fault c z bad_value = rw (c.itself, bad_value) refl

abbrev is_unfit : (c : Numbered) (z : Text) → fits c z ≡ false → Faulty
is_unfit c z bad_value = record {
  name = c.called;
  rules = rules c;
  tell = c.tell;
  rows = [];
  pending = Some (c.option_name, z ∷ []);
  kind = kind.ValueValidation;
  fault = unfit_fault c z bad_value;
  is_wrong = refl;
  letters = letter_of_help;
  position = 1;
  positional = None;
  taker = refl;
  settles = tt;
}

twice_fault : (c : Numbered) (z y : Text) → settle_fault (rules c) false (held_at (row c z ∷ []) (Some (c.option_name, y ∷ []))) ≡ kind.ArgumentConflict ∷ []
twice_fault c z y = rw (c.itself, c.itself) refl

abbrev is_twice : Numbered → Text → Text → Faulty
is_twice c z y = record {
  name = c.called;
  rules = rules c;
  tell = c.tell;
  rows = row c z ∷ [];
  pending = Some (c.option_name, y ∷ []);
  kind = kind.ArgumentConflict;
  fault = twice_fault c z y;
  is_wrong = refl;
  letters = letter_of_help;
  position = 1;
  positional = None;
  taker = refl;
  settles = tt;
}

-- ---- the option waits for its number

waits_plain : (c : Numbered) (rows : List Row) (w : Text) (rest : List Text) (flags : Option Text) → is_end w ≡ false → long_of w ≡ None → short_of w ≡ flags → letter_in flags ≡ None
    → comes c (waits c rows) (w ∷ rest) ≡ comes c (next c rows w) rest
unfolding clap_on_literals
waits_plain c rows w rest None e l s o = passes (shape c) c.tell (waits c rows) (next c rows w) w rest (rw (e, l, s) refl) (rw (e, l, s, c.itself, c.itself) refl)
waits_plain c rows w rest (Some []) e l s o = passes (shape c) c.tell (waits c rows) (next c rows w) w rest (rw (e, l, s) refl) (rw (e, l, s, c.itself, c.itself) refl)
waits_plain c rows w rest (Some (x ∷ xs)) e l s o = passes (shape c) c.tell (waits c rows) (next c rows w) w rest (rw (e, l, s, o) refl) (rw (e, l, s, o, c.itself, c.itself) refl)

-- given again
again : (c : Numbered) (z : Text) (rest : List Text) → comes c (waits c (row c z ∷ [])) rest ≡ wrong ∷ []
again c z [] = bad.at_last (is_waiting c (row c z ∷ [])) (waiting.option c.option_name)
again c z (w ∷ rest) =
    let f = is_waiting c (row c z ∷ []) in
    let o = waiting.option c.option_name in
    by_look w (λ look. comes c (waits c (row c z ∷ [])) (w ∷ rest) ≡ wrong ∷ [])
    (bad.at_dashes f o w rest) (bad.at_long f o w rest) (bad.at_short f o w rest)
    (λ flags e l s p. waits_plain c (row c z ∷ []) w rest flags e l s p ∙ faulty (is_twice c z w) rest)

-- ---- the option has its number

next_no_fault : (c : Numbered) (z : Text) → fits c z ≡ true → settle_fault (rules c) false (held_at [] (Some (c.option_name, z ∷ []))) ≡ []
next_no_fault c z good = rw (c.itself, good) refl

abbrev in_next : (c : Numbered) (z : Text) → fits c z ≡ true → Place
in_next c z good = record {
  name = c.called;
  rules = rules c;
  tell = c.tell;
  rows = [];
  pending = Some (c.option_name, z ∷ []);
  position = 1;
  no_fault = next_no_fault c z good;
  letters = letter_of_help;
}

abbrev in_own : Numbered → Text → Place
in_own c z = record {
  name = c.called;
  rules = rules c;
  tell = c.tell;
  rows = row c z ∷ [];
  pending = None;
  position = 1;
  no_fault = refl;
  letters = letter_of_help;
}

next_is_last : (c : Numbered) (z : Text) (good : fits c z ≡ true) (n : ℕ) → parsed_bits c.bits (without_minus z) ≡ Some n → IsLast (in_next c z good) (c.give (Some n))
unfolding clap_on_literals
next_is_last c z good n is = record { no_positional = refl; is_told = rw (c.itself, good, c.itself, c.no_help, c.tells, c.itself, is) refl }

own_is_last : (c : Numbered) (z : Text) (n : ℕ) → parsed_bits c.bits (without_minus z) ≡ Some n → IsLast (in_own c z) (c.give (Some n))
unfolding clap_on_literals
own_is_last c z n is = record { no_positional = refl; is_told = rw (c.itself, c.no_help, c.tells, c.itself, is) refl }

-- the option's name is not that of help
no_help_shown : (c : Numbered) (n : Text) (v : Option Text) → bytes_eq c.option_name n ≡ true → look_telling (long n v) ≡ wrong
no_help_shown c n None m =
    let is : c.option_name ≡ n = (bytes_eq-Decides c.option_name n).0 m in
    let flipped : bytes_eq (codes "help") c.option_name ≡ false = flipped c.option_name (codes "help") false c.no_help in
    let other : bytes_eq (codes "help") n ≡ false = subst (λ (x : Text). bytes_eq (codes "help") x ≡ false) is flipped in
    rw other refl
no_help_shown c n (Some x) m = refl

-- a long name that is not the option's is that of help or none
help_at : (c : Numbered) (n : Text) → bytes_eq c.option_name n ≡ false → HelpsAt (rules c) n
help_at c n m = rw m (helps_at n)

next_again : (c : Numbered) (z : Text) → fits c z ≡ true → (w : Text) (rest : List Text) (n : Text) (v : Option Text) → is_end w ≡ false → long_of w ≡ Some (n, v) → bytes_eq c.option_name n ≡ true
    → comes c (next c [] z) (w ∷ rest) ≡ wrong ∷ []
unfolding clap_on_literals
next_again c z good w rest n None e l m = passes (shape c) c.tell (next c [] z) (waits c (row c z ∷ [])) w rest (rw (e, l, m, c.itself, good) refl) (rw (e, l, m, c.itself) refl) ∙ again c z rest
next_again c z good w rest n (Some x) e l m = rw (e, l, m, c.itself, good, c.itself) refl

own_again : (c : Numbered) (z : Text) (w : Text) (rest : List Text) (n : Text) (v : Option Text) → is_end w ≡ false → long_of w ≡ Some (n, v) → bytes_eq c.option_name n ≡ true
    → comes c (own c z) (w ∷ rest) ≡ wrong ∷ []
unfolding clap_on_literals
own_again c z w rest n None e l m = passes (shape c) c.tell (own c z) (waits c (row c z ∷ [])) w rest (rw (e, l, m) refl) (rw (e, l, m) refl) ∙ again c z rest
own_again c z w rest n (Some x) e l m = rw (e, l, m, c.itself) refl

next_ends : (c : Numbered) (z : Text) → fits c z ≡ true → (n : ℕ) → parsed_bits c.bits (without_minus z) ≡ Some n → (rest : List Text) → comes c (next c [] z) rest ≡ ends (c.give (Some n)) rest ∷ []
next_ends c z good n is [] = (next_is_last c z good n is).is_told
next_ends c z good n is (w ∷ rest) =
    let p = in_next c z good in
    let t = c.give (Some n) in
    by_look w (λ look. comes c (next c [] z) (w ∷ rest) ≡ ends_after look t rest ∷ [])
    (at_dashes p t (next_is_last c z good n is) w rest) on_long (at_short p w rest) (at_plain p t (next_is_last c z good n is) w rest)
  where
    on_long : (m : Text) (v : Option Text) → is_end w ≡ false → long_of w ≡ Some (m, v) → comes c (next c [] z) (w ∷ rest) ≡ look_telling (long m v) ∷ []
    on_long m v e l = go (bytes_eq c.option_name m) refl
      where
        go : (b : Bool) → bytes_eq c.option_name m ≡ b → comes c (next c [] z) (w ∷ rest) ≡ look_telling (long m v) ∷ []
        go true k = next_again c z good w rest m v e l k ∙ ap (λ t. t ∷ []) (sym (no_help_shown c m v k))
        go false k = at_long (in_next c z good) w rest m v e l (help_at c m k)

own_ends : (c : Numbered) (z : Text) (n : ℕ) → parsed_bits c.bits (without_minus z) ≡ Some n → (rest : List Text) → comes c (own c z) rest ≡ ends (c.give (Some n)) rest ∷ []
own_ends c z n is [] = (own_is_last c z n is).is_told
own_ends c z n is (w ∷ rest) =
    let p = in_own c z in
    let t = c.give (Some n) in
    by_look w (λ look. comes c (own c z) (w ∷ rest) ≡ ends_after look t rest ∷ [])
    (at_dashes p t (own_is_last c z n is) w rest) on_long (at_short p w rest) (at_plain p t (own_is_last c z n is) w rest)
  where
    on_long : (m : Text) (v : Option Text) → is_end w ≡ false → long_of w ≡ Some (m, v) → comes c (own c z) (w ∷ rest) ≡ look_telling (long m v) ∷ []
    on_long m v e l = go (bytes_eq c.option_name m) refl
      where
        go : (b : Bool) → bytes_eq c.option_name m ≡ b → comes c (own c z) (w ∷ rest) ≡ look_telling (long m v) ∷ []
        go true k = own_again c z w rest m v e l k ∙ ap (λ t. t ∷ []) (sym (no_help_shown c m v k))
        go false k = at_long (in_own c z) w rest m v e l (help_at c m k)

-- ---- the number, as it is spelled

does_fit : (c : Numbered) (z : Text) (o : Option ℕ) → parsed_number c.least c.most z ≡ o → fits c z ≡ is_some o
does_fit c z o is = taken c.least c.most z c.is_small ∙ ap is_some is

in_next_word : (c : Numbered) (z : Text) (rest : List Text) → comes c (next c [] z) rest ≡ counts (behind c) (parsed_number c.least c.most z) rest ∷ []
in_next_word c z rest = go (parsed_number c.least c.most z) refl
  where
    go : (o : Option ℕ) → parsed_number c.least c.most z ≡ o → comes c (next c [] z) rest ≡ counts (behind c) o rest ∷ []
    go (Some n) is = next_ends c z (does_fit c z (Some n) is) n (is_read c.least c.most c.bits z n c.has_room is) rest
    go None is = faulty (is_unfit c z (does_fit c z None is)) rest

in_own_word : (c : Numbered) (w : Text) (rest : List Text) (n z : Text) → is_end w ≡ false → long_of w ≡ Some (n, Some z) → bytes_eq c.option_name n ≡ true
    → comes c start (w ∷ rest) ≡ counts (behind c) (parsed_number c.least c.most z) rest ∷ []
unfolding clap_on_literals
in_own_word c w rest n z e l m = go (parsed_number c.least c.most z) refl
  where
    go : (o : Option ℕ) → parsed_number c.least c.most z ≡ o → comes c start (w ∷ rest) ≡ counts (behind c) o rest ∷ []
    go (Some k) is =
        let good = does_fit c z (Some k) is in
        passes (shape c) c.tell start (own c z) w rest (rw (e, l, m, good) refl) (rw (e, l, m) refl) ∙ own_ends c z k (is_read c.least c.most c.bits z k c.has_room is) rest
    go None is =
        let bad_value = does_fit c z None is in
        fails (shape c) c.tell start w rest kind.ValueValidation (rw (e, l, m, bad_value) refl)

waits_number : (c : Numbered) (rest : List Text) → comes c (waits c []) rest ≡ number_option c.least c.most (behind c) None rest ∷ []
waits_number c [] = bad.at_last (is_waiting c []) (waiting.option c.option_name)
waits_number c (w ∷ rest) =
    let f = is_waiting c [] in
    let o = waiting.option c.option_name in
    by_look w (λ look. comes c (waits c []) (w ∷ rest) ≡ number_argument c.least c.most (behind c) look w rest ∷ [])
    (bad.at_dashes f o w rest) (bad.at_long f o w rest) (bad.at_short f o w rest)
    (λ flags e l s p. waits_plain c [] w rest flags e l s p ∙ in_next_word c w rest)

-- ---- the first word

abbrev begun : Numbered → Place
begun c = record {
  name = c.called;
  rules = rules c;
  tell = c.tell;
  rows = [];
  pending = None;
  position = 1;
  no_fault = refl;
  letters = letter_of_help;
}

begun_is_last : (c : Numbered) → IsLast (begun c) (c.give None)
unfolding clap_on_literals
begun_is_last c = record { no_positional = refl; is_told = rw c.tells refl }

named : (c : Numbered) (w : Text) (rest : List Text) (n : Text) (v : Option Text) → is_end w ≡ false → long_of w ≡ Some (n, v) → bytes_eq c.option_name n ≡ true
    → comes c start (w ∷ rest) ≡ number_option c.least c.most (behind c) v rest ∷ []
unfolding clap_on_literals
named c w rest n None e l m = passes (shape c) c.tell start (waits c []) w rest (rw (e, l, m) refl) (rw (e, l, m) refl) ∙ waits_number c rest
named c w rest n (Some z) e l m = in_own_word c w rest n z e l m

pub takes_number : (c : Numbered) (rest : List Text) → comes c start rest ≡ with_option c.option_name c.least c.most c.give rest ∷ []
takes_number c [] = (begun_is_last c).is_told
takes_number c (w ∷ rest) =
    by_look w (λ look. comes c start (w ∷ rest) ≡ option_at c.option_name c.least c.most c.give look rest ∷ [])
    (at_dashes (begun c) (c.give None) (begun_is_last c) w rest) on_long (at_short (begun c) w rest) (at_plain (begun c) (c.give None) (begun_is_last c) w rest)
  where
    on_long : (n : Text) (v : Option Text) → is_end w ≡ false → long_of w ≡ Some (n, v) → comes c start (w ∷ rest) ≡ option_at c.option_name c.least c.most c.give (long n v) rest ∷ []
    on_long n v e l = go (bytes_eq c.option_name n) refl
      where
        go : (b : Bool) → bytes_eq c.option_name n ≡ b → comes c start (w ∷ rest) ≡ option_at c.option_name c.least c.most c.give (long n v) rest ∷ []
        go true m = named c w rest n v e l m ∙ ap (λ t. t ∷ []) (sym (rw m refl))
        go false m = at_long (begun c) w rest n v e l (help_at c n m) ∙ ap (λ t. t ∷ []) (sym (rw m refl))
