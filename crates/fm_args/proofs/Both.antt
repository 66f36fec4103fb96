-- The command that takes a name, and an option with a number before or behind it.
use Rattle.std.proofs.Common.{◌≡◌, ◌∙◌, ◌&&◌, ap, sym, refl, subst, ℕ, Bool, true, false, List, [], ◌∷◌, Option, Some, None, codes, arith}
use Rattle.std.specs.Prelude.{bytes_eq, is_some, pos, IfSome, if◌then◌else◌}
use Rattle.std.specs.Option.{option_map_or}
use Rattle.std.proofs.lemmas.Slice.Eq.{bytes_eq-Decides}
use Rattle.clap.specs.Lexer.{long_of, short_of, without_minus}
use Rattle.clap.specs.ValueTests.{is_signed_in}
use Rattle.clap.specs.Words.{Row, Rule, Shape, first_of}
use Rattle.clap.specs.Simple.{filled, filled_from, help_rule, with_index}
use Rattle.clap.specs.Walk.{Walk, arg_by_index, has_row, idle, is_pending, settled_rows, takes_several}
use Rattle.clap.specs.Walk as waiting
use Rattle.clap.specs.Faults.{settle_fault}
use Rattle.clap.specs.declared.builder.value_parser.Reading.TheVariants as reading
use Rattle.clap.specs.declared.error.ErrorKind.TheVariants as kind
use Rattle.clap.specs.declared.parser.matches.ValueSource.TheVariants.{CommandLine}
use Rattle.clap.proofs.OnLiterals.{clap_on_literals}
use Rattle.fm_args.specs.Invocation.{Telling, Text, wrong}
use Rattle.fm_args.specs.CommandLine.{dashes, long, ends, ends_after, look_telling, counts, name_argument, name_or_option_at, number_option, number_argument, parsed_number, option_at, with_name, with_name_and_option, with_option}
use Rattle.fm_args.specs.Parser.{name_rule, parsed_bits, number_read, number_rule}
use Rattle.fm_args.proofs.Looks.{by_look, is_end, letter_in}
use Rattle.fm_args.proofs.Digits.{is_read, taken}
use Rattle.fm_args.proofs.Leaf.{HelpsAt, at, built_with, fails, held_at, helps_at, leaf_from, letter_of_help, passes, start}
use Rattle.fm_args.proofs.Faulty.{Faulty, faulty}
use Rattle.fm_args.proofs.Faulty as bad
use Rattle.fm_args.proofs.Fine.{IsLast, Place, at_dashes, at_long, at_plain, at_short}

-- a command that tells what `give` makes of its name and its number
pub record Both : Type 0 where
  pub called : Text
  pub tell : List Row → Telling
  pub give : Text → Option ℕ → Telling
  pub tells : (rows : List Row) → tell rows ≡ option_map_or (λ name. give name (number_read 8 (codes "at") rows)) (first_of (codes "name") rows) wrong

abbrev pub rules : List Rule
rules = filled_from 1 (name_rule ∷ number_rule (codes "at") 0 255 ∷ help_rule ∷ [])

abbrev shape : Both → Shape
shape c = built_with c.called rules

abbrev pub comes : Both → Walk → List Text → List Telling
comes c walk rest = leaf_from (shape c) c.tell walk rest

abbrev fits : Text → Bool
fits z = is_signed_in (pos 0) (pos 255) z

abbrev number_row : Text → Row
number_row z = record { id = codes "at"; values = z ∷ []; count = None; source = Some CommandLine; reading = reading.WithoutMinus }

abbrev name_row : Text → Row
name_row v = record { id = codes "name"; values = v ∷ []; count = None; source = Some CommandLine; reading = reading.AsWritten }

-- ---- the name that was read before the option, if one was: the rows and what is pending before the option and behind it

abbrev before : Option Text → List Row
before None = []
before (Some v) = name_row v ∷ []

abbrev behind : Option Text → Text → List Row
behind None z = number_row z ∷ []
behind (Some v) z = name_row v ∷ number_row z ∷ []

abbrev held_name : Option Text → Option (Text × List Text)
held_name None = None
held_name (Some v) = Some (codes "name", v ∷ [])

abbrev spot : Option Text → ℕ
spot None = 1
spot (Some v) = 2

abbrev named_rule : Rule
named_rule = with_index 1 (filled name_rule)

abbrev taker : Option Text → Option Rule
taker None = Some named_rule
taker (Some v) = None

is_taker : (b : Option Text) → arg_by_index rules (spot b) ≡ taker b
unfolding clap_on_literals
is_taker None = refl
is_taker (Some v) = refl

settles : (b : Option Text) (vs : List Text) → IfSome (taker b) (λ a. (is_pending a (Some (codes "at", vs)) && takes_several a) ≡ false)
unfolding clap_on_literals
settles None vs = refl
settles (Some v) vs = tt

-- the option waits for its number; it has one, in the next word; it has one, in its own word
abbrev waits : Option Text → List Row → Walk
waits b rows = at rows (Some (codes "at", [])) (waiting.option (codes "at")) (spot b)

abbrev next : Option Text → Text → Walk
next b z = at (before b) (Some (codes "at", z ∷ [])) idle (spot b)

abbrev own : Option Text → Text → Walk
own b z = at (behind b z) None idle (spot b)

abbrev goes : Both → Option Text → ℕ → List Text → Telling
goes c None = λ n. with_name (λ name. c.give name (Some n))
goes c (Some v) = λ n. ends (c.give v (Some n))

-- ---- places where whatever follows is wrong

waiting_fault : (rows : List Row) → settle_fault rules false (held_at rows (Some (codes "at", []))) ≡ kind.InvalidValue ∷ []
unfolding clap_on_literals
waiting_fault rows = refl

abbrev is_waiting : Both → Option Text → List Row → Faulty
is_waiting c b rows = record {
  name = c.called;
  rules = rules;
  tell = c.tell;
  rows = rows;
  pending = Some (codes "at", []);
  kind = kind.InvalidValue;
  fault = waiting_fault rows;
  is_wrong = refl;
  letters = letter_of_help;
  position = spot b;
  positional = taker b;
  taker = is_taker b;
  settles = settles b [];
}

unfit_fault : (b : Option Text) (z : Text) → fits z ≡ false → settle_fault rules false (held_at (before b) (Some (codes "at", z ∷ []))) ≡ kind.ValueValidation ∷ []
unfolding clap_on_literals
unfit_fault None z bad_value = rw bad_value refl
unfit_fault (Some v) z bad_value = rw bad_value refl

abbrev is_unfit : (c : Both) (b : Option Text) (z : Text) → fits z ≡ false → Faulty
is_unfit c b z bad_value = record {
  name = c.called;
  rules = rules;
  tell = c.tell;
  rows = before b;
  pending = Some (codes "at", z ∷ []);
  kind = kind.ValueValidation;
  fault = unfit_fault b z bad_value;
  is_wrong = refl;
  letters = letter_of_help;
  position = spot b;
  positional = taker b;
  taker = is_taker b;
  settles = settles b (z ∷ []);
}

abbrev HasNumber : List Row → Type 0
HasNumber rows = has_row (codes "at") rows ≡ true

twice_fault : (rows : List Row) (y : Text) → HasNumber rows → settle_fault rules false (held_at rows (Some (codes "at", y ∷ []))) ≡ kind.ArgumentConflict ∷ []
unfolding clap_on_literals
twice_fault rows y has = rw has refl

abbrev is_twice : (c : Both) (b : Option Text) (rows : List Row) (y : Text) → HasNumber rows → Faulty
is_twice c b rows y has = record {
  name = c.called;
  rules = rules;
  tell = c.tell;
  rows = rows;
  pending = Some (codes "at", y ∷ []);
  kind = kind.ArgumentConflict;
  fault = twice_fault rows y has;
  is_wrong = refl;
  letters = letter_of_help;
  position = spot b;
  positional = taker b;
  taker = is_taker b;
  settles = settles b (y ∷ []);
}

-- ---- the option waits for its number

waits_plain : (c : Both) (b : Option Text) (rows : List Row) (w : Text) (rest : List Text) (flags : Option Text) → is_end w ≡ false → long_of w ≡ None → short_of w ≡ flags → letter_in flags ≡ None
    → comes c (waits b rows) (w ∷ rest) ≡ comes c (at rows (Some (codes "at", w ∷ [])) idle (spot b)) rest
unfolding clap_on_literals
waits_plain c b rows w rest None e l s o = passes (shape c) c.tell (waits b rows) (at rows (Some (codes "at", w ∷ [])) idle (spot b)) w rest (rw (e, l, s) refl) (rw (e, l, s) refl)
waits_plain c b rows w rest (Some []) e l s o = passes (shape c) c.tell (waits b rows) (at rows (Some (codes "at", w ∷ [])) idle (spot b)) w rest (rw (e, l, s) refl) (rw (e, l, s) refl)
waits_plain c b rows w rest (Some (x ∷ xs)) e l s o = passes (shape c) c.tell (waits b rows) (at rows (Some (codes "at", w ∷ [])) idle (spot b)) w rest (rw (e, l, s, o) refl) (rw (e, l, s, o) refl)

-- given again
again : (c : Both) (b : Option Text) (rows : List Row) → HasNumber rows → (rest : List Text) → comes c (waits b rows) rest ≡ wrong ∷ []
again c b rows has [] = bad.at_last (is_waiting c b rows) (waiting.option (codes "at"))
again c b rows has (w ∷ rest) =
    let f = is_waiting c b rows in
    let o = waiting.option (codes "at") in
    by_look w (λ look. comes c (waits b rows) (w ∷ rest) ≡ wrong ∷ [])
    (bad.at_dashes f o w rest) (bad.at_long f o w rest) (bad.at_short f o w rest)
    (λ flags e l s p. waits_plain c b rows w rest flags e l s p ∙ faulty (is_twice c b rows w has) rest)

-- ---- behind the option

-- the option's name is not that of help
no_help_shown : (n : Text) (v : Option Text) → bytes_eq (codes "at") n ≡ true → look_telling (long n v) ≡ wrong
unfolding clap_on_literals
no_help_shown n None m =
    let is : codes "at" ≡ n = (bytes_eq-Decides (codes "at") n).0 m in
    let other : bytes_eq (codes "help") n ≡ false = subst (λ (x : Text). bytes_eq (codes "help") x ≡ false) is refl in
    rw other refl
no_help_shown n (Some x) m = refl

-- a long name that is not the option's is that of help or none
help_at : (n : Text) → bytes_eq (codes "at") n ≡ false → HelpsAt rules n
unfolding clap_on_literals
help_at n m = rw m (helps_at n)

-- what is held between two words is not at fault, and comes to these rows
record Settled (rows : List Row) (pending : Option (Text × List Text)) (come : List Row) : Type 0 where
  no_fault : settle_fault rules false (held_at rows pending) ≡ []
  comes_to : settled_rows rules pending rows ≡ come

abbrev place : (c : Both) (b : Option Text) (rows : List Row) (pending : Option (Text × List Text)) → settle_fault rules false (held_at rows pending) ≡ [] → Place
place c b rows pending no_fault = record {
  name = c.called;
  rules = rules;
  tell = c.tell;
  rows = rows;
  pending = pending;
  position = spot b;
  no_fault = no_fault;
  letters = letter_of_help;
}

module _ (c : Both) (b : Option Text) (rows : List Row) (pending : Option (Text × List Text)) (come : List Row) (s : Settled rows pending come) where
  abbrev here : Walk
  here = at rows pending idle (spot b)

  option_again : HasNumber come → (w : Text) (rest : List Text) (n : Text) (v : Option Text) → is_end w ≡ false → long_of w ≡ Some (n, v) → bytes_eq (codes "at") n ≡ true
      → comes c here (w ∷ rest) ≡ wrong ∷ []
  unfolding clap_on_literals
  option_again has w rest n None e l m = passes (shape c) c.tell here (waits b come) w rest (rw (e, l, m, s.no_fault) refl) (rw (e, l, m, s.comes_to) refl) ∙ again c b come has rest
  option_again has w rest n (Some x) e l m = rw (e, l, m, s.no_fault, s.comes_to, has) refl

  on_long : HasNumber come → (w : Text) (rest : List Text) (n : Text) (v : Option Text) → is_end w ≡ false → long_of w ≡ Some (n, v) → comes c here (w ∷ rest) ≡ look_telling (long n v) ∷ []
  on_long has w rest n v e l = go (bytes_eq (codes "at") n) refl
    where
      go : (k : Bool) → bytes_eq (codes "at") n ≡ k → comes c here (w ∷ rest) ≡ look_telling (long n v) ∷ []
      go true k = option_again has w rest n v e l k ∙ ap (λ t. t ∷ []) (sym (no_help_shown n v k))
      go false k = at_long (place c b rows pending s.no_fault) w rest n v e l (help_at n k)

  -- behind both arguments
  both_ends : HasNumber come → (t : Telling) → IsLast (place c b rows pending s.no_fault) t → (rest : List Text) → comes c here rest ≡ ends t rest ∷ []
  both_ends has t last [] = last.is_told
  both_ends has t last (w ∷ rest) =
      let p = place c b rows pending s.no_fault in
      by_look w (λ look. comes c here (w ∷ rest) ≡ ends_after look t rest ∷ [])
      (at_dashes p t last w rest) (on_long has w rest) (at_short p w rest) (at_plain p t last w rest)

-- the option came first, and then the name
then_named : (z v : Text) → Settled (number_row z ∷ []) (Some (codes "name", v ∷ [])) (number_row z ∷ name_row v ∷ [])
unfolding clap_on_literals
then_named z v = record { no_fault = refl; comes_to = refl }

then_last : (c : Both) (z v : Text) (n : ℕ) → parsed_bits 8 (without_minus z) ≡ Some n → IsLast (place c (Some v) (number_row z ∷ []) (Some (codes "name", v ∷ [])) (then_named z v).no_fault) (c.give v (Some n))
unfolding clap_on_literals
then_last c z v n is = record { no_positional = refl; is_told = rw (c.tells, is) refl }

-- behind the option alone
module _ (c : Both) (z : Text) (n : ℕ) (is : parsed_bits 8 (without_minus z) ≡ Some n) (rows : List Row) (pending : Option (Text × List Text)) (s : Settled rows pending (number_row z ∷ []))
    (alone : (is_pending named_rule pending && takes_several named_rule) ≡ false) where
  abbrev there : Walk
  there = at rows pending idle 1

  abbrev give : Text → Telling
  give name = c.give name (Some n)

  no_name : comes c there [] ≡ wrong ∷ []
  unfolding clap_on_literals
  no_name = rw (s.no_fault, s.comes_to) refl

  name_dashes : (w : Text) (rest : List Text) → is_end w ≡ true → comes c there (w ∷ rest) ≡ name_argument give dashes w rest ∷ []
  unfolding clap_on_literals
  name_dashes w [] e = rw (e, s.no_fault, s.comes_to) refl
  name_dashes w (v ∷ []) e = rw (e, alone, s.no_fault, s.comes_to, c.tells, is) refl
  name_dashes w (v ∷ u ∷ rest) e = rw (e, alone, s.no_fault) refl

  name_plain : (w : Text) (rest : List Text) (flags : Option Text) → is_end w ≡ false → long_of w ≡ None → short_of w ≡ flags → letter_in flags ≡ None
      → comes c there (w ∷ rest) ≡ comes c (at (number_row z ∷ []) (Some (codes "name", w ∷ [])) idle 2) rest
  unfolding clap_on_literals
  name_plain w rest None e l f o = passes (shape c) c.tell there (at (number_row z ∷ []) (Some (codes "name", w ∷ [])) idle 2) w rest (rw (e, l, f, alone, s.no_fault) refl) (rw (e, l, f, alone, s.comes_to) refl)
  name_plain w rest (Some []) e l f o = passes (shape c) c.tell there (at (number_row z ∷ []) (Some (codes "name", w ∷ [])) idle 2) w rest (rw (e, l, f, alone, s.no_fault) refl) (rw (e, l, f, alone, s.comes_to) refl)
  name_plain w rest (Some (x ∷ xs)) e l f o = passes (shape c) c.tell there (at (number_row z ∷ []) (Some (codes "name", w ∷ [])) idle 2) w rest (rw (e, l, f, o, alone, s.no_fault) refl) (rw (e, l, f, o, alone, s.comes_to) refl)

  name_behind : (rest : List Text) → comes c there rest ≡ with_name give rest ∷ []
  name_behind [] = no_name
  name_behind (w ∷ rest) =
      by_look w (λ look. comes c there (w ∷ rest) ≡ name_argument give look w rest ∷ [])
      (name_dashes w rest) (on_long c None rows pending (number_row z ∷ []) s refl w rest) (at_short (place c None rows pending s.no_fault) w rest)
      (λ flags e l f o. name_plain w rest flags e l f o ∙ both_ends c (Some w) (number_row z ∷ []) (Some (codes "name", w ∷ [])) (number_row z ∷ name_row w ∷ []) (then_named z w) refl (give w) (then_last c z w n is) rest)

-- ---- the number, in the next word or in its own

next_settled : (b : Option Text) (z : Text) → fits z ≡ true → Settled (before b) (Some (codes "at", z ∷ [])) (behind b z)
unfolding clap_on_literals
next_settled None z good = record { no_fault = rw good refl; comes_to = refl }
next_settled (Some v) z good = record { no_fault = rw good refl; comes_to = refl }

own_settled : (b : Option Text) (z : Text) → Settled (behind b z) None (behind b z)
own_settled b z = record { no_fault = refl; comes_to = refl }

next_last : (c : Both) (v z : Text) (good : fits z ≡ true) (n : ℕ) → parsed_bits 8 (without_minus z) ≡ Some n
    → IsLast (place c (Some v) (before (Some v)) (Some (codes "at", z ∷ [])) (next_settled (Some v) z good).no_fault) (c.give v (Some n))
unfolding clap_on_literals
next_last c v z good n is = record { no_positional = refl; is_told = rw (good, c.tells, is) refl }

own_last : (c : Both) (v z : Text) (n : ℕ) → parsed_bits 8 (without_minus z) ≡ Some n
    → IsLast (place c (Some v) (behind (Some v) z) None (own_settled (Some v) z).no_fault) (c.give v (Some n))
unfolding clap_on_literals
own_last c v z n is = record { no_positional = refl; is_told = rw (c.tells, is) refl }

next_goes : (c : Both) (b : Option Text) (z : Text) (n : ℕ) → fits z ≡ true → parsed_bits 8 (without_minus z) ≡ Some n → (rest : List Text) → comes c (next b z) rest ≡ goes c b n rest ∷ []
unfolding clap_on_literals
next_goes c None z n good is rest = name_behind c z n is [] (Some (codes "at", z ∷ [])) (next_settled None z good) refl rest
next_goes c (Some v) z n good is rest = both_ends c (Some v) (before (Some v)) (Some (codes "at", z ∷ [])) (behind (Some v) z) (next_settled (Some v) z good) refl (c.give v (Some n)) (next_last c v z good n is) rest

own_goes : (c : Both) (b : Option Text) (z : Text) (n : ℕ) → parsed_bits 8 (without_minus z) ≡ Some n → (rest : List Text) → comes c (own b z) rest ≡ goes c b n rest ∷ []
unfolding clap_on_literals
own_goes c None z n is rest = name_behind c z n is (number_row z ∷ []) None (own_settled None z) refl rest
own_goes c (Some v) z n is rest = both_ends c (Some v) (behind (Some v) z) None (behind (Some v) z) (own_settled (Some v) z) refl (c.give v (Some n)) (own_last c v z n is) rest

does_fit : (z : Text) (o : Option ℕ) → parsed_number 0 255 z ≡ o → fits z ≡ is_some o
does_fit z o is = taken 0 255 z (omega arith) ∙ ap is_some is

in_next_word : (c : Both) (b : Option Text) (z : Text) (rest : List Text) → comes c (next b z) rest ≡ counts (goes c b) (parsed_number 0 255 z) rest ∷ []
in_next_word c b z rest = go (parsed_number 0 255 z) refl
  where
    go : (o : Option ℕ) → parsed_number 0 255 z ≡ o → comes c (next b z) rest ≡ counts (goes c b) o rest ∷ []
    go (Some n) is = next_goes c b z n (does_fit z (Some n) is) (is_read 0 255 8 z n (omega arith) is) rest
    go None is = faulty (is_unfit c b z (does_fit z None is)) rest

waits_number : (c : Both) (b : Option Text) (rest : List Text) → comes c (waits b (before b)) rest ≡ number_option 0 255 (goes c b) None rest ∷ []
waits_number c b [] = bad.at_last (is_waiting c b (before b)) (waiting.option (codes "at"))
waits_number c b (w ∷ rest) =
    let f = is_waiting c b (before b) in
    let o = waiting.option (codes "at") in
    by_look w (λ look. comes c (waits b (before b)) (w ∷ rest) ≡ number_argument 0 255 (goes c b) look w rest ∷ [])
    (bad.at_dashes f o w rest) (bad.at_long f o w rest) (bad.at_short f o w rest)
    (λ flags e l s p. waits_plain c b (before b) w rest flags e l s p ∙ in_next_word c b w rest)

-- ---- before the option

abbrev begun : Option Text → Walk
begun b = at [] (held_name b) idle (spot b)

begun_no_fault : (b : Option Text) → settle_fault rules false (held_at [] (held_name b)) ≡ []
unfolding clap_on_literals
begun_no_fault None = refl
begun_no_fault (Some v) = refl

own_fault : (c : Both) (b : Option Text) (w : Text) (rest : List Text) (n z : Text) → is_end w ≡ false → long_of w ≡ Some (n, Some z) → bytes_eq (codes "at") n ≡ true → fits z ≡ false
    → comes c (begun b) (w ∷ rest) ≡ wrong ∷ []
unfolding clap_on_literals
own_fault c None w rest n z e l m bad_value = fails (shape c) c.tell (begun None) w rest kind.ValueValidation (rw (e, l, m, bad_value) refl)
own_fault c (Some v) w rest n z e l m bad_value = fails (shape c) c.tell (begun (Some v)) w rest kind.ValueValidation (rw (e, l, m, bad_value) refl)

own_taken : (c : Both) (b : Option Text) (w : Text) (rest : List Text) (n z : Text) → is_end w ≡ false → long_of w ≡ Some (n, Some z) → bytes_eq (codes "at") n ≡ true → fits z ≡ true
    → comes c (begun b) (w ∷ rest) ≡ comes c (own b z) rest
unfolding clap_on_literals
own_taken c None w rest n z e l m good = passes (shape c) c.tell (begun None) (own None z) w rest (rw (e, l, m, good) refl) (rw (e, l, m) refl)
own_taken c (Some v) w rest n z e l m good = passes (shape c) c.tell (begun (Some v)) (own (Some v) z) w rest (rw (e, l, m, good) refl) (rw (e, l, m) refl)

in_own_word : (c : Both) (b : Option Text) (w : Text) (rest : List Text) (n z : Text) → is_end w ≡ false → long_of w ≡ Some (n, Some z) → bytes_eq (codes "at") n ≡ true
    → comes c (begun b) (w ∷ rest) ≡ counts (goes c b) (parsed_number 0 255 z) rest ∷ []
in_own_word c b w rest n z e l m = go (parsed_number 0 255 z) refl
  where
    go : (o : Option ℕ) → parsed_number 0 255 z ≡ o → comes c (begun b) (w ∷ rest) ≡ counts (goes c b) o rest ∷ []
    go (Some k) is = own_taken c b w rest n z e l m (does_fit z (Some k) is) ∙ own_goes c b z k (is_read 0 255 8 z k (omega arith) is) rest
    go None is = own_fault c b w rest n z e l m (does_fit z None is)

option_waits : (c : Both) (b : Option Text) (w : Text) (rest : List Text) (n : Text) → is_end w ≡ false → long_of w ≡ Some (n, None) → bytes_eq (codes "at") n ≡ true
    → comes c (begun b) (w ∷ rest) ≡ comes c (waits b (before b)) rest
unfolding clap_on_literals
option_waits c None w rest n e l m = passes (shape c) c.tell (begun None) (waits None []) w rest (rw (e, l, m) refl) (rw (e, l, m) refl)
option_waits c (Some v) w rest n e l m = passes (shape c) c.tell (begun (Some v)) (waits (Some v) (name_row v ∷ [])) w rest (rw (e, l, m) refl) (rw (e, l, m) refl)

option_named : (c : Both) (b : Option Text) (w : Text) (rest : List Text) (n : Text) (v : Option Text) → is_end w ≡ false → long_of w ≡ Some (n, v) → bytes_eq (codes "at") n ≡ true
    → comes c (begun b) (w ∷ rest) ≡ number_option 0 255 (goes c b) v rest ∷ []
option_named c b w rest n None e l m = option_waits c b w rest n e l m ∙ waits_number c b rest
option_named c b w rest n (Some z) e l m = in_own_word c b w rest n z e l m

-- the option's name, or another
by_name : (c : Both) (b : Option Text) (w : Text) (rest : List Text) (n : Text) (v : Option Text) → is_end w ≡ false → long_of w ≡ Some (n, v)
    → comes c (begun b) (w ∷ rest) ≡ (if bytes_eq (codes "at") n then number_option 0 255 (goes c b) v rest else look_telling (long n v)) ∷ []
by_name c b w rest n v e l = go (bytes_eq (codes "at") n) refl
  where
    go : (k : Bool) → bytes_eq (codes "at") n ≡ k → comes c (begun b) (w ∷ rest) ≡ (if k then number_option 0 255 (goes c b) v rest else look_telling (long n v)) ∷ []
    go true m = option_named c b w rest n v e l m
    go false m = at_long (place c b [] (held_name b) (begun_no_fault b)) w rest n v e l (help_at n m)

-- behind the name
named_last : (c : Both) (v : Text) → IsLast (place c (Some v) [] (held_name (Some v)) (begun_no_fault (Some v))) (c.give v None)
unfolding clap_on_literals
named_last c v = record { no_positional = refl; is_told = rw c.tells refl }

name_ends : (c : Both) (v : Text) (rest : List Text) → comes c (begun (Some v)) rest ≡ with_option (codes "at") 0 255 (c.give v) rest ∷ []
name_ends c v [] = (named_last c v).is_told
name_ends c v (w ∷ rest) =
    let p = place c (Some v) [] (held_name (Some v)) (begun_no_fault (Some v)) in
    let t = c.give v None in
    by_look w (λ look. comes c (begun (Some v)) (w ∷ rest) ≡ option_at (codes "at") 0 255 (c.give v) look rest ∷ [])
    (at_dashes p t (named_last c v) w rest) (by_name c (Some v) w rest) (at_short p w rest) (at_plain p t (named_last c v) w rest)

-- ---- the first word

none_given : (c : Both) → comes c start [] ≡ wrong ∷ []
unfolding clap_on_literals
none_given c = refl

first_dashes : (c : Both) (w : Text) (rest : List Text) → is_end w ≡ true → comes c start (w ∷ rest) ≡ name_argument (λ name. c.give name None) dashes w rest ∷ []
unfolding clap_on_literals
first_dashes c w [] e = rw e refl
first_dashes c w (v ∷ []) e = rw (e, c.tells) refl
first_dashes c w (v ∷ u ∷ rest) e = rw e refl

first_plain : (c : Both) (w : Text) (rest : List Text) (flags : Option Text) → is_end w ≡ false → long_of w ≡ None → short_of w ≡ flags → letter_in flags ≡ None
    → comes c start (w ∷ rest) ≡ comes c (begun (Some w)) rest
unfolding clap_on_literals
first_plain c w rest None e l s o = passes (shape c) c.tell start (begun (Some w)) w rest (rw (e, l, s) refl) (rw (e, l, s) refl)
first_plain c w rest (Some []) e l s o = passes (shape c) c.tell start (begun (Some w)) w rest (rw (e, l, s) refl) (rw (e, l, s) refl)
first_plain c w rest (Some (x ∷ xs)) e l s o = passes (shape c) c.tell start (begun (Some w)) w rest (rw (e, l, s, o) refl) (rw (e, l, s, o) refl)

pub takes_both : (c : Both) (rest : List Text) → comes c start rest ≡ with_name_and_option (codes "at") 0 255 c.give rest ∷ []
takes_both c [] = none_given c
takes_both c (w ∷ rest) = by_look w (λ look. comes c start (w ∷ rest) ≡ name_or_option_at (codes "at") 0 255 c.give look w rest ∷ [])
    (first_dashes c w rest) (by_name c None w rest) (at_short (place c None [] None (begun_no_fault None)) w rest)
    (λ flags e l s o. first_plain c w rest flags e l s o ∙ name_ends c w rest)
