-- The command whose options are given in any order.
use Rattle.std.proofs.Common.{◌≡◌, ◌∙◌, ◌||◌, ◌++◌, ap, ap₂, sym, refl, subst, ℕ, Bool, true, false, List, [], ◌∷◌, Option, Some, None, codes, arith}
use Rattle.std.specs.Prelude.{⊤, bytes_eq, find, fold, is_some, option_and_then, option_map, pos, slice_get, if◌then◌else◌}
use Rattle.std.specs.Option.{option_map_or}
use Rattle.clap.specs.Lexer.{long_of, short_of, without_minus}
use Rattle.clap.specs.ValueTests.{is_signed_in}
use Rattle.clap.specs.Words.{Row, Rule, Text, first_of}
use Rattle.clap.specs.Simple.{filled, filled_from, help_rule}
use Rattle.clap.specs.Walk.{Walk, has_row, finished, idle, row_text, settled_rows, used, with_default, with_values, without}
use Rattle.clap.specs.Walk as waiting
use Rattle.clap.specs.Faults.{check_fault, default_fault, defaults_fault, settle_fault, use_fault, walk_fault}
use Rattle.clap.specs.Kinds.{or_else}
use Rattle.clap.specs.declared.builder.value_parser.Reading.{Reading}
use Rattle.clap.specs.declared.builder.value_parser.Reading.TheVariants as reading
use Rattle.clap.specs.declared.error.ErrorKind.{ErrorKind}
use Rattle.clap.specs.declared.error.ErrorKind.TheVariants as kind
use Rattle.clap.specs.declared.parser.matches.ValueSource.TheVariants.{CommandLine}
use Rattle.clap.proofs.OnLiterals.{clap_on_literals}
use Rattle.fm_args.specs.Invocation.{Telling, wrong}
use Rattle.fm_args.specs.CommandLine.{StreamOption, StreamOptions, long, look_telling, most_renew_after, no_options, of_label, of_renewal, of_store, once_given, option_named, parsed_number, stream_option, stream_options_at, with_stream_options, with_option_value}
use Rattle.fm_args.specs.inner.ParserOutcomes.{told_or}
use Rattle.fm_args.specs.Parser.{number_read, number_rule, parsed_bits, told_of_error, word_rule}
use Rattle.fm_args.proofs.Looks.{by_look, is_end, letter_in}
use Rattle.fm_args.proofs.Digits.{is_read, taken}
use Rattle.fm_args.proofs.Leaf.{HelpsAt, at, built_with, fails, held_at, helps_at, leaf_from, letter_of_help, passes, start}
use Rattle.fm_args.proofs.Faulty.{Faulty, faulty}
use Rattle.fm_args.proofs.Faulty as bad
use Rattle.fm_args.proofs.Fine.{IsLast, Place, at_dashes, at_long, at_plain, at_short}

-- a command that tells what `give` makes of the options
pub record Streamed : Type 0 where
  pub called : Text
  pub tell : List Row → Telling
  pub give : StreamOptions → Telling
  pub tells : (rows : List Row) → tell rows ≡ give (record {
    renew_after = number_read 32 (codes "renew-after") rows;
    store = first_of (codes "store") rows;
    label = first_of (codes "store-label") rows;
  })

abbrev pub rules : List Rule
rules = filled_from 1 (number_rule (codes "renew-after") 1 most_renew_after ∷ word_rule (codes "store") ∷ word_rule (codes "store-label") ∷ help_rule ∷ [])

abbrev pub comes : Streamed → Walk → List Text → List Telling
comes c walk rest = leaf_from (built_with c.called rules) c.tell walk rest

-- ---- the options, and their rows

abbrev name_of : StreamOption → Text
name_of of_renewal = codes "renew-after"
name_of of_store = codes "store"
name_of of_label = codes "store-label"

abbrev reading_for : StreamOption → Reading
reading_for of_renewal = reading.WithoutMinus
reading_for of_store = reading.AsWritten
reading_for of_label = reading.AsWritten

abbrev row : StreamOption → Text → Row
row o z = record { id = name_of o; values = z ∷ []; count = None; source = Some CommandLine; reading = reading_for o }

abbrev has : StreamOption → StreamOptions → Bool
has of_renewal g = is_some g.renew_after
has of_store g = is_some g.store
has of_label g = is_some g.label

-- the rows are those of the options
record Holds (rows : List Row) (g : StreamOptions) : Type 0 where
  each : (o : StreamOption) → has_row (name_of o) rows ≡ has o g
  renew_after : number_read 32 (codes "renew-after") rows ≡ g.renew_after
  store : first_of (codes "store") rows ≡ g.store
  label : first_of (codes "store-label") rows ≡ g.label

-- ---- one more row

or_false : (b : Bool) → (b || false) ≡ b
or_false true = refl
or_false false = refl

or_true : (b : Bool) → (b || true) ≡ true
or_true true = refl
or_true false = refl

has_more : (id : Text) (rows : List Row) (r : Row) → has_row id (rows ++ r ∷ []) ≡ (has_row id rows || bytes_eq r.id id)
has_more id [] r = or_false (bytes_eq r.id id)
has_more id (x ∷ rows) r = go (bytes_eq x.id id) refl (has_more id rows r)
  where
    go : (b : Bool) → bytes_eq x.id id ≡ b → has_row id (rows ++ r ∷ []) ≡ (has_row id rows || bytes_eq r.id id) → has_row id ((x ∷ rows) ++ r ∷ []) ≡ (has_row id (x ∷ rows) || bytes_eq r.id id)
    go true e later = rw e refl
    go false e later = rw e later

abbrev row_at : Text → List Row → Option Row
row_at id rows = find (λ r. bytes_eq r.id id) rows

at_more : (id : Text) (rows : List Row) (r : Row) → has_row id rows ≡ false → row_at id (rows ++ r ∷ []) ≡ row_at id (r ∷ [])
at_more id [] r none = refl
at_more id (x ∷ rows) r none = go (bytes_eq x.id id) refl (at_more id rows r)
  where
    go : (b : Bool) → bytes_eq x.id id ≡ b → (has_row id rows ≡ false → row_at id (rows ++ r ∷ []) ≡ row_at id (r ∷ [])) → row_at id ((x ∷ rows) ++ r ∷ []) ≡ row_at id (r ∷ [])
    go true e later = let no : true ≡ false = rw e at none in cc
    go false e later = let left : has_row id rows ≡ false = rw e at none in rw e (later left)

at_other : (id : Text) (rows : List Row) (r : Row) → bytes_eq r.id id ≡ false → row_at id (rows ++ r ∷ []) ≡ row_at id rows
at_other id [] r other = rw other refl
at_other id (x ∷ rows) r other = go (bytes_eq x.id id) refl (at_other id rows r other)
  where
    go : (b : Bool) → bytes_eq x.id id ≡ b → row_at id (rows ++ r ∷ []) ≡ row_at id rows → row_at id ((x ∷ rows) ++ r ∷ []) ≡ row_at id (x ∷ rows)
    go true e later = rw e refl
    go false e later = rw e later

-- a row that is not there is not taken away, and comes last
kept : (id : Text) (rows : List Row) → has_row id rows ≡ false → without id rows ≡ rows
kept id [] none = refl
kept id (x ∷ rows) none = go (bytes_eq x.id id) refl (kept id rows)
  where
    go : (b : Bool) → bytes_eq x.id id ≡ b → (has_row id rows ≡ false → without id rows ≡ rows) → without id (x ∷ rows) ≡ x ∷ rows
    go true e later = let no : true ≡ false = rw e at none in cc
    go false e later = let left : has_row id rows ≡ false = rw e at none in rw e (ap (λ rs. x ∷ rs) (later left))

abbrev given : Text → Reading → Text → Row
given id how z = record { id = id; values = z ∷ []; count = None; source = Some CommandLine; reading = how }

comes_last : (id : Text) (how : Reading) (z : Text) (rows : List Row) → has_row id rows ≡ false
    → with_values id how CommandLine (z ∷ []) rows ≡ rows ++ given id how z ∷ []
comes_last id how z [] none = refl
comes_last id how z (x ∷ rows) none = go (bytes_eq x.id id) refl (comes_last id how z rows)
  where
    go : (b : Bool) → bytes_eq x.id id ≡ b → (has_row id rows ≡ false → with_values id how CommandLine (z ∷ []) rows ≡ rows ++ given id how z ∷ [])
        → with_values id how CommandLine (z ∷ []) (x ∷ rows) ≡ (x ∷ rows) ++ given id how z ∷ []
    go true e later = let no : true ≡ false = rw e at none in cc
    go false e later = let left : has_row id rows ≡ false = rw e at none in rw e (ap (λ rs. x ∷ rs) (later left))

-- the rows after a use of an option that was not given before
taken_in : (o : StreamOption) (z : Text) (rows : List Row) → has_row (name_of o) rows ≡ false
    → with_values (name_of o) (reading_for o) CommandLine (z ∷ []) (without (name_of o) rows) ≡ rows ++ row o z ∷ []
taken_in o z rows none = ap (with_values (name_of o) (reading_for o) CommandLine (z ∷ [])) (kept (name_of o) rows none) ∙ comes_last (name_of o) (reading_for o) z rows none

-- ---- the end: there are no defaults

has_default_or_none : (b : Bool) (rows : List Row) → (if b then rows else rows) ≡ rows
has_default_or_none true rows = refl
has_default_or_none false rows = refl

no_default : (rows : List Row) (a : Rule) → a.defaults ≡ [] → with_default rows a ≡ rows
no_default rows a none = go (has_row a.id rows) refl
  where
    go : (b : Bool) → has_row a.id rows ≡ b → with_default rows a ≡ rows
    go true e = rw e refl
    go false e = rw (e, none) refl

none_fault : (rows : List Row) (a : Rule) → a.defaults ≡ [] → default_fault rows a ≡ []
none_fault rows a none = go (has_row a.id rows) refl
  where
    go : (b : Bool) → has_row a.id rows ≡ b → default_fault rows a ≡ []
    go true e = rw e refl
    go false e = rw (e, none) refl

abbrev HaveNone : List Rule → Type 0
HaveNone [] = ⊤
HaveNone (a ∷ rest) = (a.defaults ≡ []) × HaveNone rest

no_defaults : (rows : List Row) (args : List Rule) → HaveNone args → fold with_default rows args ≡ rows
no_defaults rows [] none = refl
no_defaults rows (a ∷ rest) none = ap (λ rs. fold with_default rs rest) (no_default rows a none.0) ∙ no_defaults rows rest none.1

no_defaults_fault : (rows : List Row) (args : List Rule) → HaveNone args → defaults_fault rows args ≡ []
unfolding defaults_fault
no_defaults_fault rows [] none = refl
no_defaults_fault rows (a ∷ rest) none =
    ap (λ ks. or_else ks (defaults_fault (with_default rows a) rest)) (none_fault rows a none.0)
    ∙ ap (λ rs. defaults_fault rs rest) (no_default rows a none.0) ∙ no_defaults_fault rows rest none.1

-- what is held between two words is not at fault, and comes to rows of these options
record Settled (rows : List Row) (pending : Option (Text × List Text)) (g : StreamOptions) : Type 0 where
  come : List Row
  no_fault : settle_fault rules false (held_at rows pending) ≡ []
  comes_to : settled_rows rules pending rows ≡ come
  holds : Holds come g

abbrev place : (c : Streamed) (rows : List Row) (pending : Option (Text × List Text)) → settle_fault rules false (held_at rows pending) ≡ [] → Place
place c rows pending no_fault = record {
  name = c.called;
  rules = rules;
  tell = c.tell;
  rows = rows;
  pending = pending;
  position = 1;
  no_fault = no_fault;
  letters = letter_of_help;
}

told_by : (c : Streamed) (rows : List Row) (g : StreamOptions) → Holds rows g → c.tell rows ≡ c.give g
told_by c rows g h = c.tells rows ∙ rw (h.renew_after, h.store, h.label) refl

finishes : (rows : List Row) (pending : Option (Text × List Text)) → finished rules (held_at rows pending) ≡ settled_rows rules pending rows
finishes rows pending = no_defaults (settled_rows rules pending rows) rules (refl, (refl, (refl, (refl, tt))))

ends_well : (c : Streamed) (rows : List Row) (pending : Option (Text × List Text)) → settle_fault rules false (held_at rows pending) ≡ []
    → or_else (settle_fault rules false (held_at rows pending)) (or_else (defaults_fault (settled_rows rules pending rows) rules) (check_fault (built_with c.called rules) (finished rules (held_at rows pending)) false)) ≡ []
ends_well c rows pending no_fault =
    rw (no_fault, no_defaults_fault (settled_rows rules pending rows) rules (refl, (refl, (refl, (refl, tt))))) refl

at_end : (c : Streamed) (rows : List Row) (pending : Option (Text × List Text)) (g : StreamOptions) → Settled rows pending g → comes c (at rows pending idle 1) [] ≡ c.give g ∷ []
unfolding walk_fault
at_end c rows pending g s =
    ap₂ told_or (ends_well c rows pending s.no_fault) (ap c.tell (finishes rows pending ∙ s.comes_to) ∙ told_by c s.come g s.holds)

-- ---- one more option

abbrev rule_for : StreamOption → Rule
rule_for of_renewal = filled (number_rule (codes "renew-after") 1 most_renew_after)
rule_for of_store = filled (word_rule (codes "store"))
rule_for of_label = filled (word_rule (codes "store-label"))

-- its value is refused, and so it is wrong
record IsRefused (o : StreamOption) (z : Text) (rows : List Row) : Type 0 where
  kind : ErrorKind
  fault : use_fault false (rule_for o) (z ∷ []) rows ≡ kind ∷ []
  is_wrong : told_of_error kind ≡ wrong

-- or the options have it, and the rows too
record IsTaken (o : StreamOption) (z : Text) (rows : List Row) (h : StreamOptions) : Type 0 where
  no_fault : use_fault false (rule_for o) (z ∷ []) rows ≡ []
  holds : Holds (used (rule_for o) (z ∷ []) rows) h

abbrev Goes : StreamOption → Text → List Row → Option StreamOptions → Type 0
Goes o z rows None = IsRefused o z rows
Goes o z rows (Some h) = IsTaken o z rows h

given_twice : (o : StreamOption) (z : Text) (rows : List Row) → has_row (name_of o) rows ≡ true → IsRefused o z rows
unfolding clap_on_literals
given_twice of_renewal z rows has = record { kind = kind.ArgumentConflict; fault = rw has refl; is_wrong = refl }
given_twice of_store z rows has = record { kind = kind.ArgumentConflict; fault = rw has refl; is_wrong = refl }
given_twice of_label z rows has = record { kind = kind.ArgumentConflict; fault = rw has refl; is_wrong = refl }

has_other : (id : Text) (rows : List Row) (r : Row) (b : Bool) → bytes_eq r.id id ≡ false → has_row id rows ≡ b → has_row id (rows ++ r ∷ []) ≡ b
has_other id rows r b other is = has_more id rows r ∙ rw (other, is) (or_false b)

has_this : (id : Text) (rows : List Row) (r : Row) → bytes_eq r.id id ≡ true → has_row id (rows ++ r ∷ []) ≡ true
has_this id rows r same = has_more id rows r ∙ rw same (or_true (has_row id rows))

with_number : (z : Text) (n : ℕ) (rows : List Row) (g : StreamOptions) → Holds rows g → has_row (codes "renew-after") rows ≡ false → parsed_bits 32 (without_minus z) ≡ Some n
    → Holds (rows ++ row of_renewal z ∷ []) (record g { renew_after = Some n })
with_number z n rows g h none is = record {
  each = all;
  renew_after = ap (λ r. option_and_then (parsed_bits 32) (option_and_then row_text r)) (at_more (codes "renew-after") rows (row of_renewal z) none) ∙ is;
  store = ap (option_and_then (λ r. slice_get r.values 0)) (at_other (codes "store") rows (row of_renewal z) refl) ∙ h.store;
  label = ap (option_and_then (λ r. slice_get r.values 0)) (at_other (codes "store-label") rows (row of_renewal z) refl) ∙ h.label;
}
  where
    all : (o : StreamOption) → has_row (name_of o) (rows ++ row of_renewal z ∷ []) ≡ has o (record g { renew_after = Some n })
    all of_renewal = has_this (codes "renew-after") rows (row of_renewal z) refl
    all of_store = has_other (codes "store") rows (row of_renewal z) (is_some g.store) refl (h.each of_store)
    all of_label = has_other (codes "store-label") rows (row of_renewal z) (is_some g.label) refl (h.each of_label)

with_path : (z : Text) (rows : List Row) (g : StreamOptions) → Holds rows g → has_row (codes "store") rows ≡ false → Holds (rows ++ row of_store z ∷ []) (record g { store = Some z })
with_path z rows g h none = record {
  each = all;
  renew_after = ap (λ r. option_and_then (parsed_bits 32) (option_and_then row_text r)) (at_other (codes "renew-after") rows (row of_store z) refl) ∙ h.renew_after;
  store = ap (option_and_then (λ r. slice_get r.values 0)) (at_more (codes "store") rows (row of_store z) none);
  label = ap (option_and_then (λ r. slice_get r.values 0)) (at_other (codes "store-label") rows (row of_store z) refl) ∙ h.label;
}
  where
    all : (o : StreamOption) → has_row (name_of o) (rows ++ row of_store z ∷ []) ≡ has o (record g { store = Some z })
    all of_renewal = has_other (codes "renew-after") rows (row of_store z) (is_some g.renew_after) refl (h.each of_renewal)
    all of_store = has_this (codes "store") rows (row of_store z) refl
    all of_label = has_other (codes "store-label") rows (row of_store z) (is_some g.label) refl (h.each of_label)

with_label : (z : Text) (rows : List Row) (g : StreamOptions) → Holds rows g → has_row (codes "store-label") rows ≡ false → Holds (rows ++ row of_label z ∷ []) (record g { label = Some z })
with_label z rows g h none = record {
  each = all;
  renew_after = ap (λ r. option_and_then (parsed_bits 32) (option_and_then row_text r)) (at_other (codes "renew-after") rows (row of_label z) refl) ∙ h.renew_after;
  store = ap (option_and_then (λ r. slice_get r.values 0)) (at_other (codes "store") rows (row of_label z) refl) ∙ h.store;
  label = ap (option_and_then (λ r. slice_get r.values 0)) (at_more (codes "store-label") rows (row of_label z) none);
}
  where
    all : (o : StreamOption) → has_row (name_of o) (rows ++ row of_label z ∷ []) ≡ has o (record g { label = Some z })
    all of_renewal = has_other (codes "renew-after") rows (row of_label z) (is_some g.renew_after) refl (h.each of_renewal)
    all of_store = has_other (codes "store") rows (row of_label z) (is_some g.store) refl (h.each of_store)
    all of_label = has_this (codes "store-label") rows (row of_label z) refl

number_goes : (z : Text) (rows : List Row) (g : StreamOptions) → Holds rows g → has_row (codes "renew-after") rows ≡ false → (o : Option ℕ) → parsed_number 1 most_renew_after z ≡ o
    → Goes of_renewal z rows (option_map (λ n. record g { renew_after = Some n }) o)
unfolding clap_on_literals
number_goes z rows g h none None is =
    let unfit : is_signed_in (pos 1) (pos most_renew_after) z ≡ false = taken 1 most_renew_after z (omega arith) ∙ ap is_some is in
    record { kind = kind.ValueValidation; fault = rw (none, unfit) refl; is_wrong = refl }
number_goes z rows g h none (Some n) is =
    let fits : is_signed_in (pos 1) (pos most_renew_after) z ≡ true = taken 1 most_renew_after z (omega arith) ∙ ap is_some is in
    record {
      no_fault = rw (none, fits) refl;
      holds = subst (λ (rs : List Row). Holds rs (record g { renew_after = Some n })) (sym (taken_in of_renewal z rows none)) (with_number z n rows g h none (is_read 1 most_renew_after 32 z n (omega arith) is));
    }

path_taken : (z : Text) (rows : List Row) (g : StreamOptions) → Holds rows g → has_row (codes "store") rows ≡ false → IsTaken of_store z rows (record g { store = Some z })
unfolding clap_on_literals
path_taken z rows g h none = record {
  no_fault = rw none refl;
  holds = subst (λ (rs : List Row). Holds rs (record g { store = Some z })) (sym (taken_in of_store z rows none)) (with_path z rows g h none);
}

label_taken : (z : Text) (rows : List Row) (g : StreamOptions) → Holds rows g → has_row (codes "store-label") rows ≡ false → IsTaken of_label z rows (record g { label = Some z })
unfolding clap_on_literals
label_taken z rows g h none = record {
  no_fault = rw none refl;
  holds = subst (λ (rs : List Row). Holds rs (record g { label = Some z })) (sym (taken_in of_label z rows none)) (with_label z rows g h none);
}

-- the value goes into the options, or is refused
goes : (o : StreamOption) (z : Text) (rows : List Row) (g : StreamOptions) → Holds rows g → Goes o z rows (with_option_value o z g)
goes of_renewal z rows g h = go (is_some g.renew_after) refl
  where
    go : (b : Bool) → is_some g.renew_after ≡ b → Goes of_renewal z rows (with_option_value of_renewal z g)
    go true e = rw e (given_twice of_renewal z rows (h.each of_renewal ∙ e))
    go false e = rw e (number_goes z rows g h (h.each of_renewal ∙ e) (parsed_number 1 most_renew_after z) refl)
goes of_store z rows g h = go (is_some g.store) refl
  where
    go : (b : Bool) → is_some g.store ≡ b → Goes of_store z rows (with_option_value of_store z g)
    go true e = rw e (given_twice of_store z rows (h.each of_store ∙ e))
    go false e = rw e (path_taken z rows g h (h.each of_store ∙ e))
goes of_label z rows g h = go (is_some g.label) refl
  where
    go : (b : Bool) → is_some g.label ≡ b → Goes of_label z rows (with_option_value of_label z g)
    go true e = rw e (given_twice of_label z rows (h.each of_label ∙ e))
    go false e = rw e (label_taken z rows g h (h.each of_label ∙ e))

-- ---- the words

-- the long name is that of the option
abbrev Called : StreamOption → Text → Type 0
Called of_renewal n = bytes_eq (codes "renew-after") n ≡ true
Called of_store n = (bytes_eq (codes "renew-after") n ≡ false) × (bytes_eq (codes "store") n ≡ true)
Called of_label n = (bytes_eq (codes "renew-after") n ≡ false) × (bytes_eq (codes "store") n ≡ false) × (bytes_eq (codes "store-label") n ≡ true)

abbrev IsNoOption : Text → Type 0
IsNoOption n = (bytes_eq (codes "renew-after") n ≡ false) × (bytes_eq (codes "store") n ≡ false) × (bytes_eq (codes "store-label") n ≡ false)

by_option : (n : Text) (P : Option StreamOption → Type 0) → ((o : StreamOption) → Called o n → P (Some o)) → (IsNoOption n → P None) → P (option_named n)
by_option n P some none = go (bytes_eq (codes "renew-after") n) refl (bytes_eq (codes "store") n) refl (bytes_eq (codes "store-label") n) refl
  where
    go : (a : Bool) → bytes_eq (codes "renew-after") n ≡ a → (b : Bool) → bytes_eq (codes "store") n ≡ b → (c : Bool) → bytes_eq (codes "store-label") n ≡ c → P (option_named n)
    go true e b f c k = rw e (some of_renewal e)
    go false e true f c k = rw (e, f) (some of_store (e, f))
    go false e false f true k = rw (e, f, k) (some of_label (e, f, k))
    go false e false f false k = rw (e, f, k) (none (e, f, k))

help_at : (n : Text) → IsNoOption n → HelpsAt rules n
unfolding clap_on_literals
help_at n none = rw (none.0, none.1, none.2) (helps_at n)

abbrev waits : StreamOption → List Row → Walk
waits o rows = at rows (Some (name_of o, [])) (waiting.option (name_of o)) 1

module _ (c : Streamed) (rows : List Row) (pending : Option (Text × List Text)) (g : StreamOptions) (s : Settled rows pending g) where
  abbrev here : Walk
  here = at rows pending idle 1

  -- the value is to be the next word
  option_waits : (o : StreamOption) (w : Text) (rest : List Text) (n : Text) → is_end w ≡ false → long_of w ≡ Some (n, None) → Called o n → comes c here (w ∷ rest) ≡ comes c (waits o s.come) rest
  unfolding clap_on_literals
  option_waits of_renewal w rest n e l m = passes (built_with c.called rules) c.tell here (waits of_renewal s.come) w rest (rw (e, l, m, s.no_fault) refl) (rw (e, l, m, s.comes_to) refl)
  option_waits of_store w rest n e l m = passes (built_with c.called rules) c.tell here (waits of_store s.come) w rest (rw (e, l, m.0, m.1, s.no_fault) refl) (rw (e, l, m.0, m.1, s.comes_to) refl)
  option_waits of_label w rest n e l m = passes (built_with c.called rules) c.tell here (waits of_label s.come) w rest (rw (e, l, m.0, m.1, m.2, s.no_fault) refl) (rw (e, l, m.0, m.1, m.2, s.comes_to) refl)

  -- the value is in the option's own word
  own_taken : (o : StreamOption) (w : Text) (rest : List Text) (n z : Text) → is_end w ≡ false → long_of w ≡ Some (n, Some z) → Called o n → use_fault false (rule_for o) (z ∷ []) s.come ≡ []
      → comes c here (w ∷ rest) ≡ comes c (at (used (rule_for o) (z ∷ []) s.come) None idle 1) rest
  unfolding clap_on_literals
  own_taken of_renewal w rest n z e l m good = passes (built_with c.called rules) c.tell here (at (used (rule_for of_renewal) (z ∷ []) s.come) None idle 1) w rest (rw (e, l, m, s.no_fault, s.comes_to, good) refl) (rw (e, l, m, s.comes_to) refl)
  own_taken of_store w rest n z e l m good = passes (built_with c.called rules) c.tell here (at (used (rule_for of_store) (z ∷ []) s.come) None idle 1) w rest (rw (e, l, m.0, m.1, s.no_fault, s.comes_to, good) refl) (rw (e, l, m.0, m.1, s.comes_to) refl)
  own_taken of_label w rest n z e l m good = passes (built_with c.called rules) c.tell here (at (used (rule_for of_label) (z ∷ []) s.come) None idle 1) w rest (rw (e, l, m.0, m.1, m.2, s.no_fault, s.comes_to, good) refl) (rw (e, l, m.0, m.1, m.2, s.comes_to) refl)

  own_refused : (o : StreamOption) (w : Text) (rest : List Text) (n z : Text) → is_end w ≡ false → long_of w ≡ Some (n, Some z) → Called o n → (r : IsRefused o z s.come) → comes c here (w ∷ rest) ≡ wrong ∷ []
  unfolding clap_on_literals
  own_refused of_renewal w rest n z e l m r = fails (built_with c.called rules) c.tell here w rest r.kind (rw (e, l, m, s.no_fault, s.comes_to, r.fault) refl) ∙ ap (λ t. t ∷ []) r.is_wrong
  own_refused of_store w rest n z e l m r = fails (built_with c.called rules) c.tell here w rest r.kind (rw (e, l, m.0, m.1, s.no_fault, s.comes_to, r.fault) refl) ∙ ap (λ t. t ∷ []) r.is_wrong
  own_refused of_label w rest n z e l m r = fails (built_with c.called rules) c.tell here w rest r.kind (rw (e, l, m.0, m.1, m.2, s.no_fault, s.comes_to, r.fault) refl) ∙ ap (λ t. t ∷ []) r.is_wrong

-- rows between two words
plain_settled : (rows : List Row) (g : StreamOptions) → Holds rows g → Settled rows None g
plain_settled rows g h = record { come = rows; no_fault = refl; comes_to = refl; holds = h }

next_settled : (o : StreamOption) (z : Text) (rows : List Row) (h : StreamOptions) → IsTaken o z rows h → Settled rows (Some (name_of o, z ∷ [])) h
unfolding clap_on_literals
next_settled of_renewal z rows h t = record { come = used (rule_for of_renewal) (z ∷ []) rows; no_fault = t.no_fault; comes_to = refl; holds = t.holds }
next_settled of_store z rows h t = record { come = used (rule_for of_store) (z ∷ []) rows; no_fault = t.no_fault; comes_to = refl; holds = t.holds }
next_settled of_label z rows h t = record { come = used (rule_for of_label) (z ∷ []) rows; no_fault = t.no_fault; comes_to = refl; holds = t.holds }

-- ---- places where whatever follows is wrong

waiting_fault : (o : StreamOption) (rows : List Row) → settle_fault rules false (held_at rows (Some (name_of o, []))) ≡ kind.InvalidValue ∷ []
unfolding clap_on_literals
waiting_fault of_renewal rows = refl
waiting_fault of_store rows = refl
waiting_fault of_label rows = refl

abbrev is_waiting : Streamed → StreamOption → List Row → Faulty
is_waiting c o rows = record {
  name = c.called;
  rules = rules;
  tell = c.tell;
  rows = rows;
  pending = Some (name_of o, []);
  kind = kind.InvalidValue;
  fault = waiting_fault o rows;
  is_wrong = refl;
  letters = letter_of_help;
  position = 1;
  positional = None;
  taker = refl;
  settles = tt;
}

refused_fault : (o : StreamOption) (z : Text) (rows : List Row) (r : IsRefused o z rows) → settle_fault rules false (held_at rows (Some (name_of o, z ∷ []))) ≡ r.kind ∷ []
unfolding clap_on_literals
refused_fault of_renewal z rows r = r.fault
refused_fault of_store z rows r = r.fault
refused_fault of_label z rows r = r.fault

abbrev is_refused : (c : Streamed) (o : StreamOption) (z : Text) (rows : List Row) → IsRefused o z rows → Faulty
is_refused c o z rows r = record {
  name = c.called;
  rules = rules;
  tell = c.tell;
  rows = rows;
  pending = Some (name_of o, z ∷ []);
  kind = r.kind;
  fault = refused_fault o z rows r;
  is_wrong = r.is_wrong;
  letters = letter_of_help;
  position = 1;
  positional = None;
  taker = refl;
  settles = tt;
}

-- ---- an option waits for its value

waits_plain : (c : Streamed) (o : StreamOption) (rows : List Row) (w : Text) (rest : List Text) (flags : Option Text) → is_end w ≡ false → long_of w ≡ None → short_of w ≡ flags → letter_in flags ≡ None
    → comes c (waits o rows) (w ∷ rest) ≡ comes c (at rows (Some (name_of o, w ∷ [])) idle 1) rest
unfolding clap_on_literals
waits_plain c of_renewal rows w rest None e l f p = passes (built_with c.called rules) c.tell (waits of_renewal rows) (at rows (Some (name_of of_renewal, w ∷ [])) idle 1) w rest (rw (e, l, f) refl) (rw (e, l, f) refl)
waits_plain c of_renewal rows w rest (Some []) e l f p = passes (built_with c.called rules) c.tell (waits of_renewal rows) (at rows (Some (name_of of_renewal, w ∷ [])) idle 1) w rest (rw (e, l, f) refl) (rw (e, l, f) refl)
waits_plain c of_renewal rows w rest (Some (x ∷ xs)) e l f p = passes (built_with c.called rules) c.tell (waits of_renewal rows) (at rows (Some (name_of of_renewal, w ∷ [])) idle 1) w rest (rw (e, l, f, p) refl) (rw (e, l, f, p) refl)
waits_plain c of_store rows w rest None e l f p = passes (built_with c.called rules) c.tell (waits of_store rows) (at rows (Some (name_of of_store, w ∷ [])) idle 1) w rest (rw (e, l, f) refl) (rw (e, l, f) refl)
waits_plain c of_store rows w rest (Some []) e l f p = passes (built_with c.called rules) c.tell (waits of_store rows) (at rows (Some (name_of of_store, w ∷ [])) idle 1) w rest (rw (e, l, f) refl) (rw (e, l, f) refl)
waits_plain c of_store rows w rest (Some (x ∷ xs)) e l f p = passes (built_with c.called rules) c.tell (waits of_store rows) (at rows (Some (name_of of_store, w ∷ [])) idle 1) w rest (rw (e, l, f, p) refl) (rw (e, l, f, p) refl)
waits_plain c of_label rows w rest None e l f p = passes (built_with c.called rules) c.tell (waits of_label rows) (at rows (Some (name_of of_label, w ∷ [])) idle 1) w rest (rw (e, l, f) refl) (rw (e, l, f) refl)
waits_plain c of_label rows w rest (Some []) e l f p = passes (built_with c.called rules) c.tell (waits of_label rows) (at rows (Some (name_of of_label, w ∷ [])) idle 1) w rest (rw (e, l, f) refl) (rw (e, l, f) refl)
waits_plain c of_label rows w rest (Some (x ∷ xs)) e l f p = passes (built_with c.called rules) c.tell (waits of_label rows) (at rows (Some (name_of of_label, w ∷ [])) idle 1) w rest (rw (e, l, f, p) refl) (rw (e, l, f, p) refl)

-- ---- all words

-- between two words, and behind an option that waits
record Told (c : Streamed) (rest : List Text) : Type 0 where
  idle_told : (rows : List Row) (pending : Option (Text × List Text)) (g : StreamOptions) → Settled rows pending g
      → comes c (at rows pending idle 1) rest ≡ with_stream_options c.give g None rest ∷ []
  waiting_told : (o : StreamOption) (rows : List Row) (g : StreamOptions) → Holds rows g → comes c (waits o rows) rest ≡ with_stream_options c.give g (Some o) rest ∷ []

is_last : (c : Streamed) (rows : List Row) (pending : Option (Text × List Text)) (g : StreamOptions) (s : Settled rows pending g) → IsLast (place c rows pending s.no_fault) (c.give g)
unfolding clap_on_literals
is_last c rows pending g s = record { no_positional = refl; is_told = at_end c rows pending g s }

-- the option's name, with its value or without
on_option : (c : Streamed) (rest : List Text) → Told c rest → (rows : List Row) (pending : Option (Text × List Text)) (g : StreamOptions) → Settled rows pending g
    → (o : StreamOption) (w n : Text) (v : Option Text) → is_end w ≡ false → long_of w ≡ Some (n, v) → Called o n
    → comes c (at rows pending idle 1) (w ∷ rest) ≡ stream_option (λ h next. with_stream_options c.give h next rest) g o v ∷ []
on_option c rest told rows pending g s o w n None e l m = option_waits c rows pending g s o w rest n e l m ∙ told.waiting_told o s.come g s.holds
on_option c rest told rows pending g s o w n (Some z) e l m = go (with_option_value o z g) (goes o z s.come g s.holds)
  where
    go : (made : Option StreamOptions) → Goes o z s.come made → comes c (at rows pending idle 1) (w ∷ rest) ≡ once_given (λ h next. with_stream_options c.give h next rest) made ∷ []
    go None r = own_refused c rows pending g s o w rest n z e l m r
    go (Some h) t = own_taken c rows pending g s o w rest n z e l m t.no_fault ∙ told.idle_told (used (rule_for o) (z ∷ []) s.come) None h (plain_settled (used (rule_for o) (z ∷ []) s.come) h t.holds)

on_long : (c : Streamed) (rest : List Text) → Told c rest → (rows : List Row) (pending : Option (Text × List Text)) (g : StreamOptions) → Settled rows pending g
    → (w n : Text) (v : Option Text) → is_end w ≡ false → long_of w ≡ Some (n, v)
    → comes c (at rows pending idle 1) (w ∷ rest) ≡ stream_options_at c.give (λ h next. with_stream_options c.give h next rest) g None (long n v) w rest ∷ []
on_long c rest told rows pending g s w n v e l =
    by_option n (λ made. comes c (at rows pending idle 1) (w ∷ rest) ≡ option_map_or (λ o. stream_option (λ h next. with_stream_options c.give h next rest) g o v) made (look_telling (long n v)) ∷ [])
    (λ o m. on_option c rest told rows pending g s o w n v e l m)
    (λ none. at_long (place c rows pending s.no_fault) w rest n v e l (help_at n none))

-- the word that is the value
on_value : (c : Streamed) (rest : List Text) → Told c rest → (o : StreamOption) (rows : List Row) (g : StreamOptions) → Holds rows g → (w : Text)
    → comes c (at rows (Some (name_of o, w ∷ [])) idle 1) rest ≡ once_given (λ h next. with_stream_options c.give h next rest) (with_option_value o w g) ∷ []
on_value c rest told o rows g h w = go (with_option_value o w g) (goes o w rows g h)
  where
    go : (made : Option StreamOptions) → Goes o w rows made → comes c (at rows (Some (name_of o, w ∷ [])) idle 1) rest ≡ once_given (λ h next. with_stream_options c.give h next rest) made ∷ []
    go None r = faulty (is_refused c o w rows r) rest
    go (Some k) t = told.idle_told rows (Some (name_of o, w ∷ [])) k (next_settled o w rows k t)

all_told : (c : Streamed) (rest : List Text) → Told c rest
all_told c [] = record {
  idle_told = λ rows pending g s. at_end c rows pending g s;
  waiting_told = λ o rows g h. bad.at_last (is_waiting c o rows) (waiting.option (name_of o));
}
all_told c (w ∷ rest) = record {
  idle_told = λ rows pending g s.
      let p = place c rows pending s.no_fault in
      let last = is_last c rows pending g s in
      by_look w (λ look. comes c (at rows pending idle 1) (w ∷ rest) ≡ stream_options_at c.give (λ h next. with_stream_options c.give h next rest) g None look w rest ∷ [])
      (at_dashes p (c.give g) last w rest) (on_long c rest (all_told c rest) rows pending g s w) (at_short p w rest) (at_plain p (c.give g) last w rest);
  waiting_told = λ o rows g h.
      let f = is_waiting c o rows in
      let at = waiting.option (name_of o) in
      by_look w (λ look. comes c (waits o rows) (w ∷ rest) ≡ stream_options_at c.give (λ h next. with_stream_options c.give h next rest) g (Some o) look w rest ∷ [])
      (bad.at_dashes f at w rest) (bad.at_long f at w rest) (bad.at_short f at w rest)
      (λ flags e l s p. waits_plain c o rows w rest flags e l s p ∙ on_value c rest (all_told c rest) o rows g h w);
}

none_held : Holds [] no_options
none_held = record { each = none; renew_after = refl; store = refl; label = refl }
  where
    none : (o : StreamOption) → has_row (name_of o) [] ≡ has o no_options
    none of_renewal = refl
    none of_store = refl
    none of_label = refl

pub takes_options : (c : Streamed) (rest : List Text) → comes c start rest ≡ with_stream_options c.give no_options None rest ∷ []
takes_options c rest = (all_told c rest).idle_told [] None no_options (plain_settled [] no_options none_held)
