-- What a command comes to from where its walk over the words stands.
use Rattle.std.proofs.Common.{◌≡◌, ◌∙◌, ap, refl, true, false, Bool, ℕ, List, [], ◌∷◌, Option, Some, None}
use Rattle.std.specs.Prelude.{fold, bytes_eq, codes, if◌then◌else◌, ◌==◌}
use Rattle.clap.specs.Words.{Kinds, Row, Rule, Shape}
use Rattle.clap.specs.declared.error.ErrorKind.{ErrorKind}
use Rattle.clap.specs.Kinds.{or_else}
use Rattle.clap.specs.Simple.{filled, help_rule, new_shape}
use Rattle.clap.specs.Walk.{Held, Waiting, Walk, arg_by_long, arg_by_short, finished, idle, option, positional, settled, subcommand_met, walked}
use Rattle.clap.specs.Faults.{check_fault, defaults_fault, settle_fault, turn_fault, walk_fault}
use Rattle.fm_args.specs.Invocation.{Telling, Text}
use Rattle.fm_args.specs.Parser.{told_of_error}
use Rattle.fm_args.specs.inner.ParserOutcomes.{told_or}

abbrev ended : Shape → Walk → Kinds
ended s end = or_else (settle_fault s.rules s.args_override_self end.held)
    (or_else (defaults_fault (settled s.rules end.held).rows s.rules)
    (check_fault s (finished s.rules end.held) false))

-- what the command comes to from where its walk stands, if its rows tell so
abbrev pub leaf_from : Shape → (List Row → Telling) → Walk → List Text → List Telling
leaf_from s tell w rest = told_or (or_else (walk_fault s [] w rest) (ended s (fold (walked s.rules []) w rest)))
    (tell (finished s.rules (fold (walked s.rules []) w rest).held))

-- a word at no fault leads on
pub passes : (s : Shape) (tell : List Row → Telling) (w after : Walk) (word : Text) (rest : List Text) → turn_fault s [] w word ≡ [] → walked s.rules [] w word ≡ after
    → leaf_from s tell w (word ∷ rest) ≡ leaf_from s tell after rest
unfolding walk_fault
passes s tell w after word rest turn is = ap (λ ks. told_or (or_else (or_else ks (walk_fault s [] (walked s.rules [] w word) rest)) (ended s (fold (walked s.rules []) (walked s.rules [] w word) rest)))
    (tell (finished s.rules (fold (walked s.rules []) (walked s.rules [] w word) rest).held))) turn ∙ ap (λ v. leaf_from s tell v rest) is

-- a word at fault ends it
pub fails : (s : Shape) (tell : List Row → Telling) (w : Walk) (word : Text) (rest : List Text) (k : ErrorKind) → turn_fault s [] w word ≡ k ∷ []
    → leaf_from s tell w (word ∷ rest) ≡ told_of_error k ∷ []
unfolding walk_fault
fails s tell w word rest k turn = ap (λ ks. told_or (or_else (or_else ks (walk_fault s [] (walked s.rules [] w word) rest)) (ended s (fold (walked s.rules []) (walked s.rules [] w word) rest)))
    (tell (finished s.rules (fold (walked s.rules []) (walked s.rules [] w word) rest).held))) turn

-- a command with no subcommands, as it is built
abbrev pub built_with : Text → List Rule → Shape
built_with name rules = record (new_shape name) { rules = rules; disable_help_subcommand = true; is_built = true }

-- the argument that `--help` and `-h` name
abbrev pub helper : Rule
helper = filled help_rule

abbrev pub held_at : List Row → Option (Text × List Text) → Held
held_at rows pending = record { rows = rows; pending = pending; skip = 0 }

-- between two words: what is held, what waits for a value, and the place of the next positional
abbrev pub at : List Row → Option (Text × List Text) → Waiting → ℕ → Walk
at rows pending waiting i = record { held = held_at rows pending; waiting = waiting; position = i; is_trailing = false; stopped = None }

abbrev pub start : Walk
start = at [] None idle 1

-- of long names and letters there are those of help alone
abbrev pub HelpsAt : List Rule → Text → Type 0
HelpsAt rules n = arg_by_long rules n ≡ (if bytes_eq (codes "help") n then Some helper else None)

abbrev pub HasLetterOfHelp : List Rule → Type 0
HasLetterOfHelp rules = (c : ℕ) → arg_by_short rules c ≡ (if 104 == c then Some helper else None)

pub letter_of_help : HasLetterOfHelp (helper ∷ [])
letter_of_help c = go (104 == c) refl
  where
    go : (b : Bool) → (104 == c) ≡ b → arg_by_short (helper ∷ []) c ≡ (if 104 == c then Some helper else None)
    go true h = rw h refl
    go false h = rw h refl

pub helps_at : (n : Text) → HelpsAt (helper ∷ []) n
helps_at n = go (bytes_eq (codes "help") n) refl
  where
    go : (b : Bool) → bytes_eq (codes "help") n ≡ b → HelpsAt (helper ∷ []) n
    go true h = rw h refl
    go false h = rw h refl

pub no_command : (waiting : Waiting) (word : Text) → subcommand_met [] waiting word ≡ None
no_command idle word = refl
no_command (option id) word = refl
no_command positional word = refl
