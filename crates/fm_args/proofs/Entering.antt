-- What the name of a command leads to.
use Rattle.std.proofs.Common.{◌≡◌, ◌∙◌, ap, ap₂, sym, refl, false, List, [], ◌∷◌, Some}
use Rattle.std.specs.Prelude.{find, fold, is_some}
use Rattle.clap.specs.Words.{App, Kinds, Shape, fault_of, subcommand_of, built}
use Rattle.clap.specs.Kinds.{or_else}
use Rattle.clap.specs.Simple.{entered, label_of, names_of, rows_at}
use Rattle.clap.specs.Walk.{Walk, answers_to, finished, nothing_held, settled, walk, walked}
use Rattle.clap.specs.Faults.{check_fault, defaults_fault, entered_fault, level_fault, settle_fault, turn_fault, walk_fault}
use Rattle.clap.proofs.OnLiterals.{clap_on_literals}
use Rattle.clap.proofs.FaultLemmas.{stopped_fault}
use Rattle.clap.proofs.WalkLemmas.{walk_stopped}
use Rattle.fm_args.specs.Invocation.{Text}
use Rattle.fm_args.specs.Parser.{firmament, told_as, told_of_subcommand}
use Rattle.fm_args.specs.inner.ParserOutcomes.{tellings, told_or}
use Rattle.fm_args.proofs.Leaf.{leaf_from, start}

abbrev pub all : App
all = built firmament

abbrev at_end : Walk → Kinds → Kinds
at_end w first = or_else first (or_else (entered_fault all w.stopped)
    (or_else (settle_fault all.top.rules all.top.args_override_self w.held)
    (or_else (defaults_fault (settled all.top.rules w.held).rows all.top.rules)
    (check_fault all.top (finished all.top.rules w.held) (is_some (entered all w.stopped))))))

or_else_nil : (ks : Kinds) → or_else ks [] ≡ ks
or_else_nil [] = refl
or_else_nil (k ∷ ks) = refl

is_at_end : (name : Text) (words : List Text) → fault_of firmament (name ∷ words) ≡ at_end (walk all.top.rules (names_of all) nothing_held words) (walk_fault all.top (names_of all) start words)
is_at_end name words = refl

stops : (word : Text) (rest : List Text) (s : Shape) → find (λ x. answers_to word (label_of x)) all.subs ≡ Some s
    → at_end (record start { stopped = Some (word, rest) }) [] ≡ level_fault s [] nothing_held rest false []
unfolding clap_on_literals
stops word rest s found = rw found (or_else_nil (level_fault s [] nothing_held rest false []))

-- the walk over a program's words stops at the name of a command, and the command's own walk begins
pub enter : (name word : Text) (rest : List Text) (s : Shape)
    → walked all.top.rules (names_of all) start word ≡ record start { stopped = Some (word, []) }
    → turn_fault all.top (names_of all) start word ≡ []
    → find (λ x. answers_to word (label_of x)) all.subs ≡ Some s
    → tellings (name ∷ word ∷ rest) ≡ leaf_from s (told_as s.name) start rest
unfolding walk_fault
enter name word rest s met turn found =
    let end : walk all.top.rules (names_of all) nothing_held (word ∷ rest) ≡ record start { stopped = Some (word, rest) } =
    ap (λ (w : Walk). fold (walked all.top.rules (names_of all)) w rest) met ∙ sym (walk_stopped all.top.rules (names_of all) start word [] rest) in
    let faults : walk_fault all.top (names_of all) start (word ∷ rest) ≡ [] =
    ap₂ or_else turn (ap (λ (w : Walk). walk_fault all.top (names_of all) w rest) met ∙ stopped_fault all.top (names_of all) start (word, []) rest) in
    let fault : fault_of firmament (name ∷ word ∷ rest) ≡ level_fault s [] nothing_held rest false [] =
    is_at_end name (word ∷ rest) ∙ ap₂ at_end end faults ∙ stops word rest s found in
    let sub : subcommand_of firmament (name ∷ word ∷ rest) ≡ Some (rows_at s rest) =
    ap (λ (w : Walk). entered all w.stopped) end ∙ rw found refl in
    ap₂ told_or fault (ap told_of_subcommand sub)
