-- What the parser makes of the words, by its clauses.
use Rattle.std.proofs.Common.{◌≡◌, ◌⊎◌, ◌∙◌, ap, sym, refl, subst, inl, inr, true, List, [], ◌∷◌, map}
use Rattle.clap.specs.Words.{App, HasKind, HasMatchesOf, IsAmong, Kinds, app_of, fault_of, is_simple, is_simple_and_free, kind_of, subcommand_of, subcommand_rows_of}
use Rattle.clap.specs.declared.builder.command.Command.{Command}
use Rattle.clap.specs.declared.error.Error.{Error}
use Rattle.clap.specs.declared.error.ErrorKind.{ErrorKind}
use Rattle.clap.specs.declared.error.ErrorKind.TheVariants as kind
use Rattle.clap.specs.declared.parser.matches.ArgMatches.{ArgMatches}
use Rattle.clap.proofs.OnLiterals.{clap_on_literals}
use Rattle.fm_args.specs.Invocation.{Telling, Text}
use Rattle.fm_args.specs.Parser.{firmament, told_of_error, told_of_subcommand}
use Rattle.fm_args.specs.inner.ParserOutcomes.{IsOneOf, tellings, told_or}

firmament_is_simple : is_simple firmament ≡ true
unfolding clap_on_literals
firmament_is_simple = refl

firmament_is_free : is_simple_and_free firmament ≡ true
unfolding clap_on_literals
firmament_is_free = refl

at_no_fault : (t : Telling) (kinds : Kinds) → kinds ≡ [] → IsOneOf t (told_or kinds t)
at_no_fault t kinds none = rw none (inl refl)

-- if it takes the words there is no fault, and its matches tell what may be told
pub of_matches : (c : Command) (words : List Text) (m : ArgMatches) → app_of c ≡ firmament → HasMatchesOf (app_of c) words m
    → (is_simple_and_free (app_of c) ≡ true → fault_of (app_of c) words ≡ [])
    → (fault_of firmament words ≡ []) × IsOneOf (told_of_subcommand (subcommand_rows_of m)) (tellings words)
of_matches c words m is has kinds =
    let found = has (ap is_simple is ∙ firmament_is_simple) in
    let none : fault_of firmament words ≡ [] = ap (λ (a : App). fault_of a words) (sym is) ∙ kinds (ap is_simple_and_free is ∙ firmament_is_free) in
    let told : told_of_subcommand (subcommand_rows_of m) ≡ told_of_subcommand (subcommand_of firmament words) = ap told_of_subcommand (found.1 ∙ ap (λ (a : App). subcommand_of a words) is) in
    (none, subst (λ (t : Telling). IsOneOf t (tellings words)) (sym told) (at_no_fault (told_of_subcommand (subcommand_of firmament words)) (fault_of firmament words) none))

among : (k : ErrorKind) (kinds : Kinds) → IsAmong k kinds → IsOneOf (told_of_error k) (map told_of_error kinds)
among k [] h = absurd h
among k (x ∷ xs) (inl e) = inl (ap told_of_error e)
among k (x ∷ xs) (inr h) = inr (among k xs h)

some_kind : (k : ErrorKind) (kinds : Kinds) (t : Telling) → IsAmong k kinds → IsOneOf (told_of_error k) (told_or kinds t)
some_kind k [] t h = absurd h
some_kind k (x ∷ xs) t h = among k (x ∷ xs) h

-- an error is one of the faults, or of memory
pub of_error : (c : Command) (words : List Text) (e : Error) → app_of c ≡ firmament
    → (is_simple_and_free (app_of c) ≡ true → HasKind (fault_of (app_of c) words) e)
    → (kind_of e ≡ kind.OutOfMemory) ⊎ IsOneOf (told_of_error (kind_of e)) (tellings words)
of_error c words e is kinds = go (kinds (ap is_simple_and_free is ∙ firmament_is_free))
  where
    go : HasKind (fault_of (app_of c) words) e → (kind_of e ≡ kind.OutOfMemory) ⊎ IsOneOf (told_of_error (kind_of e)) (tellings words)
    go (inl memory) = inl memory
    go (inr h) = inr (some_kind (kind_of e) (fault_of firmament words) (told_of_subcommand (subcommand_of firmament words)) (subst (λ (a : App). IsAmong (kind_of e) (fault_of a words)) is h))
