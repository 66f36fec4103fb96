-- What is told of the words is what they ask for.
use Rattle.std.proofs.Common.{◌≡◌, ◌≢◌, ◌⊎◌, ◌∙◌, sym, refl, subst, inl, inr, true, false, Bool, List, [], ◌∷◌, Option, Some, None, Result, Ok, Err, codes}
use Rattle.std.specs.Prelude.{IfOk, bytes_eq, find, if◌then◌else◌}
use Rattle.std.specs.Option.{option_map_or}
use Rattle.std.proofs.lemmas.Slice.Eq.{bytes_eq-Decides}
use Rattle.clap.specs.Words.{fault_of}
use Rattle.clap.specs.declared.error.ErrorKind.{ErrorKind}
use Rattle.clap.specs.declared.error.ErrorKind.TheVariants as kind
use Rattle.clap.proofs.WalkLemmas.{both}
use Rattle.clap.proofs.OnLiterals.{clap_on_literals}
use Rattle.fm_lattice.specs.declared.join.OutOfMemory.{OutOfMemory}
use Rattle.fm_args.specs.declared.words.Words.{Words}
use Rattle.fm_args.specs.Invocation.{Telling, Text, help, page, told_of, wrong}
use Rattle.fm_args.specs.CommandLine.{Form, ask_for_refusals, ask_for_version, command_named, commands, telling_of_words, telling_of, telling_of_first, look_of, look_telling}
use Rattle.fm_args.specs.Parser.{asks_for_help, begins_with_help, firmament, told_of_error, told_at_error}
use Rattle.fm_args.specs.inner.ParserOutcomes.{IsOneOf, tellings}
use Rattle.fm_args.proofs.Same.{flipped}
use Rattle.fm_args.proofs.Commands.{Each, IsTold, each_told}
use Rattle.fm_args.proofs.Others.{other, single}

-- the command of a name is told
found : (P : Form → Type 0) (w : Text) (cs : List Form) (c : Form) → Each P cs → find (λ c. bytes_eq c.name w) cs ≡ Some c → (c.name ≡ w) × P c
found P w [] c each is = cc
found P w (x ∷ xs) c each is = go (bytes_eq x.name w) refl (found P w xs c each.1)
  where
    go : (b : Bool) → bytes_eq x.name w ≡ b → (find (λ d. bytes_eq d.name w) xs ≡ Some c → (c.name ≡ w) × P c) → (c.name ≡ w) × P c
    go true e later =
        let same : Some x ≡ Some c = rw e at is in
        let this : x ≡ c = cc in
        subst (λ (y : Form). (y.name ≡ w) × P y) this ((bytes_eq-Decides x.name w).0 e, each.0)
    go false e later = let left : find (λ d. bytes_eq d.name w) xs ≡ Some c = rw e at is in later left

by_command : (program w : Text) (rest : List Text) (c : Form) (t : Telling) → command_named w ≡ Some c → IsOneOf t (tellings (program ∷ w ∷ rest)) → t ≡ telling_of_words c.takes rest
by_command program w rest c t is h =
    let this = found IsTold w commands c each_told is in
    single t (telling_of_words c.takes rest) (subst (IsOneOf t) (this.1 program rest) (subst (λ (x : Text). IsOneOf t (tellings (program ∷ x ∷ rest))) (sym this.0) h))

abbrev told_named : Text → List Text → Telling
told_named w rest = option_map_or (λ c. telling_of_words c.takes rest) (command_named w) (look_telling (look_of w))

by_first : (program w : Text) (rest : List Text) (t : Telling) → bytes_eq (codes "help") w ≡ false → IsOneOf t (tellings (program ∷ w ∷ rest)) → t ≡ told_named w rest
by_first program w rest t no_help h = go (command_named w) refl
  where
    go : (o : Option Form) → command_named w ≡ o → t ≡ option_map_or (λ c. telling_of_words c.takes rest) o (look_telling (look_of w))
    go (Some c) is = by_command program w rest c t is h
    go None is = other program w rest is no_help t h

-- of words that do not begin with `help` the parser tells
is_heard : (all : List Text) (t : Telling) → begins_with_help all ≡ false → IsOneOf t (tellings all) → t ≡ telling_of_first all
unfolding clap_on_literals
is_heard [] t no_help h = single t wrong h
is_heard (program ∷ []) t no_help h = single t wrong h
is_heard (program ∷ w ∷ rest) t no_help h =
    let first : bytes_eq (codes "help") w ≡ false = flipped w (codes "help") false no_help in
    by_first program w rest t first h ∙ sym (rw first refl)

-- words that begin with `help` it does not take
help_is_fault : (all : List Text) → begins_with_help all ≡ true → fault_of firmament all ≢ []
unfolding clap_on_literals
help_is_fault [] is none = cc
help_is_fault (program ∷ []) is none = cc
help_is_fault (program ∷ w ∷ rest) is none =
    let first : w ≡ codes "help" = (bytes_eq-Decides w (codes "help")).0 is in
    let empty : fault_of firmament (program ∷ codes "help" ∷ rest) ≡ [] = subst (λ (x : Text). fault_of firmament (program ∷ x ∷ rest) ≡ []) first none in
    let no_list : kind.DisplayHelp ∷ kind.InvalidSubcommand ∷ [] ≡ [] = empty in cc

-- these tell what they ask for themselves
help_heard : (all : List Text) → begins_with_help all ≡ true → ask_for_refusals all ≡ false → telling_of_first all ≡ (if asks_for_help all then help else wrong)
help_heard [] is no_page = cc
help_heard (program ∷ []) is no_page = cc
help_heard (program ∷ w ∷ []) is no_page = rw (flipped w (codes "help") true is) refl
help_heard (program ∷ w ∷ topic ∷ []) is no_page =
    let other : bytes_eq topic (codes "refusals") ≡ false = rw is at no_page in
    rw (flipped w (codes "help") true is, flipped topic (codes "refusals") false other) refl
help_heard (program ∷ w ∷ topic ∷ more ∷ rest) is no_page = rw (flipped w (codes "help") true is) refl

-- the page of refusals
pub page_heard : (all : List Text) → ask_for_refusals all ≡ true → telling_of all ≡ page
page_heard [] is = cc
page_heard (program ∷ []) is = cc
page_heard (program ∷ w ∷ []) is = cc
page_heard (program ∷ w ∷ topic ∷ []) is =
    let parts = both (bytes_eq w (codes "help")) (bytes_eq topic (codes "refusals")) is in
    rw (flipped w (codes "help") true parts.0, flipped topic (codes "refusals") true parts.1) refl
page_heard (program ∷ w ∷ topic ∷ more ∷ rest) is = cc

-- words that do not ask for the version
pub first_heard : (all : List Text) → ask_for_version all ≡ false → telling_of all ≡ telling_of_first all
first_heard all no_version = rw no_version refl

-- words that the parser takes
pub taken_heard : (all : List Text) (t : Telling) → fault_of firmament all ≡ [] → IsOneOf t (tellings all) → t ≡ telling_of_first all
taken_heard all t none h = go (begins_with_help all) refl
  where
    go : (b : Bool) → begins_with_help all ≡ b → t ≡ telling_of_first all
    go true is = absurd (help_is_fault all is none)
    go false is = is_heard all t is h

-- words that it does not take
refused_heard : (all : List Text) (k : ErrorKind) → ask_for_refusals all ≡ false → IsOneOf (told_of_error k) (tellings all) → told_at_error all k ≡ telling_of_first all
refused_heard all k no_page h = go (begins_with_help all) refl
  where
    go : (b : Bool) → begins_with_help all ≡ b → told_at_error all k ≡ telling_of_first all
    go true is = rw is (sym (help_heard all is no_page))
    go false is = rw is (is_heard all (told_of_error k) is h)

pub text_heard : (all : List Text) (k : ErrorKind) (r : Result Words OutOfMemory) → ask_for_refusals all ≡ false → (k ≡ kind.OutOfMemory) ⊎ IsOneOf (told_of_error k) (tellings all)
    → IfOk r (λ w. told_of w ≡ told_at_error all k) → IfOk r (λ w. k ≢ kind.OutOfMemory) → IfOk r (λ w. told_of w ≡ telling_of_first all)
text_heard all k (Err e) no_page may told other = tt
text_heard all k (Ok w) no_page (inl memory) told other = absurd (other memory)
text_heard all k (Ok w) no_page (inr h) told other = told ∙ refused_heard all k no_page h
