-- What may be made of words by the parser, whichever of its faults it names.
use Rattle.std.specs.Prelude.{◌≡◌, ◌⊎◌, IfOk, Result}
use Rattle.std.specs.Prelude.{List, [], ◌∷◌, map}
use Rattle.clap.specs.Words.{Kinds, fault_of, subcommand_of}
use Rattle.fm_args.specs.declared.words.Words.{Words}
use Rattle.fm_args.specs.Invocation.{Telling, Text, told_of}
use Rattle.fm_args.specs.CommandLine.{telling_of_first}
use Rattle.fm_args.specs.Parser.{firmament, told_of_subcommand, told_of_error}

-- a parser that finds faults tells one of them, and else what the matches tell
abbrev pub told_or : Kinds → Telling → List Telling
told_or [] t = t ∷ []
told_or (k ∷ ks) t = map told_of_error (k ∷ ks)

abbrev pub tellings : List Text → List Telling
tellings all = told_or (fault_of firmament all) (told_of_subcommand (subcommand_of firmament all))

abbrev pub IsOneOf : Telling → List Telling → Type 0
IsOneOf t [] = ⊥
IsOneOf t (x ∷ xs) = (t ≡ x) ⊎ IsOneOf t xs

-- what was made of the words is what they ask for by the first of them
abbrev pub IsHeard : {E : Type 0} → List Text → Result Words E → Type 0
IsHeard all r = IfOk r (λ w. told_of w ≡ telling_of_first all)
