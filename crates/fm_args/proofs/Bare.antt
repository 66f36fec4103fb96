-- The commands that take nothing.
use Rattle.std.proofs.Common.{◌≡◌, refl, List, [], ◌∷◌, None}
use Rattle.clap.specs.Words.{Row}
use Rattle.clap.proofs.OnLiterals.{clap_on_literals}
use Rattle.fm_args.specs.Invocation.{Telling, Text}
use Rattle.fm_args.specs.CommandLine.{ends}
use Rattle.fm_args.proofs.Leaf.{built_with, helper, helps_at, leaf_from, letter_of_help, start}
use Rattle.fm_args.proofs.Fine.{IsLast, Place, fine}

abbrev begun : Text → (List Row → Telling) → Place
begun name tell = record {
  name = name;
  rules = helper ∷ [];
  tell = tell;
  rows = [];
  pending = None;
  position = 1;
  no_fault = refl;
  letters = letter_of_help;
}

is_last : (name : Text) (tell : List Row → Telling) (t : Telling) → tell [] ≡ t → IsLast (begun name tell) t
unfolding clap_on_literals
is_last name tell t told = record { no_positional = refl; is_told = rw told refl }

pub bare : (name : Text) (tell : List Row → Telling) (t : Telling) → tell [] ≡ t → (rest : List Text) → leaf_from (built_with name (helper ∷ [])) tell start rest ≡ ends t rest ∷ []
bare name tell t told rest = fine (begun name tell) t (is_last name tell t told) rest helps_at
