-- The commands as the kit's `clap` has them, and what it may make of words. What comes of it is `telling_of_first`, which needs
-- none of this.
use Rattle.std.specs.Prelude.{◌^◌, ◌&&◌, ℕ, Bool, true, false, pos, nat_le, nat_lt}
use Rattle.std.specs.Prelude.{List, [], ◌∷◌, fold, find, codes, bytes_eq}
use Rattle.std.specs.Prelude.{Option, Some, None, option_and_then, if◌then◌else◌}
use Rattle.std.specs.Option.{option_map_or}
use Rattle.std.specs.Str.Parse.{digits_value, without_leading_plus}
use Rattle.clap.specs.ValueTests.{is_numeral}
use Rattle.clap.specs.Words.{App, Row, Rule, first_of, one_of}
use Rattle.clap.specs.Words.{new_app, new_rule, with_rule, with_subcommand}
use Rattle.clap.specs.declared.builder.ArgAction.TheVariants.{Set}
use Rattle.clap.specs.declared.builder.value_parser.ValueParser.TheVariants as parser
use Rattle.clap.specs.declared.error.ErrorKind.{ErrorKind}
use Rattle.clap.specs.declared.error.ErrorKind.TheVariants as kind
use Rattle.fm_args.specs.Invocation.{Telling, Text, help, wrong}
use Rattle.fm_args.specs.CommandLine.{Form, ArgumentKind, most_renew_after, nothing, one_name, one_number, name_and_number, stream_options, commands, is_topic}

-- ---- the commands

abbrev pub name_rule : Rule
name_rule = record (new_rule (codes "name")) { value_names = 1; required = true }

abbrev pub number_rule : Text → ℕ → ℕ → Rule
number_rule option least most = record (new_rule option) {
  long = Some option;
  value_names = 1;
  action = Some Set;
  parser = Some (parser.Signed (pos least) (pos most));
}

abbrev pub word_rule : Text → Rule
word_rule option = record (new_rule option) { long = Some option; value_names = 1; action = Some Set }

abbrev pub command_app : Text → ArgumentKind → App
command_app name (nothing t) = new_app name
command_app name (one_name give) = with_rule (new_app name) name_rule
command_app name (one_number option least most give) = with_rule (new_app name) (number_rule option least most)
command_app name (name_and_number option least most give) = with_rule (with_rule (new_app name) name_rule) (number_rule option least most)
command_app name (stream_options give) = with_rule (with_rule (with_rule (new_app name)
    (number_rule (codes "renew-after") 1 most_renew_after)) (word_rule (codes "store"))) (word_rule (codes "store-label"))

abbrev pub no_commands : App
no_commands = record {
  top = record (new_app (codes "firmament")).top { subcommand_required = true; arg_required_else_help = true };
  subs = [];
}

abbrev pub add_command : App → Form → App
add_command app c = with_subcommand app (command_app c.name c.takes).top

abbrev pub with_commands : List Form → App
with_commands = fold add_command no_commands

abbrev pub firmament : App
firmament = with_commands commands

-- ---- what is made of its matches

-- the number of k bits that a text spells
abbrev pub parsed_bits : ℕ → Text → Option ℕ
parsed_bits k text =
    let ds = without_leading_plus text in
    if is_numeral ds && nat_lt (digits_value 10 ds) (2 ^ k) then Some (digits_value 10 ds) else None

abbrev pub number_read : ℕ → Text → List Row → Option ℕ
number_read k option rows = option_and_then (parsed_bits k) (one_of option rows)

-- the bits of the integer as which an option with such a most is read
abbrev pub bits_for : ℕ → ℕ
bits_for most = if nat_le most 255 then 8 else 32

abbrev pub told_with : ArgumentKind → List Row → Telling
told_with (nothing t) rows = t
told_with (one_name give) rows = option_map_or give (first_of (codes "name") rows) wrong
told_with (one_number option least most give) rows = give (number_read (bits_for most) option rows)
told_with (name_and_number option least most give) rows =
    let at = number_read (bits_for most) option rows in option_map_or (λ name. give name at) (first_of (codes "name") rows) wrong
told_with (stream_options give) rows = give (record {
  renew_after = number_read 32 (codes "renew-after") rows;
  store = first_of (codes "store") rows;
  label = first_of (codes "store-label") rows;
})

abbrev pub told_as : Text → List Row → Telling
told_as name rows = option_map_or (λ c. told_with c.takes rows) (find (λ c. bytes_eq name c.name) commands) wrong

abbrev pub told_of_subcommand : Option (Text × List Row) → Telling
told_of_subcommand sub = option_map_or (λ p. told_as p.0 p.1) sub wrong

-- ---- what is made of its errors

abbrev pub told_of_error : ErrorKind → Telling
told_of_error kind.DisplayHelp = help
told_of_error kind.DisplayVersion = help
told_of_error _ = wrong

abbrev pub begins_with_help : List Text → Bool
begins_with_help (program ∷ first ∷ rest) = bytes_eq first (codes "help")
begins_with_help _ = false

abbrev pub asks_for_help : List Text → Bool
asks_for_help (program ∷ first ∷ []) = true
asks_for_help (program ∷ first ∷ topic ∷ []) = is_topic topic
asks_for_help _ = false

-- of words that begin with `help` the parser does not say which it is
abbrev pub told_at_error : List Text → ErrorKind → Telling
told_at_error all k = if begins_with_help all then (if asks_for_help all then help else wrong) else told_of_error k
