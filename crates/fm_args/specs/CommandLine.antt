-- What a command line asks for, by cases on its words alone (this project's profile).
use Rattle.std.specs.Prelude.{◌&&◌, ◌||◌, ◌==◌, ℕ, Bool, false, not, nat_le, List, [], ◌∷◌, length, find, codes, bytes_eq}
use Rattle.std.specs.Prelude.{Option, Some, None, is_some, unwrap_or, option_and_then, option_map, slice_get, if◌then◌else◌}
use Rattle.std.specs.Option.{option_map_or}
use Rattle.std.specs.Str.{chars}
use Rattle.std.specs.Str.Parse.{digits_value, starts_with_minus, without_leading_sign}
use Rattle.clap.specs.Lexer.{long_of, short_of}
use Rattle.clap.specs.ValueTests.{is_numeral}
use Rattle.fm_records.specs.Ids.{read_id}
use Rattle.fm_args.specs.declared.words.ScriptQuestion.{ScriptQuestion}
use Rattle.fm_args.specs.declared.words.ScriptQuestion.TheVariants as question
use Rattle.fm_args.specs.Invocation.{Telling, Text, agree, ask, check, fleet, follow, follow_with_store, help, pack, page, records, recover, run, unpack, version, why, wrong}

-- ---- one word

-- what a word looks like: it is `--`
-- or `--NAME` or `--NAME=VALUE`
-- or a hyphen, and then this character
-- or any other word: also a hyphen alone, and the empty word
pub data Look : Type 0 where
  dashes : Look
  long : Text → Option Text → Look
  short : ℕ → Look
  plain : Look

abbrev pub flag_or_plain : Option (Text × Option Text) → Option ℕ → Look
flag_or_plain (Some p) letter = long p.0 p.1
flag_or_plain None (Some c) = short c
flag_or_plain None None = plain

abbrev pub look_of : Text → Look
look_of w = if bytes_eq w (codes "--") then dashes
    else flag_or_plain (long_of w) (option_and_then (λ flags. slice_get (chars flags) 0) (short_of w))

-- the whole number that a word spells, if it is no less than the least and no greater than the most: decimal digits,
-- one at least, that may follow `+`; behind `-` only 0
abbrev pub parsed_number : ℕ → ℕ → Text → Option ℕ
parsed_number least most v =
    let digits = without_leading_sign v in
    let n = digits_value 10 digits in
    if is_numeral digits && (nat_le least n && (nat_le n most && (not (starts_with_minus v) || n == 0)))
    then Some n else None

-- ---- the words behind the name of a command

-- a word that no command takes: `--help`, or `-h` with whatever follows it, asks for help; any other is wrong
abbrev pub look_telling : Look → Telling
look_telling (long name None) = if bytes_eq (codes "help") name then help else wrong
look_telling (short c) = if 104 == c then help else wrong
look_telling _ = wrong

-- after the last argument there is nothing more, or `--` alone
abbrev pub ends_after : Look → Telling → List Text → Telling
ends_after dashes t [] = t
ends_after dashes t (w ∷ rest) = wrong
ends_after look t rest = look_telling look

abbrev pub ends : Telling → List Text → Telling
ends t [] = t
ends t (w ∷ rest) = ends_after (look_of w) t rest

-- a name: a word that is no flag; or, behind `--`, any word, which is then the last
abbrev pub name_argument : (Text → Telling) → Look → Text → List Text → Telling
name_argument give dashes w (name ∷ []) = give name
name_argument give dashes w rest = wrong
name_argument give plain w rest = ends (give w) rest
name_argument give look w rest = look_telling look

abbrev pub with_name : (Text → Telling) → List Text → Telling
with_name give [] = wrong
with_name give (w ∷ rest) = name_argument give (look_of w) w rest

-- the number that an option was given, and what it makes of the words that follow
abbrev pub counts : (ℕ → List Text → Telling) → Option ℕ → List Text → Telling
counts next None rest = wrong
counts next (Some n) rest = next n rest

-- a number in a word of its own, which is no flag
abbrev pub number_argument : ℕ → ℕ → (ℕ → List Text → Telling) → Look → Text → List Text → Telling
number_argument least most next plain v rest = counts next (parsed_number least most v) rest
number_argument least most next look v rest = wrong

-- a number behind the `=` of its option, or else in the next word
abbrev pub number_option : ℕ → ℕ → (ℕ → List Text → Telling) → Option Text → List Text → Telling
number_option least most next (Some v) rest = counts next (parsed_number least most v) rest
number_option least most next None [] = wrong
number_option least most next None (v ∷ rest) = number_argument least most next (look_of v) v rest

-- an option with its number, once; or no argument
abbrev pub option_at : Text → ℕ → ℕ → (Option ℕ → Telling) → Look → List Text → Telling
option_at option least most give (long n v) rest =
    if bytes_eq option n then number_option least most (λ k. ends (give (Some k))) v rest else look_telling (long n v)
option_at option least most give look rest = ends_after look (give None) rest

abbrev pub with_option : Text → ℕ → ℕ → (Option ℕ → Telling) → List Text → Telling
with_option option least most give [] = give None
with_option option least most give (w ∷ rest) = option_at option least most give (look_of w) rest

-- a name, and an option with its number before or behind it, once; or the name alone
abbrev pub name_or_option_at : Text → ℕ → ℕ → (Text → Option ℕ → Telling) → Look → Text → List Text → Telling
name_or_option_at option least most give (long n v) w rest =
    if bytes_eq option n then number_option least most (λ k. with_name (λ name. give name (Some k))) v rest else look_telling (long n v)
name_or_option_at option least most give plain w rest = with_option option least most (give w) rest
name_or_option_at option least most give look w rest = name_argument (λ name. give name None) look w rest

abbrev pub with_name_and_option : Text → ℕ → ℕ → (Text → Option ℕ → Telling) → List Text → Telling
with_name_and_option option least most give [] = wrong
with_name_and_option option least most give (w ∷ rest) = name_or_option_at option least most give (look_of w) w rest

-- ---- the options of a stream

-- if no N is told: an entry takes about a kilobyte, so that a history takes some 100 MB
abbrev pub default_renew_after : ℕ
default_renew_after = 100000

-- as many entries as a history can have
abbrev pub most_renew_after : ℕ
most_renew_after = 1000000

-- how many bytes a label may have
abbrev pub most_label_bytes : ℕ
most_label_bytes = 200

-- what the options were given
pub record StreamOptions : Type 0 where
  pub renew_after : Option ℕ
  pub store : Option Text
  pub label : Option Text

abbrev pub no_options : StreamOptions
no_options = record { renew_after = None; store = None; label = None }

-- `--renew-after`, `--store` and `--store-label`
pub data StreamOption : Type 0 where
  of_renewal : StreamOption
  of_store : StreamOption
  of_label : StreamOption

abbrev pub option_named : Text → Option StreamOption
option_named n = if bytes_eq (codes "renew-after") n then Some of_renewal
    else (if bytes_eq (codes "store") n then Some of_store else (if bytes_eq (codes "store-label") n then Some of_label else None))

-- the options with one more, if it was not given before: a number from 1 to the most, or any word
abbrev pub with_option_value : StreamOption → Text → StreamOptions → Option StreamOptions
with_option_value of_renewal v g =
    if is_some g.renew_after then None else option_map (λ n. record g { renew_after = Some n }) (parsed_number 1 most_renew_after v)
with_option_value of_store v g = if is_some g.store then None else Some (record g { store = Some v })
with_option_value of_label v g = if is_some g.label then None else Some (record g { label = Some v })

-- what comes of the words that follow, by the options before them and by the one that waits for its value, if one does
abbrev pub Onward : Type 0
Onward = StreamOptions → Option StreamOption → Telling

abbrev pub once_given : Onward → Option StreamOptions → Telling
once_given onward None = wrong
once_given onward (Some g) = onward g None

abbrev pub stream_option : Onward → StreamOptions → StreamOption → Option Text → Telling
stream_option onward g o (Some v) = once_given onward (with_option_value o v g)
stream_option onward g o None = onward g (Some o)

abbrev pub stream_options_at : (StreamOptions → Telling) → Onward → StreamOptions → Option StreamOption → Look → Text → List Text → Telling
stream_options_at give onward g (Some o) plain w rest = once_given onward (with_option_value o w g)
stream_options_at give onward g (Some o) look w rest = wrong
stream_options_at give onward g None (long n v) w rest =
    option_map_or (λ o. stream_option onward g o v) (option_named n) (look_telling (long n v))
stream_options_at give onward g None look w rest = ends_after look (give g) rest

-- options in any order, each once at most: its value is behind its `=`, or is the next word, which is no flag
abbrev pub with_stream_options : (StreamOptions → Telling) → StreamOptions → Option StreamOption → List Text → Telling
with_stream_options give g None [] = give g
with_stream_options give g (Some o) [] = wrong
with_stream_options give g waiting (w ∷ rest) =
    stream_options_at give (λ h next. with_stream_options give h next rest) g waiting (look_of w) w rest

-- ---- the commands

-- what a command takes, and what it then asks for: nothing
-- or one name
-- or an option `--NAME N`, where N is no less than the least and no greater than the most; or no option
-- or one name, and such an option or none
-- or the options of a stream
pub data ArgumentKind : Type 0 where
  nothing : Telling → ArgumentKind
  one_name : (Text → Telling) → ArgumentKind
  one_number : Text → (least most : ℕ) → (Option ℕ → Telling) → ArgumentKind
  name_and_number : Text → (least most : ℕ) → (Text → Option ℕ → Telling) → ArgumentKind
  stream_options : (StreamOptions → Telling) → ArgumentKind

-- `--at N`: the question about the coordinator N, or about the first of the script
abbrev pub asks : ScriptQuestion → ArgumentKind
asks q = one_number (codes "at") 0 255 (λ at. run (ask q at))

-- `--rounds N`: a fleet for N rounds, or for none
abbrev pub fleets : ArgumentKind
fleets = one_number (codes "rounds") 0 1000 (λ rounds. fleet (unwrap_or rounds 0))

-- a stream with a store, by its path and its label, or with none; a label has 200 bytes at most, and is given with a store alone
abbrev pub stored_at : ℕ → Text → Text → Telling
stored_at n path label = if nat_le (length label) most_label_bytes then follow_with_store n path label else wrong

abbrev pub follow_at : ℕ → Option Text → Option Text → Telling
follow_at n None None = follow n
follow_at n None (Some label) = wrong
follow_at n (Some path) label = stored_at n path (unwrap_or label [])

abbrev pub follow_by : StreamOptions → Telling
follow_by g = follow_at (unwrap_or g.renew_after default_renew_after) g.store g.label

-- `--renew-after N`, `--store FILE` and `--store-label TEXT`: coordinators that are kept running, are renewed once a history has N entries, 1 at
-- least, and have their packets in the store of the label in the file
abbrev pub follows : ArgumentKind
follows = stream_options follow_by

-- `NAME`: the packet of the name
abbrev pub packs : ArgumentKind
packs = one_name (λ name. run (pack name))

-- `FILE`: the records of the store in the file
abbrev pub lists_records : ArgumentKind
lists_records = one_name (λ path. records path)

-- `FILE`: what can be recovered of it
abbrev pub recovers : ArgumentKind
recovers = one_name (λ path. recover path)

-- `TASK` and `--at N`: why the task of the id waits or runs, asked of the coordinator N, or of the first of the script
abbrev pub whys : ArgumentKind
whys = name_and_number (codes "at") 0 255 (λ name at. option_map_or (λ task. run (why task at)) (read_id name) wrong)

pub record Form : Type 0 where
  pub name : Text
  pub takes : ArgumentKind

-- all that there are
abbrev pub commands : List Form
commands = record { name = codes "agree"; takes = nothing (run agree) }
    ∷ record { name = codes "check"; takes = nothing (run check) }
    ∷ record { name = codes "fleet"; takes = fleets }
    ∷ record { name = codes "follow"; takes = follows }
    ∷ record { name = codes "graph"; takes = asks question.Graph }
    ∷ record { name = codes "list"; takes = asks question.List }
    ∷ record { name = codes "pack"; takes = packs }
    ∷ record { name = codes "records"; takes = lists_records }
    ∷ record { name = codes "recover"; takes = recovers }
    ∷ record { name = codes "solve"; takes = asks question.Solve }
    ∷ record { name = codes "plan"; takes = asks question.Plan }
    ∷ record { name = codes "unpack"; takes = nothing (run unpack) }
    ∷ record { name = codes "why"; takes = whys }
    ∷ record { name = codes "winners"; takes = asks question.Winners }
    ∷ []

-- ---- the command line, the program's own name first

-- what a command asks for by the words behind its name
abbrev pub telling_of_words : ArgumentKind → List Text → Telling
telling_of_words (nothing t) = ends t
telling_of_words (one_name give) = with_name give
telling_of_words (one_number option least most give) = with_option option least most give
telling_of_words (name_and_number option least most give) = with_name_and_option option least most give
telling_of_words (stream_options give) = with_stream_options give no_options None

abbrev pub command_named : Text → Option Form
command_named w = find (λ c. bytes_eq c.name w) commands

-- the name of a command, or `help`
abbrev pub is_topic : Text → Bool
is_topic w = is_some (command_named w) || bytes_eq (codes "help") w

-- behind `help`: nothing, or a word of which there is help; or `refusals`, for the page of refusals
abbrev pub helps : List Text → Telling
helps [] = help
helps (w ∷ []) = if bytes_eq (codes "refusals") w then page else (if is_topic w then help else wrong)
helps rest = wrong

-- the first word: `help`, the name of a command, or a flag that asks for help
abbrev pub heard_at : Text → List Text → Telling
heard_at w rest = if bytes_eq (codes "help") w then helps rest
    else option_map_or (λ c. telling_of_words c.takes rest) (command_named w) (look_telling (look_of w))

-- what the words ask for by the first of them
abbrev pub telling_of_first : List Text → Telling
telling_of_first [] = wrong
telling_of_first (program ∷ []) = wrong
telling_of_first (program ∷ w ∷ rest) = heard_at w rest

-- the words are `--version` or `-V` alone, behind the program's name
abbrev pub ask_for_version : List Text → Bool
ask_for_version (program ∷ w ∷ []) = bytes_eq w (codes "--version") || bytes_eq w (codes "-V")
ask_for_version _ = false

-- what the words ask for
abbrev pub telling_of : List Text → Telling
telling_of all = if ask_for_version all then version else telling_of_first all

-- the words are `help refusals`, behind the program's name
abbrev pub ask_for_refusals : List Text → Bool
ask_for_refusals (program ∷ first ∷ second ∷ []) = bytes_eq first (codes "help") && bytes_eq second (codes "refusals")
ask_for_refusals _ = false
