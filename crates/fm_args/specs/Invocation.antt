-- What the words of a command line ask for, without the texts that are printed (this project's profile).
use Rattle.std.specs.Prelude.{ℕ, List, Option}
use Rattle.fm_args.specs.declared.words.ScriptQuestion.{ScriptQuestion}
use Rattle.fm_args.specs.declared.words.Command.{Command}
use Rattle.fm_args.specs.declared.words.Command.TheVariants as command
use Rattle.fm_args.specs.declared.words.Words.{Words}
use Rattle.fm_args.specs.declared.words.Words.TheVariants as words

-- the bytes of a word
abbrev pub Text : Type 0
Text = List ℕ

-- a command: the question about a coordinator, with its number if one is told
-- or whether all coordinators know the same
-- or the first fault of a script
-- or the packet of the name
-- or the records of a packet
-- or why the task of the number waits or runs, by what that coordinator knows
pub data ArgsModel : Type 0 where
  ask : ScriptQuestion → Option ℕ → ArgsModel
  agree : ArgsModel
  check : ArgsModel
  pack : Text → ArgsModel
  unpack : ArgsModel
  why : ℕ → Option ℕ → ArgsModel

-- what is asked for: the command's answer
-- or a fleet that is run for so many rounds
-- or coordinators that are kept running, and are renewed once a history has so many entries
-- or the same with a store, by its path and its label
-- or the records of the store in a file
-- or what can be recovered of that store
-- or a text of help
-- or the page of refusals
-- or the version
-- or nothing, since the words are wrong
pub data Telling : Type 0 where
  run : ArgsModel → Telling
  fleet : ℕ → Telling
  follow : (renew_after : ℕ) → Telling
  follow_with_store : (renew_after : ℕ) → (path label : Text) → Telling
  records : (path : Text) → Telling
  recover : (path : Text) → Telling
  help : Telling
  page : Telling
  version : Telling
  wrong : Telling

abbrev pub args_model : Command → ArgsModel
args_model (command.Ask question at) = ask question at
args_model command.Agree = agree
args_model command.Check = check
args_model (command.Pack name) = pack name.now
args_model command.Unpack = unpack
args_model (command.Why task at) = why task at

-- what was made of the words, without its text
abbrev pub told_of : Words → Telling
told_of (words.Run command) = run (args_model command)
told_of (words.Fleet rounds) = fleet rounds
told_of (words.Follow renew_after) = follow renew_after
told_of (words.FollowWithStore renew_after path label) = follow_with_store renew_after path.now label.now
told_of (words.Records path) = records path.now
told_of (words.Recover path) = recover path.now
told_of (words.Help text) = help
told_of words.Refusals = page
told_of words.Version = version
told_of (words.Wrong text) = wrong
