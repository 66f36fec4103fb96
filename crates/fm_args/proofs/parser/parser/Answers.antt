use Rattle.std.proofs.Common.{ℕ, codes}
use Rattle.std.specs.Prelude.{take}
use Rattle.clap.specs.Words.{App}
use Rattle.fm_args.specs.CommandLine.{asks, commands, nothing, whys}
use Rattle.fm_args.specs.Parser.{command_app, with_commands}
use Rattle.fm_args.specs.Invocation.{run, unpack}
use Rattle.fm_args.specs.declared.words.ScriptQuestion.TheVariants as question
use Rattle.fm_args.proofs.parser.parser.Goals as goal

-- the program with the first of its commands, so many
abbrev first : (n : ℕ) → App
first n = with_commands (take n commands)

pub returns : goal.returns
returns c =
    let to_solve = c.with-to_solve.ensures (first 9) (command_app (codes "solve") (asks question.Solve)) c.up_to_recover-to_recover.ensures c.solve.ensures.app c.solve.ensures.local in
    let to_plan = c.with-to_plan.ensures (first 10) (command_app (codes "plan") (asks question.Plan)) to_solve c.plan.ensures.app c.plan.ensures.local in
    let to_unpack = c.with-to_unpack.ensures (first 11) (command_app (codes "unpack") (nothing (run unpack))) to_plan c.unpack.ensures.app c.unpack.ensures.local in
    let to_why = c.with-to_why.ensures (first 12) (command_app (codes "why") whys) to_unpack c.why.ensures.app c.why.ensures.local in
    c.with.ensures (first 13) (command_app (codes "winners") (asks question.Winners)) to_why c.winners.ensures.app c.winners.ensures.local
