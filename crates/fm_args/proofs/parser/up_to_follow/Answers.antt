use Rattle.std.proofs.Common.{ℕ, codes}
use Rattle.std.specs.Prelude.{take}
use Rattle.clap.specs.Words.{App}
use Rattle.fm_args.specs.CommandLine.{commands, fleets, follows, nothing}
use Rattle.fm_args.specs.Parser.{command_app, with_commands}
use Rattle.fm_args.specs.Invocation.{agree, check, run}
use Rattle.fm_args.proofs.parser.up_to_follow.Goals as goal

-- the program with the first of its commands, so many
abbrev first : (n : ℕ) → App
first n = with_commands (take n commands)

pub returns : goal.returns
returns c =
    let to_agree = c.with-to_agree.ensures (first 0) (command_app (codes "agree") (nothing (run agree))) c.program.ensures.app c.agree.ensures.app c.agree.ensures.local in
    let to_check = c.with-to_check.ensures (first 1) (command_app (codes "check") (nothing (run check))) to_agree c.check.ensures.app c.check.ensures.local in
    let to_fleet = c.with-to_fleet.ensures (first 2) (command_app (codes "fleet") fleets) to_check c.fleet.ensures.app c.fleet.ensures.local in
    c.with.ensures (first 3) (command_app (codes "follow") follows) to_fleet c.follow.ensures.app c.follow.ensures.local
