-- Calls that are answered with nothing.
use Rattle.std.specs.Prelude.{◌≡◌}
use Rattle.fm_coord.specs.declared.entry.Call.{Call}
use Rattle.fm_coord.specs.States.{State}
use Rattle.fm_coord.specs.Outputs.{reply_to, answer_to}
use Rattle.fm_coord.specs.declared.entry.Reply.TheVariants as reply

-- a call that is answered with nothing more than that it is done
abbrev pub AnswersNothing : Call → Type 0
AnswersNothing call = (s : State) → reply_to (answer_to s call) ≡ reply.Nothing
