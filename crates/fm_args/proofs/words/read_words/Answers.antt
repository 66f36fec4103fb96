use Rattle.std.proofs.Common.{◌∙◌, map, string_bytes, sym}
use Rattle.fm_args.proofs.Hearing.{page_heard}
use Rattle.fm_args.proofs.words.read_words.Goals as goal

pub returns-then-ask_for_refusals-clause-heard : goal.returns-then-ask_for_refusals-clause-heard
returns-then-ask_for_refusals-clause-heard c = sym (page_heard (map string_bytes c.args.words.now) (sym c.ask_for_refusals.ensures ∙ c.if-ask_for_refusals.true))
