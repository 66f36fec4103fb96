use Rattle.std.proofs.Common.{◌∙◌, ap, string_bytes, sym}
use Rattle.fm_args.specs.CommandLine.{is_topic}
use Rattle.fm_args.proofs.Helping.{few_ask_nothing, many_ask_nothing, one_topic}
use Rattle.fm_args.proofs.help.ask_for_help.Goals as goal

pub returns-in-len3 : goal.returns-in-len3
returns-in-len3 c =
    c.is_topic.ensures ∙ ap is_topic (c.as_str.ensures.value ∙ ap string_bytes c.topic-item.is)
    ∙ sym (one_topic string_bytes c.args.words.now c.topic-item.result c.in-len3.len_below c.in-len3.len_at_least)

pub returns-in_default : goal.returns-in_default
returns-in_default c = sym (few_ask_nothing string_bytes c.args.words.now c.in_default.len_below)

pub returns-in_default-2 : goal.returns-in_default-2
returns-in_default-2 c = sym (many_ask_nothing string_bytes c.args.words.now c.in_default.len_at_least)
