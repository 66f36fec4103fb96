use Rattle.std.proofs.Common.{ℕ, codes}
use Rattle.std.specs.Prelude.{take}
use Rattle.clap.specs.Words.{App}
use Rattle.fm_args.specs.CommandLine.{asks, commands, lists_records, packs, recovers}
use Rattle.fm_args.specs.Parser.{command_app, with_commands}
use Rattle.fm_args.specs.declared.words.ScriptQuestion.TheVariants as question
use Rattle.fm_args.proofs.parser.up_to_recover.Goals as goal

-- the program with the first of its commands, so many
abbrev first : (n : ℕ) → App
first n = with_commands (take n commands)

pub returns : goal.returns
returns c =
    let to_graph = c.with-to_graph.ensures (first 4) (command_app (codes "graph") (asks question.Graph)) c.up_to_follow-to_follow.ensures c.graph.ensures.app c.graph.ensures.local in
    let to_list = c.with-to_list.ensures (first 5) (command_app (codes "list") (asks question.List)) to_graph c.list.ensures.app c.list.ensures.local in
    let to_pack = c.with-to_pack.ensures (first 6) (command_app (codes "pack") packs) to_list c.pack.ensures.app c.pack.ensures.local in
    let to_records = c.with-to_records.ensures (first 7) (command_app (codes "records") lists_records) to_pack c.records.ensures.app c.records.ensures.local in
    c.with.ensures (first 8) (command_app (codes "recover") recovers) to_records c.recover.ensures.app c.recover.ensures.local
