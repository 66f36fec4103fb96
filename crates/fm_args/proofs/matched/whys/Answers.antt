use Rattle.std.proofs.Common.{◌∙◌, ap₂}
use Rattle.std.specs.Option.{option_map_or}
use Rattle.fm_records.specs.Ids.{read_id}
use Rattle.fm_args.specs.Invocation.{run, why, wrong}
use Rattle.fm_args.proofs.matched.whys.Goals as goal

pub returns-in-Some : goal.returns-in-Some
returns-in-Some c =
    c.why_of.ensures ∙ ap₂ (λ at name. option_map_or (λ word. option_map_or (λ task. run (why task at)) (read_id word) wrong) name wrong) c.at_in.ensures c.in-Some.ensures
