-- How a run goes, as the program has it.
use Rattle.fm_serve.specs.declared.serve.RunWay.{RunWay}
use Rattle.fm_serve.specs.declared.serve.RunWay.TheVariants as way
use Rattle.fm_serve.specs.Output.{RunKind, from_input, from_stream, from_stored_stream, from_store}

abbrev pub way_model : RunWay → RunKind
way_model way.Answer = from_input
way_model (way.Follow renew_after) = from_stream renew_after
way_model (way.FollowWithStore asked) = from_stored_stream asked.renew_after asked.path.now asked.label.now
way_model (way.Salvage q path) = from_store q path.now
