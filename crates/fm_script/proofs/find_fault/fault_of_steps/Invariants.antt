use Rattle.std.proofs.Common.{◌≡◌, ◌+◌, [], map, drop}
use Rattle.std.specs.Option.{option_or}
use Rattle.serde_json.specs.View.{view}
use Rattle.fm_script.specs.ScriptFaults.{first_at_fault, refused_of, step_form}
use Rattle.fm_script.proofs.find_fault.fault_of_steps.Given as goal

abbrev pub invariant-loop-place : goal.invariant-loop-place
invariant-loop-place l = record {
  formed : first_at_fault step_form [] 1 (map view l.items) ≡ first_at_fault step_form l.names (l.place + 1) (map view (drop l.place l.items));
  asked : first_at_fault (refused_of l.listed) [] 1 (map view l.items) ≡ option_or l.refused (first_at_fault (refused_of l.listed) l.names (l.place + 1) (map view (drop l.place l.items)));
}
