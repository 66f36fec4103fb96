use Rattle.std.proofs.Common.{◌≡◌, true, map, drop}
use Rattle.serde_json.specs.View.{view}
use Rattle.fm_script.specs.Script.{coordinator_of, all_there, are_distinct}
use Rattle.fm_script.proofs.Spelling.{all_after}
use Rattle.fm_script.proofs.parse_script.coordinators_in.Given as goal

abbrev pub invariant-loop-item : goal.invariant-loop-item
invariant-loop-item l = record {
  listed : all_there (map coordinator_of (map view l.items)) ≡ all_after l.listed.items (drop l.item-index l.items);
  distinct : are_distinct l.listed.items ≡ true;
}
