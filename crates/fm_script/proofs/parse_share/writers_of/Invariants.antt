use Rattle.std.proofs.Common.{◌≡◌, ◌≤◌, true, map, take, drop, length}
use Rattle.std.specs.List.{list_all}
use Rattle.serde_json.specs.View.{view}
use Rattle.fm_records.specs.Ids.{is_coordinator}
use Rattle.fm_script.specs.Script.{coordinator_of, all_there, are_distinct}
use Rattle.fm_script.proofs.Spelling.{all_after}
use Rattle.fm_script.proofs.parse_share.writers_of.Given as goal

abbrev pub invariant-loop-item : goal.invariant-loop-item
invariant-loop-item l = record {
  listed : all_there (map coordinator_of (map view l.items)) ≡ all_after (take l.count l.found) (drop l.item-index l.items);
  distinct : are_distinct (take l.count l.found) ≡ true;
  within : list_all is_coordinator (take l.count l.found) ≡ true;
  counted : l.count ≡ l.item-index;
  room : l.count ≤ 64;
  long : length l.found ≡ 64;
}
