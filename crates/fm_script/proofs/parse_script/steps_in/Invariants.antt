use Rattle.std.proofs.Common.{◌≡◌, ◌+◌, ◌++◌, [], Some, map, length}
use Rattle.std.specs.List.{flat_map}
use Rattle.std.specs.Vec.Iter.{into_iter_items}
use Rattle.serde_json.specs.View.{view}
use Rattle.fm_script.specs.Script.{steps_of, names_in, first_strange}
use Rattle.fm_script.proofs.parse_script.steps_in.Given as goal

abbrev pub invariant-loop-item : goal.invariant-loop-item
invariant-loop-item l = record {
  read : steps_of [] (map view l.fn.items.items) ≡ map Some l.steps.items ++ steps_of l.names (map view (into_iter_items l.item-iterator));
  named : flat_map names_in (map view l.fn.items.items) ≡ l.names ++ flat_map names_in (map view (into_iter_items l.item-iterator));
  none_strange : first_strange [] 1 (map view l.fn.items.items) ≡ first_strange l.names (length l.steps.items + 1) (map view (into_iter_items l.item-iterator));
}
