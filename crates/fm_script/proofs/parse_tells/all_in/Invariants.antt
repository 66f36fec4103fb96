use Rattle.std.proofs.Common.{◌≡◌, ◌+◌, ◌++◌, Some, map, length}
use Rattle.std.specs.Vec.Iter.{into_iter_items}
use Rattle.serde_json.specs.View.{view}
use Rattle.fm_script.specs.Script.{tell_of, first_untold}
use Rattle.fm_script.proofs.parse_tells.all_in.Given as goal

abbrev pub invariant-loop-item : goal.invariant-loop-item
invariant-loop-item l = record {
  read : map tell_of (map view l.fn.items.items) ≡ map Some l.tells.items ++ map tell_of (map view (into_iter_items l.item-iterator));
  none_untold : first_untold 1 (map view l.fn.items.items) ≡ first_untold (length l.tells.items + 1) (map view (into_iter_items l.item-iterator));
}
