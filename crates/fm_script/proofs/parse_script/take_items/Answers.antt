use Rattle.std.proofs.Common.{Some, map, sym, ◌∙◌, ap}
use Rattle.std.specs.Prelude.{option_map}
use Rattle.serde_json.specs.Find.{as_array}
use Rattle.serde_json.specs.View.{view}
use Rattle.fm_script.specs.Json.{bind, list_of}
use Rattle.fm_script.proofs.Views.{list_of-items_of}
use Rattle.fm_script.proofs.parse_script.take_items.Goals as goal

pub returns : goal.returns
returns c =
    let taken = map view c.in_ok-items.items.now.items in
    ap (λ v. Some (map view v.items)) c.replace.ensures.value
    ∙ ap Some (sym (list_of-items_of taken))
    ∙ ap (option_map list_of) c.in_ok-items.ensures.value
    ∙ ap (λ o. option_map list_of (bind o as_array)) c.in_ok-get_mut.ensures
