use Rattle.std.proofs.Common.{◌∙◌, is_some, ap}
use Rattle.serde_json.specs.View.{view}
use Rattle.fm_script.proofs.Naming.{cut_of-parts}
use Rattle.fm_script.proofs.parse_script.cut_in.Goals as goal

pub returns-then-is_some : goal.returns-then-is_some
returns-then-is_some c =
    cut_of-parts _ (view c.args.cut.now) _ c.in_ok-range.range _ c.in_ok-name.ensures c.in_ok-range.ensures (c.if-is_some.ensures ∙ ap is_some c.place.ensures)

pub returns : goal.returns
returns c =
    cut_of-parts _ (view c.args.cut.now) _ c.in_ok-range.range _ c.in_ok-name.ensures c.in_ok-range.ensures (c.if-is_some.ensures ∙ ap is_some c.place.ensures)
