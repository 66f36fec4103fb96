use Rattle.std.proofs.Common.{◌∙◌, Some, is_some, ap}
use Rattle.serde_json.specs.View.{view}
use Rattle.fm_script.specs.Requests.{Cuts}
use Rattle.fm_script.proofs.Naming.{cut_under-parts}
use Rattle.fm_script.proofs.parse_request.cut_under_in.Goals as goal

pub returns-then-is_some : goal.returns-then-is_some
returns-then-is_some c =
    cut_under-parts _ c.args.at c.args.range (view c.args.name.now) _ _ c.in-Some.ensures (c.if-is_some.ensures ∙ ap is_some c.place.ensures)

pub returns : goal.returns
returns c =
    ap (λ text. Some (Cuts c.args.at c.args.range (Some text))) c.in_ok-from_str.ensures.ok
    ∙ cut_under-parts _ c.args.at c.args.range (view c.args.name.now) _ _ c.in-Some.ensures (c.if-is_some.ensures ∙ ap is_some c.place.ensures)
