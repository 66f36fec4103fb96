use Rattle.std.proofs.Common.{◌∙◌, is_some, ap, sym}
use Rattle.serde_json.specs.View.{view}
use Rattle.fm_script.proofs.Faults.{cut_form-parts}
use Rattle.fm_script.proofs.find_fault.cut_form.Goals as goal

pub returns-then-is_some : goal.returns-then-is_some
returns-then-is_some c =
    cut_form-parts _ (view c.args.cut.now) _ _ c.in-Some.ensures (sym c.if-is_none.ensures ∙ ap is_some c.range_in.ensures) (c.if-is_some.ensures ∙ ap is_some c.place.ensures)

pub returns : goal.returns
returns c =
    cut_form-parts _ (view c.args.cut.now) _ _ c.in-Some.ensures (sym c.if-is_none.ensures ∙ ap is_some c.range_in.ensures) (c.if-is_some.ensures ∙ ap is_some c.place.ensures)
