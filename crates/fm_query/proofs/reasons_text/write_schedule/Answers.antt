use Rattle.std.proofs.Common.{◌≡◌, ◌++◌, ◌∙◌, ap, subst, ℕ, List, OnOk, string_bytes}
use Rattle.fm_why.specs.declared.reasons.Remedy.{Remedy}
use Rattle.fm_query.specs.TextLines.{text_of_lines}
use Rattle.fm_query.specs.ReasonsText.{reason_cost_line, price_line, remedies_text, remedy_text}
use Rattle.fm_query.proofs.Joining.{three}
use Rattle.fm_query.proofs.reasons_text.write_schedule.Goals as goal

pub returns-clause-ok : goal.returns-clause-ok
returns-clause-ok c =
    let choices = c.args.choices.now in
    let before = string_bytes c.write_price.new.lines in
    let whole =
    ap (λ (es : List Remedy). before ++ text_of_lines remedy_text es) c.as_slice.ensures.value
    ∙ three (string_bytes c.args.lines.now) (reason_cost_line choices) (price_line choices) (remedies_text choices) (string_bytes c.write_cost.new.lines) before c.in_ok-write_cost.ensures.ok c.in_ok-write_price.ensures.ok in
    subst (λ (t : List ℕ). OnOk c.write_lines.result (string_bytes c.write_lines.new.lines ≡ t)) whole c.write_lines.ensures.ok
