use Rattle.std.proofs.Common.{◌≡◌, ◌++◌, ◌∙◌, List, ℕ, ap, sym, subst, codes, append_assoc, string_bytes, OnOk}
use Rattle.std.specs.Prelude.{if◌then◌else◌, slice_get}
use Rattle.fm_records.specs.Ids.{id_text}
use Rattle.fm_query.specs.ReasonsText.{running_text, waiting_text}
use Rattle.fm_query.proofs.reasons_text.write_answer.Goals as goal

pub returns-clause-ok : goal.returns-clause-ok
returns-clause-ok c =
    let old = string_bytes c.args.lines.now in
    let choices = c.args.choices.now in
    let name = id_text c.args.task in
    let told = c.in_ok-write.ensures.bytes ∙ ap (λ t. old ++ (codes "task " ++ t)) c.in_ok-name.ensures.ok in
    let whole = ap (λ t. t ++ running_text choices) told ∙ append_assoc old (codes "task " ++ name) (running_text choices)
    ∙ ap (λ b. old ++ (codes "task " ++ (name ++ (if b then waiting_text choices (slice_get choices.machines.items 0) else running_text choices)))) (sym c.if-choices.false) in
    subst (λ (t : List ℕ). OnOk c.write_running.result (string_bytes c.write_running.new.lines ≡ t)) whole c.write_running.ensures.ok
