use Rattle.std.proofs.Common.{◌++◌, ◌∙◌, ◌-◌, List, ap, length, string_bytes}
use Rattle.std.specs.Prelude.{slice_get}
use Rattle.fm_why.specs.declared.reasons.TheConstants.{SHOWN}
use Rattle.fm_why.specs.declared.reasons.Choice.{Choice}
use Rattle.fm_query.specs.ReasonsText.{answer_line, machines_text, others_text, room_line, schedule_text, theory_line}
use Rattle.fm_query.proofs.Joining.{joined}
use Rattle.fm_query.proofs.reasons_text.choices_text.Goals as goal

pub returns-clause-ok : goal.returns-clause-ok
returns-clause-ok c =
    let choices = c.args.choices.now in
    let items = choices.machines.items in
    let answer = answer_line c.args.task choices in
    let others = c.in_ok-write_others.ensures.ok ∙ ap (λ (es : List Choice). string_bytes c.write_machines.new.lines ++ others_text (length es - SHOWN) (slice_get es SHOWN)) c.deref.ensures.value in
    joined answer (schedule_text choices) (machines_text choices) (others_text (length items - SHOWN) (slice_get items SHOWN)) (room_line choices) theory_line
    (string_bytes c.write_answer.new.lines) (string_bytes c.write_schedule.new.lines) (string_bytes c.write_machines.new.lines) (string_bytes c.write_others.new.lines) (string_bytes c.write_room.new.lines) (string_bytes c.write_theory.new.lines)
    (c.in_ok-write_answer.ensures.ok ∙ ap (λ x. x ++ answer) c.new-lines.ensures.bytes) c.in_ok-write_schedule.ensures.ok c.in_ok-write_machines.ensures.ok others c.in_ok-write_room.ensures.ok c.in_ok-write_theory.ensures.ok
