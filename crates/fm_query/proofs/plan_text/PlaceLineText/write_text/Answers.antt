use Rattle.std.proofs.Common.{◌≡◌, string_bytes, ◌∷◌, ◌++◌, ap, ◌∙◌}
use Rattle.std.specs.Fmt.{decimal}
use Rattle.uuid.specs.Text.{hyphenated_text, lower}
use Rattle.fm_records.specs.Ids.{id_text}
use Rattle.fm_query.proofs.plan_text.PlaceLineText.write_text.Goals as goal

pub returns-clause-ok : goal.returns-clause-ok
returns-clause-ok c =
    let task : hyphenated_text lower c.hyphenated-task.result ≡ id_text c.args.self.now.task = c.hyphenated-task.ensures ∙ ap id_text c.value.ensures in
    let machine : hyphenated_text lower c.hyphenated-machine.result ≡ id_text c.args.self.now.machine = c.hyphenated-machine.ensures ∙ ap id_text c.value-2.ensures in
    c.in_ok-write.ensures.bytes
    ∙ (λ i. string_bytes c.args.lines.now ++ 112 ∷ 108 ∷ 97 ∷ 99 ∷ 101 ∷ 32 ∷ (task i ++ 32 ∷ (machine i ++ 32 ∷ decimal c.args.self.now.incarnation)))
