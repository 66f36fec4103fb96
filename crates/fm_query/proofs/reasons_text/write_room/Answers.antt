use Rattle.std.proofs.Common.{◌++◌, ◌∙◌, ap, codes, length, string_bytes}
use Rattle.std.specs.Prelude.{decimal}
use Rattle.fm_query.proofs.reasons_text.write_room.Goals as goal

pub returns-clause-ok : goal.returns-clause-ok
returns-clause-ok c =
    let choices = c.args.choices.now in
    c.in_ok-write.ensures.bytes
    ∙ ap (λ machines. string_bytes c.args.lines.now ++ (codes "room for its request of " ++ (decimal choices.request ++ (codes " on "
    ++ (decimal (length machines) ++ (codes " of " ++ (decimal choices.known ++ codes " machines that are known\n"))))))) c.as_slice.ensures.value
