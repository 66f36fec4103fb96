use Rattle.std.proofs.Common.{◌++◌, ◌∙◌, ap₂, codes, length, string_bytes}
use Rattle.std.specs.Prelude.{decimal}
use Rattle.fm_query.proofs.reasons_text.write_example_head.Goals as goal

pub returns-clause-ok : goal.returns-clause-ok
returns-clause-ok c =
    let example = c.args.example.now in
    c.in_ok-write.ensures.bytes
    ∙ ap₂ (λ name moves. string_bytes c.args.lines.now ++ (codes "a schedule that runs it on machine " ++ (name ++ (codes " costs " ++ (decimal example.cost ++ (codes "; tasks that go elsewhere in it: " ++ (decimal (length moves) ++ codes "\n")))))))
    c.in_ok-machine.ensures.ok c.as_slice.ensures.value
