use Rattle.std.proofs.Common.{◌≡◌, ◌++◌, ◌∙◌, ◌==◌, ap, sym, codes, false, rules, string_bytes}
use Rattle.std.specs.Prelude.{if◌then◌else◌}
use Rattle.fm_records.specs.Ids.{id_text}
use Rattle.fm_query.proofs.reasons_text.write_place.Goals as goal

pub returns-in_ok-write-clause-ok : goal.returns-in_ok-write-clause-ok
returns-in_ok-write-clause-ok c =
    let e = c.args.remedy.now in
    let old = string_bytes c.args.lines.now in
    let apart : (e.place == e.machine) ≡ false = search rules in
    c.in_ok-write.ensures.bytes
    ∙ ap (λ name. old ++ (codes " it would run on machine " ++ name)) c.in_ok-place.ensures.ok
    ∙ ap (λ b. old ++ (if b then codes " it would run there" else (codes " it would run on machine " ++ id_text e.place))) (sym apart)
