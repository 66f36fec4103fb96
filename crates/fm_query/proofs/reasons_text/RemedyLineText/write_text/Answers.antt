use Rattle.std.proofs.Common.{◌≡◌, ◌++◌, ◌∙◌, ap, subst, codes, ℕ, List, OnOk, string_bytes}
use Rattle.fm_records.specs.Ids.{id_text}
use Rattle.fm_query.specs.ReasonsText.{change_text, remedy_place_text, remedy_end}
use Rattle.fm_query.proofs.Joining.{four}
use Rattle.fm_query.proofs.reasons_text.RemedyLineText.write_text.Goals as goal

pub returns-clause-ok : goal.returns-clause-ok
returns-clause-ok c =
    let e = c.args.self.now in
    let old = string_bytes c.args.lines.now in
    let told = string_bytes c.write_change.new.lines in
    let named = c.in_ok-write.ensures.bytes ∙ ap (λ name. told ++ (codes " on machine " ++ name)) c.in_ok-machine.ensures.ok in
    let whole =
    four old (change_text e.change) (codes " on machine ") (id_text e.machine) (remedy_place_text e) (remedy_end e) told (string_bytes c.write.new.self) (string_bytes c.write_place.new.lines)
    c.in_ok-write_change.ensures.ok named c.in_ok-write_place.ensures.ok in
    subst (λ (t : List ℕ). OnOk c.write_remedy_end.result (string_bytes c.write_remedy_end.new.lines ≡ t)) whole c.write_remedy_end.ensures.ok
