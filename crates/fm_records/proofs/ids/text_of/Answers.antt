use Rattle.std.proofs.Common.{◌≡◌, ◌∙◌, refl}
use Rattle.fm_records.specs.Ids.{id_text}
use Rattle.fm_records.proofs.ids.text_of.Goals as goal

-- the text that is made is that of the number
pub returns-clause-ok : goal.returns-clause-ok
returns-clause-ok c =
    let text : c.encode_lower-text.result.now ≡ id_text c.args.number =
    rw (c.encode_lower-text.ensures.text, c.hyphenated.ensures, c.from_u128-id.ensures) refl in
    c.in_ok-from_str.ensures.ok ∙ text
