use Rattle.std.proofs.Common.{◌≡◌, ◌++◌, ◌∙◌, Some, Option, OnOk, string_bytes, ap, sym, subst}
use Rattle.fm_records.specs.declared.records.SpecReg.{SpecReg}
use Rattle.fm_query.specs.ListText.{spec_fields}
use Rattle.fm_query.proofs.list_text.write_spec.Goals as goal

pub returns-in-Some-clause-ok : goal.returns-in-Some-clause-ok
returns-in-Some-clause-ok c =
    subst (λ (o : Option SpecReg). OnOk c.write_known_spec.result (string_bytes c.write_known_spec.new.line ≡ string_bytes c.args.line.now ++ spec_fields o))
    (ap Some c.spec-in-Some.view_is ∙ sym c.in-Some.is ∙ c.spec.view_is) c.write_known_spec.ensures.ok
