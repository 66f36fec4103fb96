use Rattle.std.proofs.Common.{◌≡◌, ◌++◌, ◌∙◌, Some, Option, OnOk, string_bytes, ap, sym, subst}
use Rattle.fm_records.specs.declared.records.SpecReg.{SpecReg}
use Rattle.fm_query.specs.Unpacked.{spec_line}
use Rattle.fm_query.proofs.unpack.write_known_spec.Goals as goal

pub returns-in-Some-clause-ok : goal.returns-in-Some-clause-ok
returns-in-Some-clause-ok c =
    subst (λ (o : Option SpecReg). OnOk c.write_spec.result (string_bytes c.write_spec.new.lines ≡ string_bytes c.args.lines.now ++ spec_line c.args.task o))
    (ap Some c.spec-in-Some.view_is ∙ sym c.in-Some.is ∙ c.spec.view_is) c.write_spec.ensures.ok
