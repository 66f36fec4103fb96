use Rattle.std.proofs.Common.{◌≡◌, ◌++◌, OnOk, string_bytes, subst}
use Rattle.fm_records.specs.Table.{Table}
use Rattle.fm_query.specs.SizeText.{known_size_text}
use Rattle.fm_query.proofs.size_text.write_by_tally.Goals as goal

pub returns-in-Some-clause-ok : goal.returns-in-Some-clause-ok
returns-in-Some-clause-ok g c =
    subst (λ (k : Table). OnOk c.write_tallied_size.result (string_bytes c.write_tallied_size.new.lines ≡ string_bytes c.args.lines.now ++ known_size_text k))
    c.knowledge.ensures c.write_tallied_size.ensures.ok

pub returns-in-None-clause-ok : goal.returns-in-None-clause-ok
returns-in-None-clause-ok g c =
    subst (λ (k : Table). OnOk c.write_known_size.result (string_bytes c.write_known_size.new.lines ≡ string_bytes c.args.lines.now ++ known_size_text k))
    c.knowledge-in-None.ensures c.write_known_size.ensures.ok
