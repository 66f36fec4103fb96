-- What is no text at all is no id's.
use Rattle.std.proofs.Common.{sym, subst}
use Rattle.std.specs.Str.{IsUtf8}
use Rattle.fm_dimacs.proofs.Uuids.{no_text_no_id}
use Rattle.fm_dimacs.proofs.tokens.id.Goals as goal

pub returns-in_default-clause-reads : goal.returns-in_default-clause-reads
returns-in_default-clause-reads c = no_text_no_id c.args.bytes.now (λ h. c.in_default.ensures.cases.0 (subst IsUtf8 (sym c.split_at.ensures.front) h))
