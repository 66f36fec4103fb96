use Rattle.fm_records.proofs.JoinedLaws.{table_laws}
use Rattle.fm_records.proofs.laws.law_tables.Goals as goal

pub returns : goal.returns
returns c = table_laws
