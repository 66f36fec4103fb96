use Rattle.fm_records.proofs.RangeLaws.{know_table, know_can_be}
use Rattle.fm_records.proofs.laws.law_can_be.Goals as goal

pub returns : goal.returns
returns c = record { form = know_table; ranges = know_can_be }
