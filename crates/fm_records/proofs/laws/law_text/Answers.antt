use Rattle.fm_records.proofs.IdLaws.{text_read}
use Rattle.fm_records.proofs.laws.law_text.Goals as goal

pub returns : goal.returns
returns c = text_read c.args.number c.ranges.number.fits
