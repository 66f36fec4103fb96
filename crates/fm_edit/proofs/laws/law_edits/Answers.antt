use Rattle.fm_edit.proofs.Made.{only_made}
use Rattle.fm_edit.proofs.laws.law_edits.Goals as goal

pub returns : goal.returns
returns c = only_made
