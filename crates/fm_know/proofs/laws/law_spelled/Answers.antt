use Rattle.std.proofs.Common.{sym}
use Rattle.fm_records.proofs.SpelledLaws.{know_ops}
use Rattle.fm_know.proofs.laws.law_spelled.Goals as goal

pub returns : goal.returns
returns c = sym (know_ops c.args.knowledge.now c.known.ensures.table)
