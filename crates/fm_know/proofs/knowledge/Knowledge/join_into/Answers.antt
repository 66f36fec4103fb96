use Rattle.fm_know.proofs.Grown.{united}
use Rattle.fm_know.proofs.knowledge.Knowledge.join_into.Goals as goal

pub returns-clause-union : goal.returns-clause-union
returns-clause-union c S T left right = united c.take_in.result c.take_in.new.self _ _ S T c.take_in.ensures.ok left right
