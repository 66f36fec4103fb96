use Rattle.std.proofs.Common.{sym}
use Rattle.fm_query.proofs.solution_text.solution_text.Goals as goal

pub returns-then-is_fresh-clause-ok : goal.returns-then-is_fresh-clause-ok
returns-then-is_fresh-clause-ok g c = rw (sym c.knowledge-knowledge.ensures) c.solved.ensures.ok

pub returns-clause-ok : goal.returns-clause-ok
returns-clause-ok g c = rw (sym c.knowledge-knowledge.ensures) c.solved-2.ensures.ok
