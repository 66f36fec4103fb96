use Rattle.fm_edit.proofs.Apart.{apart}
use Rattle.fm_edit.proofs.cache_updates.see_task.Goals as goal

pub returns-in_ok-insert-in-Some-clause-others : goal.returns-in_ok-insert-in-Some-clause-others
returns-in_ok-insert-in-Some-clause-others g c = λ q e. c.in_ok-insert-in-Some.ensures.updates.2 q (apart q c.args.task e)

pub returns-in-None-clause-others : goal.returns-in-None-clause-others
returns-in-None-clause-others g c = λ q e. c.remove.ensures.updates.2 q (apart q c.args.task e)
