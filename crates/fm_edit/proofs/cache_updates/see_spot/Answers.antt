use Rattle.fm_edit.proofs.Apart.{apart}
use Rattle.fm_edit.proofs.cache_updates.see_spot.Goals as goal

pub returns-in_ok-insert-in-Some-2-clause-others : goal.returns-in_ok-insert-in-Some-2-clause-others
returns-in_ok-insert-in-Some-2-clause-others g c = λ q e. c.in_ok-insert-in-Some-2.ensures.updates.2 q (apart q c.args.task e)

pub returns-in-None-2-clause-others : goal.returns-in-None-2-clause-others
returns-in-None-2-clause-others g c = λ q e. c.remove.ensures.updates.2 q (apart q c.args.task e)
