use Rattle.std.proofs.Common.{◌∙◌, sym}
use Rattle.fm_policy.proofs.Parts.{task_to_holder}
use Rattle.fm_policy.proofs.Tallied.{its_holder}
use Rattle.fm_policy.proofs.put_arcs.put_holder.Goals as goal

pub put-requires-clause-arc : goal.put-requires-clause-arc
put-requires-clause-arc c = sym (task_to_holder c.args.knowledge.now c.args.task c.in-Some.machine (its_holder c.args.knowledge.now c.args.task c.args.live.now c.requires.live ∙ c.in-Some.is))
