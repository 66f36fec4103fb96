use Rattle.std.proofs.Common.{◌≡◌, ◌∙◌, Some, ap, sym, subst}
use Rattle.fm_net.specs.declared.node.Node.TheVariants.{Request, Task}
use Rattle.fm_net.specs.Network.{arc_of}
use Rattle.fm_tally.specs.declared.tally.LiveTask.{LiveTask}
use Rattle.fm_policy.proofs.Adds.{adds_then}
use Rattle.fm_policy.proofs.Parts.{task_to_request}
use Rattle.fm_policy.proofs.Tallied.{live_of, its_holder}
use Rattle.fm_policy.proofs.put_arcs.put_waiting.Goals as goal

pub put-requires-clause-arc : goal.put-requires-clause-arc
put-requires-clause-arc c =
    let k = c.args.knowledge.now in
    let t = c.args.task in
    let live = c.args.live.now in
    let its = live_of k t live c.requires.live in
    let request = ap (λ (l : LiveTask). l.request) its.same in
    sym (subst (λ r. arc_of k (Task t) (Request r) ≡ Some (1, 0)) request (task_to_request k t its.spec its.is (its_holder k t live c.requires.live ∙ c.requires.waits)))

pub put_preferences-requires-clause-waits : goal.put_preferences-requires-clause-waits
put_preferences-requires-clause-waits c = its_holder c.args.knowledge.now c.args.task c.args.live.now c.requires.live ∙ c.requires.waits

pub returns-clause-adds : goal.returns-clause-adds
returns-clause-adds c = adds_then c.args.knowledge.now _ _ _ c.in_ok-put.ensures.adds c.in_ok-put_preferences.ensures.adds
