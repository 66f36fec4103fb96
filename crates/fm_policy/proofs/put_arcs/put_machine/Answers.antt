use Rattle.std.proofs.Common.{◌∙◌, Some, ap, sym}
use Rattle.std.specs.Prelude.{is_some}
use Rattle.fm_policy.proofs.Parts.{machine_to_sink}
use Rattle.fm_policy.proofs.Tallied.{open_of}
use Rattle.fm_policy.proofs.put_arcs.put_machine.Goals as goal

pub put-requires-clause-arc : goal.put-requires-clause-arc
put-requires-clause-arc c =
    let k = c.args.knowledge.now in
    let its = open_of k c.args.machine c.args.opened.now c.requires.opened in
    ap (λ n. Some (n, 0)) c.from.ensures ∙ sym (machine_to_sink k c.args.machine its.state its.is ∙ ap (λ n. Some (n, 0)) its.slots)

pub returns-clause-covers : goal.returns-clause-covers
returns-clause-covers c = λ _.
    let k = c.args.knowledge.now in
    let its = open_of k c.args.machine c.args.opened.now c.requires.opened in
    c.in_ok-put.ensures.covers (ap is_some (machine_to_sink k c.args.machine its.state its.is))
