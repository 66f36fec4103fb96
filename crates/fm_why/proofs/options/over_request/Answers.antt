use Rattle.std.proofs.Common.{◌≡◌, Some, arith}
use Rattle.fm_net.specs.declared.node.Node.TheVariants.{Request, Machine}
use Rattle.fm_why.specs.MachineOptions.{cost_at}
use Rattle.fm_why.proofs.Gaps.{over_both}
use Rattle.fm_why.proofs.options.over_request.Goals as goal

pub returns-clause-dearer : goal.returns-clause-dearer
returns-clause-dearer c = λ others feasible goes.
    let net = c.args.network.now in
    let schedule = c.args.schedule.now in
    let second = c.in_ok-second in
    let there : Some second.second.cost ≡ cost_at net (Request c.args.request) (Machine c.args.machine) = second.ensures.cost in
    let more = over_both net schedule.flow schedule.potentials others c.known.ensures c.requires.certified feasible c.args.task c.args.request c.args.machine second.second.cost c.more_over-first.result second.second.more goes c.more_over-first.ensures.gap there second.ensures.gap in
    omega (arith, c.requires.cost, more)
