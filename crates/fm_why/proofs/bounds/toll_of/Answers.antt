use Rattle.std.proofs.Common.{◌≡◌, Some, arith, rules}
use Rattle.fm_why.specs.MachineOptions.{cost_at}
use Rattle.fm_why.proofs.Gaps.{over_sent}
use Rattle.fm_why.proofs.bounds.toll_of.Goals as goal

pub returns-clause-dearer : goal.returns-clause-dearer
returns-clause-dearer c = λ others feasible sends.
    let net = c.args.network.now in
    let schedule = c.args.schedule.now in
    let there : Some c.in_ok-cost.cost ≡ cost_at net c.args.from.now c.args.to.now = search rules in
    let more = over_sent net schedule.flow schedule.potentials others c.known.ensures c.requires.certified feasible c.args.from.now c.args.to.now c.in_ok-cost.cost c.gap-more.result sends there c.gap-more.ensures.gap in
    omega (arith, c.requires.cost, more)
