use Rattle.std.proofs.Common.{◌≡◌, ◌∙◌, ◌<◌, ◌^◌, length, sym, ap, subst, arith}
use Rattle.std.specs.Ordering.{nat_cmp}
use Rattle.fm_lattice.specs.Maps.{IsRising}
use Rattle.fm_net.proofs.BoundLaws.{net_can_be}
use Rattle.fm_round.specs.Schedules.{IsPlanOf}
use Rattle.fm_paths.specs.Moves.{plan_of_moves}
use Rattle.fm_planner.specs.inner.Claims.{offer_of}
use Rattle.fm_planner.specs.inner.Counts.{AreCounts}
use Rattle.fm_planner.proofs.Shown.{price_of, are_moves, fit_moves, are_fair, go_in_turn}
use Rattle.fm_planner.proofs.planner.plan_by.Goals as goal

pub returns : goal.returns
returns c =
    let k = c.args.knowledge.now in
    let tally = c.args.tally.now in
    let claim = c.args.claim.now in
    let counts = c.in_ok-counts.counts in
    let same = c.pairs-moves.ensures.pairs in
    let rises = subst (IsRising nat_cmp) same c.pairs-moves.ensures.rising in
    let counted = subst (λ xs. AreCounts k xs counts) same c.in_ok-counts.ensures in
    let tested = c.in_ok-passes.ensures c.if-not-branch.false in
    let can = c.law_can_be.ensures in
    let size : c.len-few.result ≡ length k.tasks = c.len-few.ensures ∙ ap length c.tasks.ensures in
    let few : length k.tasks < 2 ^ 64 = omega (arith, size) in
    let net = net_can_be k can few in
    let moves = are_moves k tally claim counts c.requires counted can rises tested in
    let fit = fit_moves k tally claim counts c.requires counted can rises tested in
    let fair = are_fair k tally claim counts c.requires counted can rises tested in
    let turns = go_in_turn k tally claim counts c.requires counted can rises tested in
    let plan = c.law_moves.ensures.plan k claim.moves (price_of k claim) (offer_of claim) can net moves fit fair turns in
    subst (IsPlanOf k) (sym (c.in_ok-plan.ensures ∙ ap (plan_of_moves k) same)) plan
