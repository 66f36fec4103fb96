use Rattle.std.proofs.Common.{◌≡◌, ◌∙◌, ◌+◌, ◌*◌, ℕ, ap, arith}
use Rattle.std.specs.List.{sum_by}
use Rattle.std.proofs.lemmas.List.Sums.{sum_by-cons}
use Rattle.fm_certificate.specs.Flows.{units_in, cost_of}
use Rattle.fm_certificate.proofs.Exchange.{Arc}
use Rattle.fm_certificate.proofs.Priced.{cost_bound}
use Rattle.fm_certificate.proofs.cost.cost.Goals as goal

pub overflow_add-sum : goal.overflow_add-sum
overflow_add-sum c =
    let price : Arc → ℕ = λ a. a.1.1 * units_in c.args.flow.now a.0.0 a.0.1 in
    let bound = cost_bound c.args.network.now (units_in c.args.flow.now) c.known.ensures c.requires.built c.requires.feasible in
    let arc : Arc = c.in-Some.arc.now in
    let so_far : c.loop-arc.sum + sum_by price c.loop-arc.arc-iterator ≡ cost_of c.args.network.now (units_in c.args.flow.now) = c.loop-arc.invariant.2 in
    let split : sum_by price c.loop-arc.arc-iterator ≡ price arc + sum_by price c.next.new.self = ap (sum_by price) c.in-Some.ensures.steps ∙ sum_by-cons price arc c.next.new.self in
    omega (arith, c.price-sum.ensures, c.arc_entries-arc-items.ensures.fits)
