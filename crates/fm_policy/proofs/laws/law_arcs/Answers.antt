use Rattle.std.proofs.Common.{◌≡◌, ◌∙◌, ◌<◌, ◌^◌, length, ap, subst, rules}
use Rattle.fm_net.proofs.BoundLaws.{net_can_be}
use Rattle.fm_net.proofs.NetworkLaws.{ends_of, is_network_of}
use Rattle.fm_policy.proofs.laws.law_arcs.Goals as goal

pub returns : goal.returns
returns c = λ a b arc is.
    let k = c.args.knowledge.now in
    let count : c.len-count.result ≡ length k.tasks = c.len-count.ensures ∙ ap length c.tasks.ensures in
    let fits : c.len-count.result < 2 ^ 64 = search rules in
    let few : length k.tasks < 2 ^ 64 = subst (λ n. n < 2 ^ 64) count fits in
    let ends = ends_of k a b arc is in
    let bounds = (net_can_be k c.law_can_be.ensures few).are_arcs a b arc ((is_network_of k).each_arc a b ∙ is) in
    record { from = ends.from; to = ends.to; kinds = ends.kinds; capacity = bounds.capacity_above; cost = bounds.cost_within }
