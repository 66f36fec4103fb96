use Rattle.std.proofs.Common.{◌≤◌, get_or, subst, sym, add-one, inl, inr, rules}
use Rattle.std.proofs.lemmas.List.{take_all}
use Rattle.fm_records.specs.Sets.{IsMember}
use Rattle.fm_net.proofs.BoundLaws.{spec_ranges}
use Rattle.fm_net.specs.declared.node.Node.TheVariants.{Request}
use Rattle.fm_policy.specs.inner.NetworkSoFar.{Stands}
use Rattle.fm_policy.proofs.Adds.{adds_then, adds_node, stands_now}
use Rattle.fm_policy.proofs.Counted.{request_of_live}
use Rattle.fm_policy.proofs.Members.{member_at, member_take}
use Rattle.fm_policy.proofs.nodes.put_requests.Goals as goal

pub put_node-requires : goal.put_node-requires
put_node-requires c =
    let k = c.args.knowledge.now in
    let r = get_or c.args.inputs.now.requests.items c.loop-request.request-index 0 in
    let node = (c.requires.inputs.requests r).0 (member_at c.args.inputs.now.requests.items c.loop-request.request-index (rw c.deref-request-items.ensures.value at c.loop-request-test.true)) in
    let live = request_of_live k r node in
    rw c.deref-request-items.ensures.value (subst (λ n. n ≤ 1000000) live.3 (spec_ranges k c.law_can_be.ensures live.0 live.1 live.2).request)

pub loop-request-preserved : goal.loop-request-preserved
loop-request-preserved c =
    let k = c.args.knowledge.now in
    let r = get_or c.args.inputs.now.requests.items c.loop-request.request-index 0 in
    let node = (c.requires.inputs.requests r).0 (member_at c.args.inputs.now.requests.items c.loop-request.request-index (rw c.deref-request-items.ensures.value at c.loop-request-test.true)) in
    let step = adds_node k c.loop-request.network c.put_node.new.self (Request r) node (rw c.deref-request-items.ensures.value at c.in_ok-put_node.ensures.has) c.in_ok-put_node.ensures.arc in
    record {
      adds = adds_then k _ _ _ c.loop-request.invariant.adds step;
      all = λ q member. elim (member_take q c.args.inputs.now.requests.items c.loop-request.request-index (rw c.deref-request-items.ensures.value at c.loop-request-test.true) (rw add-one at member)) [
        | inl before ↦ step.grows.nodes (Request q) (c.loop-request.invariant.all q before)
        | inr same ↦ subst (λ z. Stands c.put_node.new.self (Request z)) same (stands_now c.loop-request.network c.put_node.new.self (Request r) (rw c.deref-request-items.ensures.value at c.in_ok-put_node.ensures.has))
      ];
    }

pub returns-clause-all : goal.returns-clause-all
returns-clause-all c = λ r waits.
    let requests = c.args.inputs.now.requests.items in
    c.loop-request.invariant.all r (subst (IsMember r) (sym (take_all c.loop-request.request-index requests (search rules))) ((c.requires.inputs.requests r).1 waits))
