use Rattle.std.proofs.Common.{◌∙◌, get_or, subst, sym, ap, add-one, inl, inr, rules}
use Rattle.std.proofs.lemmas.List.{take_all}
use Rattle.fm_records.specs.Sets.{IsMember}
use Rattle.fm_policy.specs.inner.NetworkSoFar.{CoversPlace}
use Rattle.fm_policy.proofs.Adds.{adds_then}
use Rattle.fm_policy.proofs.Covered.{place_still}
use Rattle.fm_policy.proofs.Members.{member_at, member_take}
use Rattle.fm_policy.proofs.put_arcs.put_requests.Goals as goal

pub put_request-requires-clause-waits : goal.put_request-requires-clause-waits
put_request-requires-clause-waits c =
    rw c.deref-request-items.ensures.value ((c.requires.inputs.requests _).0 (member_at c.args.inputs.now.requests.items c.loop-request.request-index (rw c.deref-request-items.ensures.value at c.loop-request-test.true)))

pub loop-request-preserved : goal.loop-request-preserved
loop-request-preserved c =
    let k = c.args.knowledge.now in
    let step = c.in_ok-put_request.ensures in
    record {
      adds = adds_then k _ _ _ c.loop-request.invariant.adds step.adds;
      covers = λ r member m has. elim (member_take r c.args.inputs.now.requests.items c.loop-request.request-index (rw c.deref-request-items.ensures.value at c.loop-request-test.true) (rw add-one at member)) [
        | inl before ↦ place_still k c.loop-request.network c.put_request.new.network step.adds.grows r m (c.loop-request.invariant.covers r before m) has
        | inr is ↦ subst (λ q. CoversPlace k q m c.put_request.new.network) (ap (λ xs. get_or xs c.loop-request.request-index 0) c.deref-request-items.ensures.value ∙ is) (step.covers m) has
      ];
    }

pub returns-clause-covers : goal.returns-clause-covers
returns-clause-covers c = λ r waits m has.
    let requests = c.args.inputs.now.requests.items in
    c.loop-request.invariant.covers r (subst (IsMember r) (sym (take_all c.loop-request.request-index requests (search rules))) ((c.requires.inputs.requests r).1 waits)) m has
