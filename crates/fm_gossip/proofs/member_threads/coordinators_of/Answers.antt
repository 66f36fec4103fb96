use Rattle.std.proofs.Common.{◌≡◌, [], arith}
use Rattle.std.specs.Vec.Iter.{into_iter_items}
use Rattle.std.proofs.lemmas.List.{nil_from_length}
use Rattle.fm_gossip.proofs.Drained.{all_made}
use Rattle.fm_gossip.proofs.member_threads.coordinators_of.Goals as goal

pub returns : goal.returns
returns g c =
    let none : into_iter_items c.loop-done.done-iterator ≡ [] = nil_from_length _ (omega (arith, c.in-None.ensures.steps.0, c.loop-done.done-iterator.rest.ok.0)) in
    all_made _ (λ d. d.state) _ _ none c.loop-done.invariant.0
