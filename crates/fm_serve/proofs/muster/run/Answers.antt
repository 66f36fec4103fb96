use Rattle.std.proofs.Common.{arith, map, ap, sym, subst, ◌∙◌}
use Rattle.fm_coord.specs.Numbers.{AreDistinct}
use Rattle.fm_world.specs.Represents.{state_of, number_of}
use Rattle.fm_world.specs.Listings.{IsWholeRun, IsWhole}
use Rattle.fm_gossip.specs.Served.{AreServed}
use Rattle.fm_gossip.specs.Members.{member_tasks}
use Rattle.fm_gossip.specs.Exchanges.{after_exchange}
use Rattle.fm_gossip.specs.AfterExchange.{KnowSame, AreCutBySenders}
use Rattle.fm_serve.specs.Musters.{members_of, calls_of}
use Rattle.fm_gossip.proofs.Columns.{written}
use Rattle.fm_serve.proofs.Numbers.{listed_before, listed_after}
use Rattle.fm_serve.proofs.muster.run.Goals as goal

pub law_exchanged-requires : goal.law_exchanged-requires
law_exchanged-requires g c =
    let listed = c.args.script.now.coordinators.items in
    let tells = c.args.script.now.tells.items in
    let closed = c.in-Ok.closed.items in
    let served = subst (λ ms. AreServed (member_tasks c.args.rounds ms) (map state_of closed)) (c.in_ok-members.ensures ∙ (λ i. members_of (c.deref.ensures.value i) (c.deref-2.ensures.value i))) c.in-Ok.ensures.ok in
    subst AreDistinct (sym (ap (map number_of) c.deref-4.ensures.value ∙ listed_before c.args.rounds listed tells closed served)) c.requires

pub law_senders-requires : goal.law_senders-requires
law_senders-requires g c =
    let listed = c.args.script.now.coordinators.items in
    let tells = c.args.script.now.tells.items in
    let closed = c.in-Ok.closed.items in
    let served = subst (λ ms. AreServed (member_tasks c.args.rounds ms) (map state_of closed)) (c.in_ok-members.ensures ∙ (λ i. members_of (c.deref.ensures.value i) (c.deref-2.ensures.value i))) c.in-Ok.ensures.ok in
    let kept = written c.in-Ok.closed.len c.exchange.new.coordinators closed (omega (arith, c.exchange.auto.coordinators, c.deref_mut.ensures.len, c.in-Ok.closed.ok.0)) (omega (arith, c.in-Ok.closed.ok.0)) in
    let after = ap (map state_of) (c.deref-5.ensures.value ∙ kept) ∙ c.in_ok-exchange.ensures.ok ∙ ap (λ cs. after_exchange (map state_of cs)) c.deref_mut.ensures.value in
    subst AreDistinct (sym (listed_after c.args.rounds listed tells closed c.deref-5.result.now served after)) c.requires

pub gather-requires : goal.gather-requires
gather-requires g c =
    let listed = c.args.script.now.coordinators.items in
    let tells = c.args.script.now.tells.items in
    let closed = c.in-Ok.closed.items in
    let served = subst (λ ms. AreServed (member_tasks c.args.rounds ms) (map state_of closed)) (c.in_ok-members.ensures ∙ (λ i. members_of (c.deref.ensures.value i) (c.deref-2.ensures.value i))) c.in-Ok.ensures.ok in
    let kept = written c.in-Ok.closed.len c.exchange.new.coordinators closed (omega (arith, c.exchange.auto.coordinators, c.deref_mut.ensures.len, c.in-Ok.closed.ok.0)) (omega (arith, c.in-Ok.closed.ok.0)) in
    let after = ap (map state_of) (c.deref-6.ensures.value ∙ kept) ∙ c.in_ok-exchange.ensures.ok ∙ ap (λ cs. after_exchange (map state_of cs)) c.deref_mut.ensures.value in
    subst AreDistinct (sym (listed_after c.args.rounds listed tells closed c.deref-6.result.now served after)) c.requires

pub returns-in-Ok-gather-clause-ok : goal.returns-in-Ok-gather-clause-ok
returns-in-Ok-gather-clause-ok g c =
    let closed = c.in-Ok.closed.items in
    let kept = written c.in-Ok.closed.len c.exchange.new.coordinators closed (omega (arith, c.exchange.auto.coordinators, c.deref_mut.ensures.len, c.in-Ok.closed.ok.0)) (omega (arith, c.in-Ok.closed.ok.0)) in
    let after = c.in_ok-exchange.ensures.ok ∙ ap (λ cs. after_exchange (map state_of cs)) c.deref_mut.ensures.value in
    let steps = c.in-Ok-gather.steps in
    record {
      closed = map state_of closed;
      served = subst (λ ms. AreServed (member_tasks c.args.rounds ms) (map state_of closed)) (c.in_ok-members.ensures ∙ (λ i. members_of (c.deref.ensures.value i) (c.deref-2.ensures.value i))) c.in-Ok.ensures.ok;
      passed_on = c.in-Ok.ensures.passed;
      calls = c.in_ok-calls.ensures ∙ ap (λ cs. map calls_of (map state_of cs)) c.deref-3.ensures.value;
      steps = steps.items;
      gathered = subst (λ ss. IsWholeRun ss steps.items) (ap (map state_of) (c.deref-6.ensures.value ∙ kept) ∙ after) c.in-Ok-gather.ensures.whole;
      counted = omega (arith, c.len.ensures, steps.ok);
      cut_by_senders = subst AreCutBySenders (ap (map state_of) (c.deref-5.ensures.value ∙ kept) ∙ after)
          (c.law_senders.ensures c.in-Ok-gather.ensures.whole.made (subst (λ cs. IsWhole (map state_of cs) c.in-Ok-gather.ensures.whole.made) (c.deref-6.ensures.value ∙ sym c.deref-5.ensures.value) c.in-Ok-gather.ensures.whole.whole));
      know_same = subst (λ cs. KnowSame (after_exchange (map state_of cs))) c.deref-4.ensures.value c.law_exchanged.ensures;
    }
