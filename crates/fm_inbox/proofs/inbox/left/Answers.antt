use Rattle.std.proofs.Common.{◌∷◌, [], arith, ap, ◌∙◌, length-append}
use Rattle.fm_inbox.specs.declared.conservation.PortAccount.{PortAccount}
use Rattle.fm_inbox.specs.Conservation.{weigh}
use Rattle.fm_inbox.specs.Ports.{account_of}
use Rattle.fm_inbox.proofs.Keeps.{pops, learns, weigh-append}
use Rattle.fm_inbox.proofs.Rest.{weigh-none, counted}
use Rattle.fm_inbox.proofs.inbox.left.Goals as goal

pub len_as-count-requires-clause-rule : goal.len_as-count-requires-clause-rule
len_as-count-requires-clause-rule g c = learns _ _ c.requires.whole.0

pub loop-i-init : goal.loop-i-init
loop-i-init g c =
    let e = c.len_as-count.ensures in
    let same = e.queue.1 in
    let all = counted (account_of c.args.pass) e.rule.1.0 e.rule.1.2 c.requires.whole.1 in (
      (e.queue.0.0 ∙ c.requires.pass.0, e.queue.0.2 ∙ c.requires.pass.1),
      rw same c.requires.whole.0,
      rw same c.requires.whole.1,
      c.requires.room.0,
      omega (arith, e.rule.0, c.requires.room.2),
      ap (λ (v : PortAccount). v.put) same,
      (λ h. rw same (omega (arith, ap (weigh h) c.requires.room.1))),
      rw same (omega (arith, all, e.rule.1.1)),
    )

pub pop_as-requires-clause-rule : goal.pop_as-requires-clause-rule
pop_as-requires-clause-rule g c = (pops _ _ c.loop-i.invariant.1, learns _ _ c.loop-i.invariant.1)

pub unreachable-requires : goal.unreachable-requires
unreachable-requires g c =
    let e = c.in-None.ensures.rule.1 in
    let all = counted (account_of c.loop-i.pass) e.0 e.2 c.loop-i.invariant.2 in
    omega (arith, all, e.1, c.loop-i.invariant.7, c.loop-i-test.true)

pub loop-i-preserved : goal.loop-i-preserved
loop-i-preserved g c =
    let inv = c.loop-i.invariant in
    let q = c.in-Some.ensures.queue in
    let w = c.in-Some.ensures.rule in
    let x = c.in-Some.packet in (
      (q.0 ∙ inv.0.0, q.2 ∙ inv.0.1),
      rw w inv.1,
      rw w inv.2,
      omega (arith, c.push_reserved.ensures.len, inv.3),
      omega (arith, c.push_reserved.ensures.capacity, inv.4),
      ap (λ (v : PortAccount). v.put) w ∙ inv.5,
      (λ h. rw (w, c.push_reserved.ensures.items) (omega (arith, inv.6 h, weigh-append h (account_of c.loop-i.pass).taken (x ∷ []), weigh-append h c.loop-i.room.items (x ∷ [])))),
      rw w (omega (arith, inv.7, length-append (account_of c.loop-i.pass).taken (x ∷ []))),
    )

pub learn_as-requires-clause-rule : goal.learn_as-requires-clause-rule
learn_as-requires-clause-rule g c = learns _ _ c.loop-i.invariant.1

pub returns : goal.returns
returns g c = λ h.
    let inv = c.loop-i.invariant in
    let e = c.learn_as.ensures.rule in
    let all = counted (account_of c.loop-i.pass) e.0 e.1 inv.2 in
    let none = weigh-none h e.0 (omega (arith, all, inv.7, c.loop-i-test.false, c.loop-i.auto._i-end)) in
    omega (arith, e.1 h inv.2, none, inv.6 h, ap (weigh h) inv.5)
