use Rattle.std.proofs.Common.{arith, ap, ◌∙◌, sym}
use Rattle.fm_inbox.specs.declared.conservation.PortAccount.{PortAccount}
use Rattle.fm_inbox.proofs.Keeps.{grows, cuts}
use Rattle.fm_inbox.proofs.inbox.Inbox.with_ports.Goals as goal

pub another-requires-clause-rule : goal.another-requires-clause-rule
another-requires-clause-rule c =
    let v = c.loop-i.invariant.1 in
    let parts = ap (λ (u : PortAccount). u.parts) v in
    let whole = ap (λ (u : PortAccount). u.whole) v in
    grows _ _ (omega (arith, parts, c.loop-i.auto._i)) (whole ∙ sym parts)

pub another-other-requires-clause-rule : goal.another-other-requires-clause-rule
another-other-requires-clause-rule c = cuts _ _ (omega (arith, c.loop-i-2.invariant.1, c.loop-i-2-test.true))
