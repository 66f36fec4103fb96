use Rattle.std.proofs.Common.{arith, ap, ◌∙◌}
use Rattle.fm_inbox.specs.declared.conservation.PortAccount.{PortAccount}
use Rattle.fm_inbox.specs.Ports.{PortModel, account_of, IsPortOf, seen_inbox}
use Rattle.fm_inbox.specs.inner.PortWeights.{put_by, taken_weight}
use Rattle.crossbeam_queue.specs.Passes.{ruled_capacity}
use Rattle.fm_inbox.proofs.Keeps.{merges, weigh-append}
use Rattle.fm_inbox.proofs.Rest.{weigh-last, all-last}
use Rattle.fm_inbox.proofs.inbox.joined.Goals as goal

pub loop-port-init : goal.loop-port-init
loop-port-init c =
    let port = c.in-Some.port in
    let e = c.in-Some.ensures.items in
    let P : PortModel → Type 0 = IsPortOf (seen_inbox c.args.queue.now.table.shared.table_id c.args.whole (ruled_capacity c.args.queue.now)) in
    let a = all-last P _ _ port e c.requires.ports in
    let v = c.pass_of-pass.ensures.known in (
      (c.pass_of-pass.ensures.pass.0 ∙ a.1.0, c.pass_of-pass.ensures.pass.1),
      ap (λ (u : PortAccount). u.whole) v ∙ a.1.1,
      rw v (omega arith),
      rw v (omega (arith, c.in-Some.ensures.len, c.requires.some.1)),
      a.0,
      λ h. rw v (omega (arith, weigh-last (put_by h) _ _ port e), omega (arith, weigh-last (taken_weight h) _ _ port e)),
    )

pub absorb-requires-clause-rule : goal.absorb-requires-clause-rule
absorb-requires-clause-rule c = merges _ _ _ _ c.loop-port.invariant.2

pub loop-port-preserved : goal.loop-port-preserved
loop-port-preserved c =
    let inv = c.loop-port.invariant in
    let port = c.in-Some-pop.port in
    let e = c.in-Some-pop.ensures.items in
    let P : PortModel → Type 0 = IsPortOf (seen_inbox c.args.queue.now.table.shared.table_id c.args.whole (ruled_capacity c.args.queue.now)) in
    let a = all-last P _ _ port e inv.4 in
    let v = c.pass_of.ensures.known in
    let w = c.absorb.ensures.rule in
    let q = c.absorb.ensures.queue in (
      (q.0 ∙ inv.0.0, q.2 ∙ inv.0.1),
      rw w inv.1,
      rw w (omega (arith, inv.2)),
      rw (w, v) (omega (arith, c.in-Some-pop.ensures.len, inv.3)),
      a.0,
      λ h. rw (w, v) (omega (arith, weigh-last (put_by h) _ _ port e, (inv.5 h).0, weigh-append h (account_of c.loop-port.pass).put port.put), omega (arith, weigh-last (taken_weight h) _ _ port e, (inv.5 h).1, weigh-append h (account_of c.loop-port.pass).taken port.taken)),
    )
