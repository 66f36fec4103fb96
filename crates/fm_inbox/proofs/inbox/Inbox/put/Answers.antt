use Rattle.std.proofs.Common.{OnErr, arith, sym, subst, ap}
use Rattle.fm_inbox.specs.Ports.{InboxModel, AloneHas}
use Rattle.fm_inbox.proofs.Keeps.{pushes, learns}
use Rattle.fm_inbox.proofs.Rest.{alone}
use Rattle.fm_inbox.proofs.inbox.Inbox.put.Goals.{in-Ok, in-Err}
use Rattle.fm_inbox.proofs.inbox.Inbox.put.Goals as goal

pub push_as-requires-clause-rule : goal.push_as-requires-clause-rule
push_as-requires-clause-rule g c = (pushes _ _ _ _ (omega (arith, c.port.invariant.1)), learns _ _ (omega (arith, c.port.invariant.1)))

pub returns-clause-full : goal.returns-clause-full
returns-clause-full g c = elim c.match-push_as.branch [
  | in-Ok w ↦ subst (λ r. OnErr r (AloneHas c.args.self.now.size c.args.port.now)) (sym w.result-is) tt
  | in-Err w ↦
      let held = w.in-Err.ensures.rule.2 in
      subst (λ r. OnErr r (AloneHas c.args.self.now.size c.args.port.now)) (sym w.result-is) (alone _ _ _ _ _ held.0 c.port.view_is (ap (λ (b : InboxModel). b.size) c.self.view_is) held.1 c.port.invariant.1 held.2)
]
