use Rattle.std.proofs.Common.{OnErr, refl, arith, sym, subst}
use Rattle.fm_inbox.specs.Ports.{AloneHas}
use Rattle.fm_inbox.proofs.Keeps.{pops, learns}
use Rattle.fm_inbox.proofs.Rest.{alone}
use Rattle.fm_inbox.proofs.inbox.Inbox.take.Goals.{in-Some, in-None}
use Rattle.fm_inbox.proofs.inbox.Inbox.take.Goals as goal

pub pop_as-requires-clause-rule : goal.pop_as-requires-clause-rule
pop_as-requires-clause-rule g c = (pops _ _ (omega (arith, c.port.invariant.1)), learns _ _ (omega (arith, c.port.invariant.1)))

pub returns-clause-empty : goal.returns-clause-empty
returns-clause-empty g c = elim c.match-pop_as.branch [
  | in-Some w ↦ subst (λ r. OnErr r (AloneHas 0 c.args.port.now)) (sym w.result-is) tt
  | in-None w ↦
      let held = w.in-None.ensures.rule.1 in
      subst (λ r. OnErr r (AloneHas 0 c.args.port.now)) (sym w.result-is) (alone _ _ _ _ _ held.0 c.port.view_is refl held.1 c.port.invariant.1 held.2)
]
