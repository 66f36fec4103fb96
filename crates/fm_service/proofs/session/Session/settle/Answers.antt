use Rattle.std.proofs.Common.{sym, subst}
use Rattle.fm_world.specs.Represents.{AllStand}
use Rattle.fm_service.proofs.Sessions.{settled}
use Rattle.fm_service.proofs.session.Session.settle.Goals as goal

pub returns-then-is_due : goal.returns-then-is_due
returns-then-is_due c = λ k here.
    let due = c.is_due.ensures c.if-is_due.true k.world.replicas (subst (λ ss. AllStand ss k.world.replicas) (sym c.coordinators.ensures) here.stands.coordinators) in
    settled c.args.most c.renew.result c.args.self.now c.renew.new.self k c.renew.ensures.ok c.renew.ensures.unchanged here due
