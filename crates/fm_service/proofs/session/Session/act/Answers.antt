use Rattle.std.proofs.Common.{sym, subst}
use Rattle.fm_script.specs.declared.script.ScriptAct.{ScriptAct}
use Rattle.fm_script.specs.Requests.{Does}
use Rattle.fm_service.specs.inner.SessionSteps.{Goes}
use Rattle.fm_service.proofs.session.Session.act.Goals as goal

pub returns-in-Cut-clause-ok : goal.returns-in-Cut-clause-ok
returns-in-Cut-clause-ok c =
    subst (λ (a : ScriptAct). Goes c.cut.result c.args.self.now c.cut.new.self (Does (record { at = c.args.step.at; act = a }))) (sym c.in-Cut.is) c.cut.ensures.ok

pub returns-in-Round-clause-ok : goal.returns-in-Round-clause-ok
returns-in-Round-clause-ok c =
    subst (λ (a : ScriptAct). Goes c.round.result c.args.self.now c.round.new.self (Does (record { at = c.args.step.at; act = a }))) (sym c.in-Round.is) c.round.ensures.ok
