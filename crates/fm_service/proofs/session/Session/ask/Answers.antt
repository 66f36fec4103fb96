use Rattle.std.proofs.Common.{sym, refl, ap, ◌∙◌, subst}
use Rattle.fm_query.specs.declared.query.Query.{Query}
use Rattle.fm_query.specs.Queries.{IsText, IsUnanswered}
use Rattle.fm_query.specs.declared.query.Query.TheVariants as query
use Rattle.fm_service.proofs.Results.{returned}
use Rattle.fm_service.proofs.Steps.{nobody_asked, numbered_so}
use Rattle.fm_service.proofs.Sessions.{stays}
use Rattle.fm_service.proofs.session.Session.ask.Goals as goal

pub returns-in_default-clause-err : goal.returns-in_default-clause-err
returns-in_default-clause-err c = λ k here. nobody_asked c.args.self.now.world k.world c.args.at here.stands c.in_default.ensures c.args.question

pub returns-in_err-text-clause-err : goal.returns-in_err-text-clause-err
returns-in_err-text-clause-err c = λ k here.
    let is = ap (λ n. query.About n c.args.question) (c.number.ensures ∙ numbered_so c.args.self.now.world.coordinators c.args.at _ (sym c.in-Some.ensures)) in
    returned c.from_residual.result c.from_residual.ensures.1
    (λ e same. subst (λ x. IsUnanswered (query.About c.args.at c.args.question) k.world x) (sym same)
    (subst (λ (q : Query). IsUnanswered q k.world c.in_err-text.field-0.0) is (c.in_err-text.ensures.err k.world here.stands)))

pub returns-clause-ok : goal.returns-clause-ok
returns-clause-ok c = λ behind stand k here.
    let is = ap (λ n. query.About n c.args.question) (c.number.ensures ∙ numbered_so c.args.self.now.world.coordinators c.args.at _ (sym c.in-Some.ensures)) in (
      k,
      (subst (λ (q : Query). IsText q k.world c.in_ok-text.field-0.text.items) is (c.in_ok-text.ensures.text k.world here.stands), refl),
      stays c.args.self.now c.ask.new.world k here c.in_ok-text.ensures.same,
    )
