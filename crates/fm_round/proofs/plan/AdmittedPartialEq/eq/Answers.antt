use Rattle.std.proofs.Common.{◌≡◌, subst, sym, rules}
use Rattle.std.specs.Bool.{Decides}
use Rattle.fm_round.specs.PlanEquality.{same_admitted}
use Rattle.fm_round.specs.laws.PlanEqualityLaws.{admitted_Decides}
use Rattle.fm_round.proofs.plan.AdmittedPartialEq.eq.Goals as goal

pub returns-then-eq-clause-exact : goal.returns-then-eq-clause-exact
returns-then-eq-clause-exact c =
    let value : c.eq-then-eq.result ≡ same_admitted c.args.self.now c.args.other.now = search rules in
    subst (λ b. Decides b (c.args.self.now ≡ c.args.other.now)) (sym value) (admitted_Decides c.args.self.now c.args.other.now)

pub returns-else-eq-clause-exact : goal.returns-else-eq-clause-exact
returns-else-eq-clause-exact c =
    let value : c.eq.result ≡ same_admitted c.args.self.now c.args.other.now = search rules in
    subst (λ b. Decides b (c.args.self.now ≡ c.args.other.now)) (sym value) (admitted_Decides c.args.self.now c.args.other.now)
