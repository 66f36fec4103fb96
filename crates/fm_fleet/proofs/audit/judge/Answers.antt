use Rattle.std.proofs.Common.{true≢false, sym, subst}
use Rattle.fm_fleet.specs.Audits.{IsListed}
use Rattle.fm_fleet.proofs.audit.judge.Goals as goal

pub returns-in-Some-first_strange-clause-exact : goal.returns-in-Some-first_strange-clause-exact
returns-in-Some-first_strange-clause-exact c =
    let w = c.in-Some-first_strange.ensures in (
      λ h. absurd (true≢false (sym h)),
      λ a. absurd (w.4 (subst (λ b. IsListed c.args.logs.now b) w.3 (a.all_listed w.0 w.1 w.2))),
    )
