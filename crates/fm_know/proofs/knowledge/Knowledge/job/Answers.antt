use Rattle.std.proofs.Common.{◌≡◌, Some, sym, subst, rules}
use Rattle.std.specs.Option.{IfSome}
use Rattle.fm_records.specs.Ranges.{CanBe}
use Rattle.fm_records.specs.Facts.{job_of}
use Rattle.fm_know.specs.Limits.{JobWithin}
use Rattle.fm_know.proofs.Limits.{job_limits}
use Rattle.fm_know.proofs.knowledge.Knowledge.job.Goals as goal

pub returns-in-Some-clause-within : goal.returns-in-Some-clause-within
returns-in-Some-clause-within c =
    let is : Some c.register.inside.0 ≡ job_of c.args.self.now c.args.job = search rules in
    subst (λ o. IfSome o JobWithin) (sym is) (job_limits c.args.self.now (subst CanBe c.self.view_is c.self.invariant) c.args.job)
