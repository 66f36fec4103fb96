use Rattle.std.proofs.Common.{◌≡◌, sym, subst, rules}
use Rattle.std.specs.Option.{IfSome}
use Rattle.fm_records.specs.Ranges.{CanBe}
use Rattle.fm_records.specs.Facts.{spec_of}
use Rattle.fm_know.specs.Limits.{SpecWithin}
use Rattle.fm_know.proofs.Limits.{spec_limits}
use Rattle.fm_know.proofs.knowledge.Knowledge.spec.Goals as goal

pub returns-in-Some-clause-within : goal.returns-in-Some-clause-within
returns-in-Some-clause-within c =
    let is : c.spec_in.result ≡ spec_of c.args.self.now c.args.task = search rules in
    subst (λ o. IfSome o SpecWithin) (sym is) (spec_limits c.args.self.now (subst CanBe c.self.view_is c.self.invariant) c.args.task)
