use Rattle.std.proofs.Common.{◌≡◌, Some, sym, ◌∙◌, ap, subst}
use Rattle.std.specs.Option.{IfSome}
use Rattle.std.specs.Ordering.{nat_cmp}
use Rattle.fm_lattice.specs.Maps.{lookup}
use Rattle.fm_records.specs.Ranges.{CanBe}
use Rattle.fm_records.specs.Table.{Table}
use Rattle.fm_records.specs.Facts.{live_spec}
use Rattle.fm_know.specs.Limits.{SpecWithin}
use Rattle.fm_know.proofs.Found.{live_found}
use Rattle.fm_know.proofs.Limits.{live_limits}
use Rattle.fm_know.proofs.knowledge.Knowledge.live_spec.Goals as goal

pub returns-in-Some-clause-record : goal.returns-in-Some-clause-record
returns-in-Some-clause-record c =
    let found : lookup nat_cmp c.args.task c.args.self.now.tasks ≡ Some c.in-Some.record.now = ap (λ (k : Table). lookup nat_cmp c.args.task k.tasks) (sym c.self.view_is) ∙ sym c.in-Some.ensures in
    c.live_in.ensures ∙ live_found c.args.self.now c.args.task c.in-Some.record.now found

pub returns-in-Some-clause-within : goal.returns-in-Some-clause-within
returns-in-Some-clause-within c =
    let is : c.live_in.result ≡ live_spec c.args.self.now c.args.task = returns-in-Some-clause-record c in
    subst (λ o. IfSome o SpecWithin) (sym is) (live_limits c.args.self.now (subst CanBe c.self.view_is c.self.invariant) c.args.task)
