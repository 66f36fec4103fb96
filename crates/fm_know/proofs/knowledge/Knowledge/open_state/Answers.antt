use Rattle.std.proofs.Common.{◌≡◌, Some, sym, ◌∙◌, ap, subst}
use Rattle.std.specs.Option.{IfSome}
use Rattle.std.specs.Ordering.{nat_cmp}
use Rattle.fm_lattice.specs.Maps.{lookup}
use Rattle.fm_records.specs.Ranges.{CanBe}
use Rattle.fm_records.specs.Table.{Table}
use Rattle.fm_records.specs.Facts.{open_state}
use Rattle.fm_know.specs.Limits.{StateWithin}
use Rattle.fm_know.proofs.Found.{state_found}
use Rattle.fm_know.proofs.Limits.{open_limits}
use Rattle.fm_know.proofs.knowledge.Knowledge.open_state.Goals as goal

pub returns-in-Some-clause-within : goal.returns-in-Some-clause-within
returns-in-Some-clause-within c =
    let found : lookup nat_cmp c.args.machine c.args.self.now.machines ≡ Some c.in-Some.record.now = ap (λ (k : Table). lookup nat_cmp c.args.machine k.machines) (sym c.self.view_is) ∙ sym c.in-Some.ensures in
    let is : c.state_in.result ≡ open_state c.args.self.now c.args.machine = c.state_in.ensures ∙ state_found c.args.self.now c.args.machine c.in-Some.record.now found in
    subst (λ o. IfSome o StateWithin) (sym is) (open_limits c.args.self.now (subst CanBe c.self.view_is c.self.invariant) c.args.machine)
