use Rattle.std.proofs.Common.{◌≡◌, Some, sym, ◌∙◌, ap}
use Rattle.std.specs.Ordering.{nat_cmp}
use Rattle.fm_lattice.specs.Maps.{lookup}
use Rattle.fm_records.specs.Table.{Table}
use Rattle.fm_know.proofs.Found.{holder_found}
use Rattle.fm_know.proofs.knowledge.Knowledge.holder.Goals as goal

pub returns-in-Some : goal.returns-in-Some
returns-in-Some c =
    let found : lookup nat_cmp c.args.task c.args.self.now.tasks ≡ Some c.in-Some.record.now = ap (λ (k : Table). lookup nat_cmp c.args.task k.tasks) (sym c.self.view_is) ∙ sym c.in-Some.ensures in
    c.holder_in.ensures ∙ holder_found c.args.self.now c.args.task c.in-Some.record.now found
