use Rattle.std.proofs.Common.{subst, arith}
use Rattle.fm_records.specs.Sets.{IsMember}
use Rattle.fm_relief.specs.Relief.{tasks_on}
use Rattle.fm_relief.proofs.Held.{apart, on_rises, sum_on}
use Rattle.fm_relief.proofs.Listing.{overfull_parts}
use Rattle.fm_relief.proofs.Least.{some_goes}
use Rattle.fm_relief.proofs.laws.law_some.Goals as goal

pub returns : goal.returns
returns c k m r table found =
    let parts = overfull_parts k m r found in
    let gone = some_goes (tasks_on k m) parts.0 (apart (tasks_on k m) (on_rises k m table.tasks.rising)) (omega (arith, parts.1, sum_on k m table.tasks.rising)) in
    (gone.0, subst (IsMember gone.0) parts.2 gone.1)
