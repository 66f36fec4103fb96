use Rattle.fm_coord.specs.declared.entry.Call.TheVariants as call
use Rattle.fm_coord.specs.States.{bounds}
use Rattle.fm_fleet.proofs.May.{may_refuse}
use Rattle.fm_fleet.proofs.node.Node.see.Goals as goal

pub returns-in-Err-clause-cause : goal.returns-in-Err-clause-cause
returns-in-Err-clause-cause g c = may_refuse (bounds c.deref_mut.result.now.coordinator.state) call.View _ c.in-Err.ensures.cause
