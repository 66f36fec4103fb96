use Rattle.std.proofs.Common.{◌≡◌}
use Rattle.fm_service.specs.StreamSteps.{Following}
use Rattle.fm_service.specs.Sessions.{SessionAt}
use Rattle.fm_service.specs.inner.Extents.{packet_by}
use Rattle.fm_service.proofs.Unstored.{packets_of_first}
use Rattle.fm_service.proofs.storing.packets_of.Given as goal

abbrev pub invariant-loop-coordinator : goal.invariant-loop-coordinator
invariant-loop-coordinator l = (k : Following) → SessionAt l.session k → l.packets.items ≡ packets_of_first (packet_by l.extent k) l.coordinator-items l.coordinator-index
