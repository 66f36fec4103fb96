use Rattle.std.proofs.Common.{◌≡◌, ◌++◌, List}
use Rattle.std.specs.Vec.Iter.{into_iter_items}
use Rattle.fm_records.specs.declared.ops.Op.{Op}
use Rattle.fm_delta.specs.declared.packet.Packet.{Packet}
use Rattle.fm_service.specs.StreamSteps.{Following, StandBehind}
use Rattle.fm_service.specs.Sessions.{SessionAt}
use Rattle.fm_service.specs.Storing.{AreRestorable, restored}
use Rattle.fm_service.proofs.storing.restore.Given as goal

abbrev pub invariant-loop-packet : goal.invariant-loop-packet
invariant-loop-packet l = record {
  before : List Packet;
  are : l.fn.packets.items ≡ before ++ into_iter_items l.packet-iterator;
  at : (behind : Packet → List Op) → StandBehind behind → (k : Following) → SessionAt l.fn.session k → AreRestorable behind k.world before × SessionAt l.session (restored behind k before);
}
