use Rattle.std.proofs.Common.{◌≡◌, take}
use Rattle.fm_durable.specs.DurableServices.{model_of}
use Rattle.fm_durable.proofs.Appending.{Grows, HoldsMore}
use Rattle.fm_durable.proofs.durable_service.append_all.Given as goal

abbrev pub invariant-loop-packet : goal.invariant-loop-packet
invariant-loop-packet g l = record {
  more : HoldsMore (model_of g.D.Device.content g.D.Device.synced g.D.Device.sound l.fn.device) (model_of g.D.Device.content g.D.Device.synced g.D.Device.sound l.device);
  sound : g.D.Device.sound l.device ≡ g.D.Device.sound l.fn.device;
  grows : Grows (g.D.Device.content l.fn.device) (g.D.Device.content l.device) (take l.packet-index l.packets);
}
