-- What the responder to the lines of a stream that has a store does at a commit.
use Rattle.std.specs.Prelude.{◌≡◌, ◌⊎◌, ◌++◌, List, [], map, Option, Some, None, option_map, string_bytes}
use Rattle.fm_delta.specs.declared.packet.Packet.{Packet}
use Rattle.fm_coord.specs.Replays.{seen_packet}
use Rattle.fm_store.specs.Heads.{HeadModel}
use Rattle.fm_service.specs.StreamSteps.{Following}
use Rattle.fm_service.specs.Sessions.{IsIn}
use Rattle.fm_service.specs.Storing.{unstored_in, full_packets_of, all_stored}
use Rattle.fm_durable.specs.declared.durable_service.DurableService.{DurableService}
use Rattle.fm_durable.specs.DurableSteps.{store_head}
use Rattle.fm_durable.specs.DurableServices.{DeviceModel, HoldsStore, HoldsFront}

module _ {T : Type 0} (model : T → DeviceModel) where
  -- the packets are added to what the store has
  abbrev pub AddsPackets : List Packet → T → T → Type 0
  AddsPackets packets old new = (head : HeadModel) (ps : List Packet) → HoldsStore (model old) head ps → HoldsStore (model new) head (ps ++ packets)

  -- all that the coordinators know is put in the place of what it has
  abbrev pub PutsFull : DurableService T → T → Type 0
  PutsFull old new = (k : Following) → IsIn old.service.session (Some k) → HoldsStore (model new) (store_head (string_bytes old.label) (Some k)) (map seen_packet (full_packets_of k))

  -- the packets are in the store now, or all that the coordinators know; all is marked as stored
  pub record StoresSo (packets : List Packet) (old new : DurableService T) : Type 0 where
    pub label : new.label ≡ old.label
    pub most : new.service.renew_after ≡ old.service.renew_after
    pub fault : new.fault ≡ old.fault
    pub marked : (k : Option Following) → IsIn old.service.session k → IsIn new.service.session (option_map all_stored k)
    pub changes : AddsPackets packets old.device new.device ⊎ PutsFull old new.device

  -- what was not stored is in the store now, on the disk
  pub record CommitsSo (old new : DurableService T) : Type 0 where
    pub could : old.fault ≡ None
    pub packets : List Packet
    pub are : (k : Option Following) → IsIn old.service.session k → packets ≡ map seen_packet (unstored_in k)
    pub none : packets ≡ [] → model new.device ≡ model old.device
    pub stores : StoresSo packets old new

  -- the store cannot be used; what it had is still there
  pub record FailsSo (old new : DurableService T) : Type 0 where
    pub fault : new.fault ≡ None → ⊥
    pub holds : (head : HeadModel) (ps : List Packet) → HoldsStore (model old.device) head ps → HoldsFront (model new.device) head ps
    pub unlisted : IsIn old.service.session None → model new.device ≡ model old.device
    pub broken : (old.fault ≡ None → ⊥) → model new.device ≡ model old.device
