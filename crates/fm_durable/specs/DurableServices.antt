-- The responder to the lines of a stream that has a store: what it does at a line and at a commit.
use Rattle.std.specs.Prelude.{◌≡◌, ◌≤◌, ◌<◌, ◌++◌, ℕ, Bool, true, List, length, All, Option, Some, None, IfSome, string_bytes}
use Rattle.fm_records.specs.declared.ops.Op.{Op}
use Rattle.fm_records.specs.Ranges.{CanBe}
use Rattle.fm_records.specs.Sets.{IsMember}
use Rattle.fm_delta.specs.declared.packet.Packet.{Packet}
use Rattle.fm_store.specs.Heads.{HeadModel}
use Rattle.fm_store.specs.Stores.{IsStoreOf, HasStoreOf, AreFoundIn, recovered}
use Rattle.fm_service.specs.declared.stream_service.StreamService.{StreamService}
use Rattle.fm_service.specs.StreamSteps.{Following, StandBehind}
use Rattle.fm_service.specs.Sessions.{IsIn, AnswersSo}
use Rattle.fm_service.specs.Storing.{numbers_listed, Restores}
use Rattle.fm_durable.specs.declared.durable_service.DurableService.{DurableService}
use Rattle.fm_store.specs.KnownPackets.{known_packets}
use Rattle.fm_durable.specs.DurableSteps.{store_head}

-- a device: the bytes that it holds, if they are known, how many of them are on the disk, and whether a sync brings the others there
pub record DeviceModel : Type 0 where
  pub content : Option (List ℕ)
  pub synced : ℕ
  pub sound : Bool

abbrev pub model_of : {T : Type 0} → (T → Option (List ℕ)) → (T → ℕ) → (T → Bool) → T → DeviceModel
model_of content synced sound device = record { content = content device; synced = synced device; sound = sound device }

-- it holds a store of this head with these packets, all of it is on the disk, and a sync brings there what is added
abbrev pub HoldsStore : DeviceModel → HeadModel → List Packet → Type 0
HoldsStore device head packets = IfSome device.content (λ all. IsStoreOf head packets all × (device.synced ≡ length all) × (device.sound ≡ true))

-- the bytes begin with a store of this head with these packets, all of which is on the disk; whatever is behind it, these packets are found,
-- and maybe more
pub record HasStoreFront (head : HeadModel) (packets : List Packet) (synced : ℕ) (all : List ℕ) : Type 0 where
  pub front : List ℕ
  pub more : List ℕ
  pub is : all ≡ front ++ more
  pub store : IsStoreOf head packets front
  pub on_disk : length front ≤ synced
  pub added : List Packet
  pub len : ℕ
  pub found : HasStoreOf head (packets ++ added) len all

abbrev pub HoldsFront : DeviceModel → HeadModel → List Packet → Type 0
HoldsFront device head packets = IfSome device.content (HasStoreFront head packets device.synced)

-- these packets are found in the bytes, and maybe more
abbrev pub HasStoreWith : HeadModel → List Packet → List ℕ → Type 0
HasStoreWith head packets all = (added : List Packet) × (len : ℕ) × HasStoreOf head (packets ++ added) len all

-- each of these coordinators, whose number is a byte, would know the same by either packets
abbrev pub AreKnownAlike : List ℕ → List Packet → List Packet → Type 0
AreKnownAlike numbers ps qs = (n : ℕ) → n < 256 → IsMember n numbers → recovered n ps ≡ recovered n qs

-- packets are found in the bytes by which each coordinator of the head would know what it would by these, and maybe more
pub record HasStoreAlike (head : HeadModel) (packets : List Packet) (all : List ℕ) : Type 0 where
  pub found : List Packet
  pub added : List Packet
  pub len : ℕ
  pub has : HasStoreOf head found len all
  pub alike : AreKnownAlike head.numbers found (packets ++ added)

-- whatever each coordinator of a store would know by what it held, it would know by what it holds, and maybe more
abbrev pub KeepsKnown : DeviceModel → DeviceModel → Type 0
KeepsKnown old new = (head : HeadModel) (packets : List Packet) (len : ℕ) → IfSome old.content (HasStoreOf head packets len) → IfSome new.content (HasStoreAlike head packets)

-- whatever packets were found in what it held, they are found in what it holds, and maybe more
abbrev pub KeepsStores : DeviceModel → DeviceModel → Type 0
KeepsStores old new = (head : HeadModel) (packets : List Packet) (len : ℕ) → IfSome old.content (HasStoreOf head packets len) → IfSome new.content (HasStoreWith head packets)

-- the coordinators of k, which were just listed, begin with what the store on the device has
pub record Reopens (label : List ℕ) (old : DeviceModel) (k : Following) (listed : StreamService) (new_device : DeviceModel) (new : StreamService) : Type 0 where
  pub packets : List Packet
  pub found : IfSome old.content (AreFoundIn (store_head label (Some k)) packets)
  pub holds : HoldsStore new_device (store_head label (Some k)) packets
  pub can_be : All (λ p. CanBe p.value) packets
  pub most : new.renew_after ≡ listed.renew_after
  pub restores : (behind : Packet → List Op) → StandBehind behind
      → (j : Following) × Restores behind k (known_packets (numbers_listed (Some k)) packets) j × IsIn new.session (Some j)

-- a line that led there: if it listed the coordinators, their store is opened; else nothing is done to the store
abbrev pub ActsOnStore : List ℕ → DeviceModel → Option Following → Option Following → StreamService → DeviceModel → StreamService → Type 0
ActsOnStore label old None (Some k) mid new_device new = Reopens label old k mid new_device new
ActsOnStore label old was is mid new_device new = (new ≡ mid) × (new_device ≡ old)

module _ {T : Type 0} (model : T → DeviceModel) where
  -- a line is answered so
  pub record AnswersDurably (old : DurableService T) (line answer : List ℕ) (new : DurableService T) : Type 0 where
    pub label : new.label ≡ old.label
    pub mid : StreamService
    pub answered : AnswersSo old.service line answer mid
    pub keeps : KeepsStores (model old.device) (model new.device)
    -- a store that can be used now could be used before; once it is open, no line changes it
    pub could : new.fault ≡ None → old.fault ≡ None
    pub untouched : (k : Following) → IsIn old.service.session (Some k) → (new.service ≡ mid) × (model new.device ≡ model old.device)
    pub continues : new.fault ≡ None → (was is : Option Following) → IsIn old.service.session was → IsIn mid.session is
        → ActsOnStore (string_bytes old.label) (model old.device) was is mid (model new.device) new.service
