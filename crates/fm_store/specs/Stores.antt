-- What the file of a store holds: the head, and the packets that were added, in their order (this project's profile).
use Rattle.std.specs.Prelude.{◌≡◌, ◌⊎◌, ◌==◌, ◌^◌, ◌<◌, ℕ, List, [], ◌∷◌, ◌++◌, length, map, filter, Option, None, IfSome, codes}
use Rattle.fm_records.specs.Table.{Table}
use Rattle.fm_delta.specs.declared.packet.Packet.{Packet}
use Rattle.fm_delta.specs.Deltas.{joined_all}
use Rattle.fm_wire.specs.Grammar.{IsPacket, Spells, fault}
use Rattle.fm_store.specs.Frames.{frame, frames}
use Rattle.fm_store.specs.Tails.{AreZeros, AreRecords, IsTail}
use Rattle.fm_store.specs.Heads.{HeadModel, head_record}
use Rattle.fm_store.specs.declared.frames.Tail.TheVariants.{Clean, Torn, Damaged}
use Rattle.fm_store.specs.declared.device.DeviceFault.TheVariants as device
use Rattle.fm_store.specs.declared.store_fault.StoreFault.{StoreFault}
use Rattle.fm_store.specs.declared.store_fault.StoreFault.TheVariants as faults

-- a store begins with these bytes
abbrev pub magic : List ℕ
magic = codes "FMSTORE1"

-- each record is the bytes of a packet, in one of the versions of the format of packets
abbrev pub SpellEach : List (List ℕ) → List Packet → Type 0
SpellEach [] [] = Unit {0}
SpellEach (r ∷ rs) (p ∷ ps) = IsPacket p × Spells r p × SpellEach rs ps
SpellEach [] (p ∷ ps) = ⊥
SpellEach (r ∷ rs) [] = ⊥

-- the bytes are those of a store of this head with these packets, and no others
pub record IsStoreOf (head : HeadModel) (packets : List Packet) (bytes : List ℕ) : Type 0 where
  pub records : List (List ℕ)
  pub fit : AreRecords (head_record head ∷ records)
  pub are : bytes ≡ magic ++ frames (head_record head ∷ records)
  pub packets_are : SpellEach records packets

-- the bytes begin as those of a store of this head with these packets, which are so many; behind them is nothing, or what is left of a
-- record that was not written whole
pub record HasStoreOf (head : HeadModel) (packets : List Packet) (whole : ℕ) (bytes : List ℕ) : Type 0 where
  pub records : List (List ℕ)
  pub rest : List ℕ
  pub fit : AreRecords (head_record head ∷ records)
  pub are : bytes ≡ magic ++ (frames (head_record head ∷ records) ++ rest)
  pub size : whole ≡ length (magic ++ frames (head_record head ∷ records))
  pub ends : IsTail rest Clean ⊎ IsTail rest Torn
  pub packets_are : SpellEach records packets

-- a front of the magic bytes, and zeros, if any
abbrev pub IsTornMagic : List ℕ → Type 0
IsTornMagic bytes = (front : List ℕ) × (more : List ℕ) × (zeros : List ℕ) × (magic ≡ front ++ more) × (bytes ≡ front ++ zeros) × AreZeros zeros

-- what is left of a store whose head was not written whole, so that nothing was added yet: a front of the magic bytes, or these and a front of
-- a frame, if any; and zeros, if any
abbrev pub IsUnfinished : List ℕ → Type 0
IsUnfinished bytes = IsTornMagic bytes ⊎ ((rest : List ℕ) × (bytes ≡ magic ++ rest) × (IsTail rest Clean ⊎ IsTail rest Torn))

-- the packets that are found in the bytes: none if these are no finished store, else those of the store
abbrev pub AreFoundIn : HeadModel → List Packet → List ℕ → Type 0
AreFoundIn head packets bytes = ((packets ≡ []) × IsUnfinished bytes) ⊎ ((whole : ℕ) × HasStoreOf head packets whole bytes)

-- a store was opened: these packets were found in the old content, and the new one is a store of them, all of which is on the disk
pub record IsOpened (head : HeadModel) (packets : List Packet) (old new : Option (List ℕ)) (synced : ℕ) : Type 0 where
  pub found : IfSome old (AreFoundIn head packets)
  pub left : IfSome new (IsStoreOf head packets)
  pub on_disk : IfSome new (λ all. synced ≡ length all)

-- the same, with how many bytes the store has
abbrev pub IsRecovery : HeadModel → List Packet → ℕ → List ℕ → Type 0
IsRecovery head packets whole bytes = ((whole ≡ 0) × (packets ≡ []) × IsUnfinished bytes) ⊎ HasStoreOf head packets whole bytes

-- the store has another head
abbrev pub HasOtherHead : HeadModel → List ℕ → Type 0
HasOtherHead head bytes = (other : List ℕ) × (rest : List ℕ) × (length other < 2 ^ 64) × (bytes ≡ magic ++ (frame other ++ rest)) × (other ≡ head_record head → ⊥)

-- the bytes do not begin as a store
abbrev pub IsNoStore : List ℕ → Type 0
IsNoStore bytes = (IsTornMagic bytes → ⊥) × ((rest : List ℕ) → bytes ≡ magic ++ rest → ⊥)

-- the head is damaged
abbrev pub IsHeadDamaged : List ℕ → Type 0
IsHeadDamaged bytes = (rest : List ℕ) × (bytes ≡ magic ++ rest) × IsTail rest Damaged

-- behind so many bytes of the store there are bytes that are no record, or a record that is no packet
pub record IsDamagedBehind (head : HeadModel) (place : ℕ) (bytes : List ℕ) : Type 0 where
  pub records : List (List ℕ)
  pub rest : List ℕ
  pub fit : AreRecords (head_record head ∷ records)
  pub are : bytes ≡ magic ++ (frames (head_record head ∷ records) ++ rest)
  pub at : place ≡ length (magic ++ frames (head_record head ∷ records))
  pub cause : IsTail rest Damaged ⊎ ((r : List ℕ) × (after : List ℕ) × (length r < 2 ^ 64) × (rest ≡ frame r ++ after) × (fault r ≡ None → ⊥))

-- the bytes are no store from the place on, which is 0 if they do not begin as one, and 8 if the head is damaged
abbrev pub IsDamagedAt : HeadModel → ℕ → List ℕ → Type 0
IsDamagedAt head place bytes = ((place ≡ 0) × IsNoStore bytes) ⊎ (((place ≡ 8) × IsHeadDamaged bytes) ⊎ IsDamagedBehind head place bytes)

-- the store that the old content has, if any, is in the new content too: at most a part of a torn end is gone
abbrev pub KeepsStore : HeadModel → Option (List ℕ) → Option (List ℕ) → Type 0
KeepsStore head old new = IfSome old (λ all. (packets : List Packet) (whole : ℕ) → HasStoreOf head packets whole all → IfSome new (λ left. HasStoreOf head packets whole left))

-- what an error says of the bytes that were read
abbrev pub IsCauseOf : HeadModel → StoreFault → List ℕ → Type 0
IsCauseOf head faults.OutOfMemory bytes = Unit {0}
IsCauseOf head (faults.Device d) bytes = ⊥
IsCauseOf head (faults.Damaged place) bytes = IsDamagedAt head place bytes
IsCauseOf head faults.OtherCluster bytes = HasOtherHead head bytes

-- the values of a coordinator's packets, and their join
abbrev pub values_of : ℕ → List Packet → List Table
values_of number packets = map (λ p. p.value) (filter (λ p. p.sender == number) packets)

abbrev pub recovered : ℕ → List Packet → Table
recovered number packets = joined_all (values_of number packets)

-- the number by which the program tells a fault: that of memory, of damage, or of a store that cannot be used; 19 and 20 are free
abbrev pub fault_number : StoreFault → ℕ
fault_number faults.OutOfMemory = 1
fault_number (faults.Device device.OutOfMemory) = 1
fault_number (faults.Device device.Failed) = 22
fault_number (faults.Device device.Locked) = 22
fault_number (faults.Device device.Replaced) = 22
fault_number (faults.Device device.Unsupported) = 22
fault_number (faults.Damaged place) = 21
fault_number faults.OtherCluster = 22
