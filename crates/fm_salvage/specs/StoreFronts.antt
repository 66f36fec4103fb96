-- How far the bytes of a file are those of a store, whoever's it is (this project's profile).
use Rattle.std.specs.Prelude.{◌≡◌, ◌⊎◌, ◌<◌, ◌^◌, ℕ, List, ◌∷◌, ◌++◌, length, IsTrue, Option, Some, None}
use Rattle.std.specs.List.{list_all}
use Rattle.fm_records.specs.Ids.{is_coordinator}
use Rattle.fm_delta.specs.declared.packet.Packet.{Packet}
use Rattle.fm_wire.specs.Grammar.{fault}
use Rattle.fm_store.specs.Frames.{frame, frames}
use Rattle.fm_store.specs.Tails.{AreRecords, IsTail}
use Rattle.fm_store.specs.Heads.{HeadModel, IsHead, IsHeadRecord, head_record}
use Rattle.fm_store.specs.Stores.{SpellEach, magic, IsHeadDamaged, IsNoStore, IsTornMagic}
use Rattle.fm_store.specs.declared.frames.Tail.{Tail}
use Rattle.fm_store.specs.declared.frames.Tail.TheVariants.{Clean, Torn, Damaged}

-- the bytes begin with a record that is no packet
abbrev pub HasNoPacket : List ℕ → Type 0
HasNoPacket bytes = (r : List ℕ) × (after : List ℕ) × (length r < 2 ^ 64) × (bytes ≡ frame r ++ after) × (fault r ≡ None → ⊥)

-- no further packet is read, for this reason
abbrev pub IsEnd : List ℕ → Tail → Type 0
IsEnd bytes Clean = IsTail bytes Clean
IsEnd bytes Torn = IsTail bytes Torn
IsEnd bytes Damaged = IsTail bytes Damaged ⊎ HasNoPacket bytes

-- the bytes begin as those of a store of this head with these packets, which are those of the records; behind them, at the place, they end so
pub record IsFront (head : HeadModel) (records : List (List ℕ)) (packets : List Packet) (place : ℕ) (tail : Tail) (bytes : List ℕ) : Type 0 where
  pub rest : List ℕ
  pub valid : IsHead head × IsTrue (list_all is_coordinator head.numbers)
  pub fit : AreRecords (head_record head ∷ records)
  pub are : bytes ≡ magic ++ (frames (head_record head ∷ records) ++ rest)
  pub packets_are : SpellEach records packets
  pub at : place ≡ length (magic ++ frames (head_record head ∷ records))
  pub ends : IsEnd rest tail

-- the first record is no head
abbrev pub IsNoHead : List ℕ → Type 0
IsNoHead bytes = (r : List ℕ) × (rest : List ℕ) × (length r < 2 ^ 64) × (bytes ≡ magic ++ (frame r ++ rest)) × ((head : HeadModel) → IsHeadRecord head r → ⊥)

-- the bytes have no head: it was not written whole, or they are no store, or it is damaged; the place is that of the head, or of the magic bytes
abbrev pub HasNoHead : Tail → ℕ → List ℕ → Type 0
HasNoHead Clean place bytes = ⊥
HasNoHead Torn place bytes =
    ((place ≡ 0) × IsTornMagic bytes)
    ⊎ ((place ≡ 8) × (rest : List ℕ) × (bytes ≡ magic ++ rest) × (IsTail rest Clean ⊎ IsTail rest Torn))
HasNoHead Damaged place bytes = ((place ≡ 0) × IsNoStore bytes) ⊎ ((place ≡ 8) × (IsHeadDamaged bytes ⊎ IsNoHead bytes))

-- where the bytes are damaged, if they are
abbrev pub damage_of : Tail → ℕ → Option ℕ
damage_of Clean place = None
damage_of Torn place = None
damage_of Damaged place = Some place
