-- What is read of the bytes of a file, frame by frame.
use Rattle.std.specs.Prelude.{◌≡◌, ◌<◌, ◌^◌, ℕ, List, ◌++◌, length, IsTrue}
use Rattle.std.specs.List.{list_all}
use Rattle.fm_records.specs.Ids.{is_coordinator}
use Rattle.fm_delta.specs.declared.packet.Packet.{Packet}
use Rattle.fm_wire.specs.Grammar.{IsPacket, Spells}
use Rattle.fm_store.specs.Frames.{frame, frames}
use Rattle.fm_store.specs.Tails.{AreRecords}
use Rattle.fm_store.specs.Heads.{HeadModel, IsHead, head_record}
use Rattle.fm_store.specs.Stores.{SpellEach, magic}

-- the bytes begin with the record of the packet, which has so many bytes; behind its frame there are those
pub record HasPacket (p : Packet) (size : ℕ) (after bytes : List ℕ) : Type 0 where
  pub read : List ℕ
  pub fits : length read < 2 ^ 64
  pub are : bytes ≡ frame read ++ after
  pub size_is : size ≡ length read
  pub packet : IsPacket p
  pub spells : Spells read p

-- the bytes begin as those of a store of this head; behind its record there are those
pub record HasHead (head : HeadModel) (rest bytes : List ℕ) : Type 0 where
  pub valid : IsHead head × IsTrue (list_all is_coordinator head.numbers)
  pub fits : length (head_record head) < 2 ^ 64
  pub are : bytes ≡ magic ++ (frame (head_record head) ++ rest)

-- the bytes are the frames of the records, which are those of the packets, and then the rest
pub record AreRead (records : List (List ℕ)) (packets : List Packet) (rest bytes : List ℕ) : Type 0 where
  pub fit : AreRecords records
  pub are : bytes ≡ frames records ++ rest
  pub packets_are : SpellEach records packets
