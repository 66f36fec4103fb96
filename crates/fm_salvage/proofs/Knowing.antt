-- What coordinators knew, from packet to packet.
use Rattle.std.proofs.Common.{◌≡◌, ℕ, ◌-◌, List, [], ◌∷◌, ◌++◌, length, map, refl, Option}
use Rattle.fm_delta.specs.declared.packet.Packet.{Packet}
use Rattle.fm_store.specs.Heads.{HeadModel}
use Rattle.fm_store.specs.KnownPackets.{HasTaken, unknown}
use Rattle.fm_store.specs.laws.NoneTaken.{none_taken}
use Rattle.fm_store.specs.declared.frames.Tail.{Tail}
use Rattle.fm_store.specs.declared.known.Known.{Known}
use Rattle.fm_salvage.specs.StoreFronts.{IsEnd, damage_of}
use Rattle.fm_salvage.specs.inner.FrameReading.{AreRead, HasHead, HasPacket}
use Rattle.fm_salvage.specs.RecoveryText.{IsFrontRecovered, AreKnownLines}
use Rattle.fm_salvage.specs.inner.Joining.{AreJoined}
use Rattle.fm_salvage.proofs.Fronting.{none_read, one_read, front_of}

-- ---- packet by packet

pub record SoFar (bytes rest : List ℕ) (old known : List Known) : Type 0 where
  pub records : List (List ℕ)
  pub packets : List Packet
  pub read : AreRead records packets rest bytes
  pub known_is : HasTaken old packets known

pub none_known : (bytes : List ℕ) (old : List Known) → SoFar bytes bytes old old
none_known bytes old = record { records = []; packets = []; read = none_read bytes; known_is = none_taken old }

pub one_known : (bytes rest after : List ℕ) (old known new : List Known) (p : Packet) (size : ℕ) (so_far : SoFar bytes rest old known) → HasPacket p size after rest → HasTaken old (so_far.packets ++ p ∷ []) new → SoFar bytes after old new
one_known bytes rest after old known new p size so_far h taken = record {
  records = so_far.records ++ h.read ∷ [];
  packets = so_far.packets ++ p ∷ [];
  read = one_read so_far.records so_far.packets rest bytes after p size so_far.read h;
  known_is = taken;
}

pub all_known : (total : ℕ) (bytes rest : List ℕ) (old known : List Known) (tail : Tail) (damage : Option ℕ) → SoFar bytes rest old known → IsEnd rest tail → damage ≡ damage_of tail (total - length rest) → AreJoined total bytes old known damage
all_known total bytes rest old known tail damage so_far ends told = record {
  records = so_far.records;
  packets = so_far.packets;
  rest = rest;
  tail = tail;
  read = so_far.read;
  ends = ends;
  known_is = so_far.known_is;
  damage_is = told;
}

pub front_known : (head : HeadModel) (bytes behind text : List ℕ) (known : List Known) (damage : Option ℕ) → HasHead head behind bytes
    → (joined : AreJoined (length bytes) behind (map unknown head.numbers) known damage) → AreKnownLines head.numbers joined.packets text → IsFrontRecovered bytes text damage
front_known head bytes behind text known damage has joined lines =
    let place : ℕ = length bytes - length joined.rest in
    record {
      head = head;
      records = joined.records;
      packets = joined.packets;
      place = place;
      tail = joined.tail;
      front = front_of head bytes behind joined.rest joined.records joined.packets place joined.tail has joined.read joined.ends refl;
      lines = lines;
      damage_is = joined.damage_is;
    }
