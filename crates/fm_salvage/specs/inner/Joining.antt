-- What coordinators knew, packet by packet.
use Rattle.std.specs.Prelude.{◌≡◌, ℕ, ◌-◌, List, length, Option}
use Rattle.fm_delta.specs.declared.packet.Packet.{Packet}
use Rattle.fm_store.specs.KnownPackets.{HasTaken}
use Rattle.fm_store.specs.declared.frames.Tail.{Tail}
use Rattle.fm_store.specs.declared.known.Known.{Known}
use Rattle.fm_salvage.specs.StoreFronts.{IsEnd, damage_of}
use Rattle.fm_salvage.specs.inner.FrameReading.{AreRead}

-- the packets of frames that end a file of so many bytes were joined in
pub record AreJoined (total : ℕ) (bytes : List ℕ) (old new : List Known) (damage : Option ℕ) : Type 0 where
  pub records : List (List ℕ)
  pub packets : List Packet
  pub rest : List ℕ
  pub tail : Tail
  pub read : AreRead records packets rest bytes
  pub ends : IsEnd rest tail
  pub known_is : HasTaken old packets new
  pub damage_is : damage ≡ damage_of tail (total - length rest)
