-- What coordinators knew by the packets of a store's file, as packets in digits (this project's profile).
use Rattle.std.specs.Prelude.{◌≡◌, ◌⊎◌, ℕ, List, [], Option}
use Rattle.std.specs.List.{flat_map}
use Rattle.fm_delta.specs.declared.packet.Packet.{Packet}
use Rattle.fm_query.specs.QueryTexts.{line_of}
use Rattle.fm_store.specs.Heads.{HeadModel}
use Rattle.fm_store.specs.KnownPackets.{known_packets}
use Rattle.fm_store.specs.Pieces.{ArePiecesOfEach}
use Rattle.fm_store.specs.declared.frames.Tail.{Tail}
use Rattle.fm_salvage.specs.StoreFronts.{IsFront, HasNoHead, damage_of}

-- how many bytes a packet has at most whose digits a line of a stream can have
abbrev pub most_in_line : ℕ
most_in_line = 33554422

-- a packet of all that a coordinator knew, under number 0, for each that has packets, in the order of the head; each of these in pieces that
-- lines can have, and a line for each piece
abbrev pub AreKnownLines : List ℕ → List Packet → List ℕ → Type 0
AreKnownLines numbers packets text =
    (pieces : List Packet) × ArePiecesOfEach most_in_line (known_packets numbers packets) pieces × (text ≡ flat_map line_of pieces)

-- the text of a file with this front
pub record IsFrontRecovered (bytes text : List ℕ) (damage : Option ℕ) : Type 0 where
  pub head : HeadModel
  pub records : List (List ℕ)
  pub packets : List Packet
  pub place : ℕ
  pub tail : Tail
  pub front : IsFront head records packets place tail bytes
  pub lines : AreKnownLines head.numbers packets text
  pub damage_is : damage ≡ damage_of tail place

-- and of a file that has no head
abbrev pub IsNoneRecovered : List ℕ → List ℕ → Option ℕ → Type 0
IsNoneRecovered bytes text damage = (tail : Tail) × (place : ℕ) × HasNoHead tail place bytes × (text ≡ []) × (damage ≡ damage_of tail place)

-- the text has what stands before the end or the damage; and it is told where the damage is, if there is any
abbrev pub IsRecoveredText : List ℕ → List ℕ → Option ℕ → Type 0
IsRecoveredText bytes text damage = IsFrontRecovered bytes text damage ⊎ IsNoneRecovered bytes text damage
