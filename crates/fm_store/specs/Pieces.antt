-- Packets in pieces, each of which has few bytes (this project's profile).
use Rattle.std.specs.Prelude.{◌≡◌, ℕ, ◌≤◌, List, [], ◌∷◌, ◌++◌, map}
use Rattle.std.specs.List.{AllByRecursion}
use Rattle.fm_records.specs.Ranges.{CanBe}
use Rattle.fm_delta.specs.declared.packet.Packet.{Packet}
use Rattle.fm_delta.specs.Deltas.{joined_all}
use Rattle.fm_wire.specs.Grammar.{packet_size}

-- a piece of a packet: it has the packet's sender and number, says what can be, and has at most so many bytes
pub record IsPiece (most : ℕ) (p piece : Packet) : Type 0 where
  pub sender : piece.sender ≡ p.sender
  pub number : piece.number ≡ p.number
  pub can_be : CanBe piece.value
  pub fits : packet_size piece ≤ most

-- the pieces of a packet: what they say together is what the packet says, and a packet with so few bytes is its only piece
pub record ArePieces (most : ℕ) (p : Packet) (pieces : List Packet) : Type 0 where
  pub each : AllByRecursion (IsPiece most p) pieces
  pub together : joined_all (map (λ piece. piece.value) pieces) ≡ p.value
  pub whole : packet_size p ≤ most → pieces ≡ p ∷ []

-- the pieces of each of the packets, in the order of these
abbrev pub ArePiecesOfEach : ℕ → List Packet → List Packet → Type 0
ArePiecesOfEach most [] pieces = pieces ≡ []
ArePiecesOfEach most (p ∷ ps) pieces =
    (own : List Packet) × (others : List Packet) × ArePieces most p own × ArePiecesOfEach most ps others × (pieces ≡ own ++ others)
