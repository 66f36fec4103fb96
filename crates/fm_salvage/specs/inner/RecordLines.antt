-- The lines of the packets of frames, one by one.
use Rattle.std.specs.Prelude.{◌≡◌, ℕ, ◌-◌, List, ◌++◌, length, Option}
use Rattle.fm_delta.specs.declared.packet.Packet.{Packet}
use Rattle.fm_store.specs.Heads.{HeadModel, head_record}
use Rattle.fm_store.specs.declared.frames.Tail.{Tail}
use Rattle.fm_salvage.specs.StoreFronts.{IsEnd, damage_of}
use Rattle.fm_salvage.specs.inner.FrameReading.{AreRead}
use Rattle.fm_salvage.specs.ListingText.{lines_of_records, end_line}

-- so many bytes are the record of the head
abbrev pub IsSizeOf : ℕ → HeadModel → Type 0
IsSizeOf size head = size ≡ length (head_record head)

-- the lines of frames that end a file of so many bytes are added to the old text, and then the last line
pub record IsRestListed (total : ℕ) (bytes old text : List ℕ) (damage : Option ℕ) : Type 0 where
  pub records : List (List ℕ)
  pub packets : List Packet
  pub rest : List ℕ
  pub tail : Tail
  pub read : AreRead records packets rest bytes
  pub ends : IsEnd rest tail
  pub text_is : text ≡ old ++ (lines_of_records (total - length bytes) records packets ++ end_line tail (total - length rest))
  pub damage_is : damage ≡ damage_of tail (total - length rest)
