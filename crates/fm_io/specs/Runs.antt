-- The effect of lines, one after another (this project's profile).
use Rattle.std.specs.Prelude.{◌≡◌, ◌⊎◌, ◌<◌, ◌≤◌, ◌-◌, ◌^◌, ℕ, List, [], ◌∷◌, ◌++◌, true, length, Result, Ok, Err}
use Rattle.std.specs.List.{flat_map}
use Rattle.std.specs.Io.KnownBytes.{Appends, Consumes, IsAtEnd}
use Rattle.fm_records.specs.declared.refusal.Refusal.{Refusal}
use Rattle.fm_records.specs.declared.refusal.Refusal.TheVariants.{OutOfMemory, BadScript, WriteFault}
use Rattle.fm_dimacs.specs.Sending.{AppendsPrefix}
use Rattle.fm_io.specs.Sources.{Streams}
use Rattle.fm_io.specs.Lines.{lines_of, IsLine, with_line_feed}
use Rattle.fm_io.specs.LineReads.{most_line}
use Rattle.fm_io.specs.Replies.{refusal_reply}

-- a line is refused unread: memory ran out for it, or it is too long
abbrev pub IsSkipped : List ℕ → List ℕ → Type 0
IsSkipped line text = (text ≡ refusal_reply OutOfMemory) ⊎ ((most_line < length line) × (text ≡ refusal_reply (BadScript 0)))

-- a line is answered so, and makes new of old: it is refused unread and changes nothing, or the responder answers it
abbrev pub IsTaken : {D : Type 0} → (D → List ℕ → List ℕ → D → Type 0) → D → List ℕ → List ℕ → D → Type 0
IsTaken Answers old line text new = (IsSkipped line text × (new ≡ old)) ⊎ Answers old line text new

-- lines in turn: their answers one after another, each by what those before it left
abbrev pub Run : {D : Type 0} → (D → List ℕ → List ℕ → D → Type 0) → D → List (List ℕ) → List ℕ → D → Type 0
Run Answers old [] text new = (text ≡ []) × (new ≡ old)
Run {D} Answers old (line ∷ lines) text new =
    (mid : D) × (first : List ℕ) × (rest : List ℕ) × IsTaken Answers old line first mid × (text ≡ first ++ rest) × Run Answers mid lines rest new

-- the most that is counted of the bytes of a stream
abbrev pub most_counted : ℕ
most_counted = 2 ^ 64 - 1

-- the stream was read within a line, and those before it whole: the source failed, or more was read than is counted
pub record IsCutOff (text : List ℕ) (lines : List (List ℕ)) (streams : Streams) : Type 0 where
  pub rest : List ℕ
  pub line : IsLine rest
  pub whole : text ≡ flat_map with_line_feed lines ++ rest
  pub cause : (streams.source_failed ≡ true) ⊎ (most_counted ≤ length text)

-- which lines of what was read were answered: all of a stream that came to its end; all that were read before the sink
-- failed; or the whole ones before the source failed
abbrev pub AreFollowed : {T : Type 0} → Result T Refusal → List ℕ → List (List ℕ) → Streams → Type 0
AreFollowed (Ok t) text lines streams = (lines ≡ lines_of text) × IsAtEnd streams.left
AreFollowed (Err WriteFault) text lines streams = lines ≡ lines_of text
AreFollowed (Err (BadScript n)) text lines streams = IsCutOff text lines streams
AreFollowed (Err r) text lines streams = ⊥

-- all answers went out; or the sink failed, and a prefix of them did
abbrev pub IsWritten : {T : Type 0} → Result T Refusal → List ℕ → Streams → Type 0
IsWritten (Err WriteFault) text streams = AppendsPrefix streams.old streams.new text × (streams.has_failed ≡ true)
IsWritten r text streams = Appends streams.old streams.new text × (streams.has_failed ≡ streams.had_failed)

-- a stream was followed: what was read of it, the lines of that, and their answers, of which as much went out as is
-- said
pub record IsFollowed {D T : Type 0} (Answers : D → List ℕ → List ℕ → D → Type 0) (result : Result T Refusal) (old new : D) (streams : Streams) : Type 0 where
  pub text : List ℕ
  pub read : Consumes streams.given streams.left text
  pub lines : List (List ℕ)
  pub followed : AreFollowed result text lines streams
  pub answers : List ℕ
  pub run : Run Answers old lines answers new
  pub went : IsWritten result answers streams
