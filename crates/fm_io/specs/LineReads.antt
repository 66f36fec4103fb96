-- What is read of a stream at a time (this project's profile).
use Rattle.std.specs.Prelude.{◌≡◌, ◌≤◌, ◌<◌, ℕ, List, [], length, Bool, true, false}
use Rattle.fm_io.specs.declared.lines.Line.{Line}
use Rattle.fm_io.specs.declared.lines.Line.TheVariants.{Whole, TooLong, OutOfMemory}
use Rattle.fm_io.specs.declared.lines.Next.{Next}
use Rattle.fm_io.specs.declared.lines.Next.TheVariants as next
use Rattle.fm_io.specs.Lines.{IsLine, with_line_feed}

-- the most bytes of a line: 64 MiB
abbrev pub most_line : ℕ
most_line = 67108864

-- what is kept of a line: all of it, unless it is too long or memory ran out
abbrev pub IsKeptLine : Line → List ℕ → List ℕ → Type 0
IsKeptLine Whole line kept = (kept ≡ line) × (length line ≤ most_line)
IsKeptLine TooLong line kept = most_line < length line
IsKeptLine OutOfMemory line kept = Unit {0}

-- the bytes that were read are a line and its line feed, and that is kept of it; or what follows the last line feed; or
-- none
abbrev pub IsNextLine : Next → List ℕ → List ℕ → Type 0
IsNextLine (next.Line is) bytes kept = (line : List ℕ) × IsLine line × IsKeptLine is line kept × (bytes ≡ with_line_feed line)
IsNextLine (next.Last is) bytes kept = IsLine bytes × (0 < length bytes) × IsKeptLine is bytes kept
IsNextLine next.End bytes kept = bytes ≡ []

-- nothing comes after it
abbrev pub is_last : Next → Bool
is_last (next.Line is) = false
is_last _ = true
