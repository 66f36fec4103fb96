-- What running the lines of a group does, and committing and sending it.
use Rattle.std.specs.Prelude.{◌≡◌, ◌⊎◌, ◌<◌, ◌≤◌, ℕ, List, [], ◌++◌, Bool, true, false, length, Option, Result, Ok, Err}
use Rattle.std.specs.List.{flat_map}
use Rattle.std.specs.Io.KnownBytes.{Appends, Consumes, IsAtEnd}
use Rattle.fm_dimacs.specs.Sending.{AppendsPrefix}
use Rattle.fm_io.specs.declared.group_commit.StreamFault.{StreamFault}
use Rattle.fm_io.specs.declared.group_commit.StreamFault.TheVariants as fault
use Rattle.fm_io.specs.declared.group_commit.GroupEnd.{GroupEnd}
use Rattle.fm_io.specs.declared.group_commit.GroupEnd.TheVariants.{Open, AtEnd, CutOff}
use Rattle.fm_io.specs.Lines.{lines_of, IsLine, with_line_feed}
use Rattle.fm_io.specs.Runs.{Run, most_counted}

-- whole lines: their text, and what it is before any other
pub record AreWhole (text : List ℕ) (lines : List (List ℕ)) : Type 0 where
  pub spelled : text ≡ flat_map with_line_feed lines
  pub before : (rest : List ℕ) → lines_of (text ++ rest) ≡ lines ++ lines_of rest

-- whole lines, and then a part of a line, within which the source failed or more was read than is counted
pub record IsBrokenOff (text : List ℕ) (lines : List (List ℕ)) (source_failed : Bool) : Type 0 where
  pub rest : List ℕ
  pub line : IsLine rest
  pub whole : text ≡ flat_map with_line_feed lines ++ rest
  pub before : lines_of text ≡ lines ++ lines_of rest
  pub cause : (source_failed ≡ true) ⊎ (most_counted ≤ length text)

-- how a text that was read ends
abbrev pub EndsSo : GroupEnd → List ℕ → List (List ℕ) → Option (List ℕ) → Bool → Type 0
EndsSo Open text lines left source_failed = AreWhole text lines × (0 < length text)
EndsSo AtEnd text lines left source_failed = (lines ≡ lines_of text) × IsAtEnd left
EndsSo CutOff text lines left source_failed = IsBrokenOff text lines source_failed

-- whether there are any lines
abbrev pub AreAny : Bool → List (List ℕ) → Type 0
AreAny true lines = 0 < length lines
AreAny false lines = lines ≡ []

-- the lines of a group were read and run
pub record IsGroup {D : Type 0} (Answers : D → List ℕ → List ℕ → D → Type 0) (end : GroupEnd) (old new : D) (given left : Option (List ℕ)) (source_failed any : Bool) (answers : List ℕ) : Type 0 where
  pub text : List ℕ
  pub read : Consumes given left text
  pub lines : List (List ℕ)
  pub ends : EndsSo end text lines left source_failed
  pub some : AreAny any lines
  pub run : Run Answers old lines answers new

-- a group was committed and then its answers were sent; or it has no lines, and nothing was done
abbrev pub IsSettled : {D T : Type 0} → (D → D → Type 0) → (D → D → Type 0) → Result T StreamFault → Bool → D → D → Option (List ℕ) → Option (List ℕ) → Bool → Bool → List ℕ → Type 0
IsSettled Commits Fails (Ok t) true old new was is had has answers = Commits old new × Appends was is answers × (has ≡ had)
IsSettled Commits Fails (Ok t) false old new was is had has answers = (new ≡ old) × Appends was is [] × (has ≡ had)
IsSettled Commits Fails (Err fault.Commit) any old new was is had has answers = (any ≡ true) × Fails old new × Appends was is [] × (has ≡ had)
IsSettled Commits Fails (Err fault.Sink) any old new was is had has answers = (any ≡ true) × Commits old new × AppendsPrefix was is answers × (has ≡ true)
IsSettled Commits Fails (Err fault.Source) any old new was is had has answers = ⊥
