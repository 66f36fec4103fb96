-- Lines that are answered in groups, each of which is committed before its answers are sent (group commit, as in databases).
use Rattle.std.specs.Prelude.{◌≡◌, ◌⊎◌, ◌<◌, ℕ, List, [], ◌∷◌, ◌++◌, true, length, Result, Ok, Err}
use Rattle.std.specs.List.{flat_map}
use Rattle.std.specs.Io.KnownBytes.{Appends, Consumes, IsAtEnd}
use Rattle.fm_dimacs.specs.Sending.{AppendsPrefix}
use Rattle.fm_io.specs.declared.group_commit.StreamFault.{StreamFault}
use Rattle.fm_io.specs.declared.group_commit.StreamFault.TheVariants as fault
use Rattle.fm_io.specs.Sources.{Streams}
use Rattle.fm_io.specs.Lines.{lines_of}
use Rattle.fm_io.specs.Runs.{Run, IsCutOff}

-- a group: its lines, and their answers one after another
pub record LineGroup : Type 0 where
  pub lines : List (List ℕ)
  pub answers : List ℕ

abbrev pub lines_in : List LineGroup → List (List ℕ)
lines_in groups = flat_map (λ (g : LineGroup). g.lines) groups

abbrev pub answers_in : List LineGroup → List ℕ
answers_in groups = flat_map (λ (g : LineGroup). g.answers) groups

-- a group that is not empty: its lines are run in turn, and what they leave is committed
pub record IsCommitted {D : Type 0} (Answers : D → List ℕ → List ℕ → D → Type 0) (Commits : D → D → Type 0) (old : D) (group : LineGroup) (new : D) : Type 0 where
  pub some : 0 < length group.lines
  pub ran : D
  pub run : Run Answers old group.lines group.answers ran
  pub commit : Commits ran new

-- groups in turn, each committed before the lines of the next are run
abbrev pub Groups : {D : Type 0} → (D → List ℕ → List ℕ → D → Type 0) → (D → D → Type 0) → D → List LineGroup → D → Type 0
Groups Answers Commits old [] new = new ≡ old
Groups {D} Answers Commits old (g ∷ gs) new = (kept : D) × IsCommitted Answers Commits old g kept × Groups Answers Commits kept gs new

-- the stream was read within a line, and the lines are all before it
abbrev pub IsCutWithin : List ℕ → List (List ℕ) → Streams → Type 0
IsCutWithin text lines streams = (cut : IsCutOff text lines streams) × (lines_of text ≡ lines ++ lines_of cut.rest)

-- which lines of what was read were run: all of a stream that came to its end; the whole ones before the source failed; or
-- all that were read before the sink or a commit failed, but not a line within which the source failed first
abbrev pub AreRun : {T : Type 0} → Result T StreamFault → List ℕ → List (List ℕ) → Streams → Type 0
AreRun (Ok t) text lines streams = (lines ≡ lines_of text) × IsAtEnd streams.left
AreRun (Err fault.Source) text lines streams = IsCutWithin text lines streams
AreRun (Err _) text lines streams = (lines ≡ lines_of text) ⊎ IsCutWithin text lines streams

-- lines were run, and the commit of what they left failed
pub record IsUncommitted {D : Type 0} (Answers : D → List ℕ → List ℕ → D → Type 0) (Fails : D → D → Type 0) (old : D) (lines : List (List ℕ)) (new : D) : Type 0 where
  pub some : 0 < length lines
  pub answers : List ℕ
  pub ran : D
  pub run : Run Answers old lines answers ran
  pub fails : Fails ran new

-- what came after the last commit: nothing; or the lines of a group whose commit failed
abbrev pub IsLeft : {D T : Type 0} → (D → List ℕ → List ℕ → D → Type 0) → (D → D → Type 0) → Result T StreamFault → D → List (List ℕ) → D → Type 0
IsLeft Answers Fails (Err fault.Commit) old lines new = IsUncommitted Answers Fails old lines new
IsLeft Answers Fails r old lines new = (lines ≡ []) × (new ≡ old)

-- the answers of all committed groups went out; or the sink failed, and a prefix of them did
abbrev pub AreSent : {T : Type 0} → Result T StreamFault → List ℕ → Streams → Type 0
AreSent (Err fault.Sink) text streams = AppendsPrefix streams.old streams.new text × (streams.has_failed ≡ true)
AreSent r text streams = Appends streams.old streams.new text × (streams.has_failed ≡ streams.had_failed)

-- a stream was followed in groups: what was read of it; the groups that were committed, and the state that this left; the lines
-- that were run after that; and the answers of the committed groups, of which as much went out as is said
pub record IsFollowedInGroups {D T : Type 0} (Answers : D → List ℕ → List ℕ → D → Type 0) (Commits Fails : D → D → Type 0) (result : Result T StreamFault) (old new : D) (streams : Streams) : Type 0 where
  pub text : List ℕ
  pub read : Consumes streams.given streams.left text
  pub groups : List LineGroup
  pub kept : D
  pub committed : Groups Answers Commits old groups kept
  pub last : List (List ℕ)
  pub left : IsLeft Answers Fails result kept last new
  pub followed : AreRun result text (lines_in groups ++ last) streams
  pub went : AreSent result (answers_in groups) streams
