-- What a run reads and writes, and how it ends (this project's profile).
use Rattle.std.specs.Prelude.{◌≡◌, ◌⊎◌, ℕ, List, Bool, true, false, Option, Some, None, IfSome, Result, Ok, Err}
use Rattle.fm_records.specs.declared.ops.Op.{Op}
use Rattle.fm_records.specs.declared.refusal.Refusal.{Refusal}
use Rattle.fm_records.specs.declared.refusal.Refusal.TheVariants.{OutOfMemory}
use Rattle.fm_delta.specs.declared.packet.Packet.{Packet}
use Rattle.fm_io.specs.Sources.{IsUnread, Streams}
use Rattle.fm_io.specs.Runs.{IsFollowed}
use Rattle.fm_service.specs.StreamSteps.{Following, StandBehind, Answers}
use Rattle.fm_args.specs.Invocation.{Telling, Text, run, fleet, follow, follow_with_store, records, recover}
use Rattle.fm_serve.specs.declared.ending.Ending.{Ending}
use Rattle.fm_serve.specs.declared.ending.Ending.TheVariants.{Done, Stopped}
use Rattle.fm_serve.specs.Faults.{fault_of}
use Rattle.fm_serve.specs.Responses.{Responds}
use Rattle.fm_serve.specs.OutputWritten.{IsOutputWritten}
use Rattle.fm_serve.specs.Salvages.{IsSalvaged}
use Rattle.fm_serve.specs.StoredStreams.{IsStoredStream}
use Rattle.fm_serve.specs.declared.salvage.StoreQuestion.{StoreQuestion}
use Rattle.fm_serve.specs.declared.salvage.StoreQuestion.TheVariants as question

-- whether an input is read for what the words ask for
abbrev pub reads : Telling → Bool
reads (run c) = true
reads (fleet rounds) = true
reads _ = false

-- the text is all that the source gave; or nothing was read
abbrev pub ReadsAll : Bool → Type 0 → Option (List ℕ) → List ℕ → Type 0
ReadsAll true Untouched given text = IfSome given (λ all. text ≡ all)
ReadsAll false Untouched given text = Untouched

-- why there is no input: memory ran out, or an input was asked for, and the source failed or gave too much
abbrev pub IsStoppedReading : Telling → Refusal → Option (List ℕ) → Option (List ℕ) → Bool → Type 0
IsStoppedReading t refusal given left source_failed =
    (refusal ≡ OutOfMemory) ⊎ ((reads t ≡ true) × IsUnread refusal given left source_failed)

-- there was an answer to what the words ask for and to the input, and it went out
pub record IsAnswered (t : Telling) (Untouched : Type 0) (ending : Ending) (streams : Streams) : Type 0 where
  pub text : List ℕ
  pub taken : ReadsAll (reads t) Untouched streams.given text
  pub answered : Ending
  pub output : List ℕ
  pub responds : Responds t text answered output
  pub went : IsOutputWritten answered output ending streams.old streams.new streams.had_failed streams.has_failed

-- the run was stopped before there was an input, and nothing is written
pub record IsStoppedEarly (t : Telling) (ending : Ending) (streams : Streams) : Type 0 where
  pub refusal : Refusal
  pub ends : ending ≡ Stopped (fault_of refusal)
  pub cause : IsStoppedReading t refusal streams.given streams.left streams.source_failed
  pub nothing : streams.new ≡ streams.old
  pub fails_not : streams.has_failed ≡ streams.had_failed

-- how a run goes: an input is read and answered, if any; or a stream is followed, which may have a store; or the file of a store is read
pub data RunKind : Type 0 where
  from_input : RunKind
  from_stream : ℕ → RunKind
  from_stored_stream : ℕ → (path label : Text) → RunKind
  from_store : StoreQuestion → (path : Text) → RunKind

abbrev pub way_of : Telling → RunKind
way_of (follow renew_after) = from_stream renew_after
way_of (follow_with_store renew_after path label) = from_stored_stream renew_after path label
way_of (records path) = from_store question.Records path
way_of (recover path) = from_store question.Recover path
way_of _ = from_input

-- how the following of a stream ends
abbrev pub ending_of : Result (Unit {0}) Refusal → Ending
ending_of (Ok done) = Done
ending_of (Err refusal) = Stopped (fault_of refusal)

-- the stream was followed from its first line; whatever operations stand behind the packets that it takes in, its
-- answers went out
pub record IsStreamed (renew_after : ℕ) (ending : Ending) (streams : Streams) : Type 0 where
  pub result : Result (Unit {0}) Refusal
  pub ends : ending ≡ ending_of result
  pub followed : (behind : Packet → List Op) → StandBehind behind
      → (next : Option Following) × IsFollowed (Answers renew_after behind) result None next streams

-- a run that was not stopped before there was an input
abbrev pub Runs : RunKind → Telling → Type 0 → Ending → Streams → Type 0
Runs from_input t Untouched ending streams = IsAnswered t Untouched ending streams
Runs (from_stream renew_after) t Untouched ending streams = IsStreamed renew_after ending streams
Runs (from_stored_stream renew_after path label) t Untouched ending streams = IsStoredStream renew_after label Untouched ending streams
Runs (from_store q path) t Untouched ending streams = IsSalvaged q ending streams.old streams.new streams.had_failed streams.has_failed

-- a run for what the words ask for; `Untouched` says that nothing was read
abbrev pub IsRunServed : Telling → Type 0 → Ending → Streams → Type 0
IsRunServed t Untouched ending streams = Runs (way_of t) t Untouched ending streams ⊎ IsStoppedEarly t ending streams
