-- A stream whose answers wait for a store, from its first line to its end: what was followed, what went out, and what the device then holds.
use Rattle.std.specs.Prelude.{◌≡◌, ℕ, ◌++◌, List, Option, Some, None, Result, Ok, Err}
use Rattle.std.specs.Io.KnownBytes.{Consumes}
use Rattle.fm_records.specs.declared.ops.Op.{Op}
use Rattle.fm_records.specs.declared.refusal.Refusal.TheVariants.{BadScript, WriteFault}
use Rattle.fm_delta.specs.declared.packet.Packet.{Packet}
use Rattle.fm_store.specs.declared.store_fault.StoreFault.{StoreFault}
use Rattle.fm_store.specs.Heads.{HeadModel}
use Rattle.fm_io.specs.declared.group_commit.StreamFault.{StreamFault}
use Rattle.fm_io.specs.declared.group_commit.StreamFault.TheVariants.{Source, Sink, Commit}
use Rattle.fm_io.specs.Sources.{Streams}
use Rattle.fm_io.specs.Groups.{LineGroup, lines_in, answers_in, Groups, AreRun, AreSent}
use Rattle.fm_service.specs.StreamSteps.{Following}
use Rattle.fm_durable.specs.declared.durable_stream.DurableFault.{DurableFault}
use Rattle.fm_durable.specs.declared.durable_stream.DurableFault.TheVariants.{Refused, Store}
use Rattle.fm_durable.specs.DurableSteps.{Durable, not_opened, DurableAnswers, DurableCommits, AreRecoverable}
use Rattle.fm_durable.specs.DurableServices.{DeviceModel, HoldsStore, HoldsFront, KeepsKnown}

-- what is returned of a stream whose groups ended so
abbrev pub EndsAs : {T : Type 0} → Result T StreamFault → Result T DurableFault → Type 0
EndsAs (Ok t) result = result ≡ Ok t
EndsAs (Err Source) result = result ≡ Err (Refused (BadScript 0))
EndsAs (Err Sink) result = result ≡ Err (Refused WriteFault)
EndsAs (Err Commit) result = (fault : StoreFault) × (result ≡ Err (Store fault))

-- what the device holds once this was committed: what it held, if no coordinators were listed; else their store
abbrev pub HoldsCommitted : DeviceModel → DeviceModel → Option Following → HeadModel → List Packet → Type 0
HoldsCommitted old new None head packets = new ≡ old
HoldsCommitted old new (Some k) head packets = HoldsStore new head packets

-- the same after a later commit failed: more may be behind it. Nothing is said if no coordinators were listed before that
abbrev pub HoldsAfterFault : DeviceModel → Option Following → HeadModel → List Packet → Type 0
HoldsAfterFault new None head packets = Unit {0}
HoldsAfterFault new (Some k) head packets = HoldsFront new head packets

abbrev pub HoldsAtEnd : {T : Type 0} → Result T StreamFault → DeviceModel → DeviceModel → Durable → Type 0
HoldsAtEnd (Err Commit) old new kept = HoldsAfterFault new kept.following kept.head kept.packets
HoldsAtEnd ended old new kept = HoldsCommitted old new kept.following kept.head kept.packets

-- a stream was followed: what was read of it, and how its groups ended; the groups that were committed, where this led, and that each
-- coordinator would know again what it knows; the lines that were run after that, if their commit failed; and the answers of the committed
-- groups, of which as much went out as is said, and none of the others. However it ended, what coordinators would know by the device before,
-- they would know by it
pub record IsFollowedDurably {T : Type 0} (most : ℕ) (behind : Packet → List Op) (label : List ℕ) (result : Result T DurableFault) (old new : DeviceModel) (streams : Streams) : Type 0 where
  pub text : List ℕ
  pub read : Consumes streams.given streams.left text
  pub ended : Result T StreamFault
  pub is : EndsAs ended result
  pub groups : List LineGroup
  pub kept : Durable
  pub committed : Groups (DurableAnswers most behind label old.content) DurableCommits (not_opened label) groups kept
  pub are_kept : AreRecoverable kept
  pub last : List (List ℕ)
  pub followed : AreRun ended text (lines_in groups ++ last) streams
  pub went : AreSent ended (answers_in groups) streams
  pub holds : HoldsAtEnd ended old new kept
  pub keeps : KeepsKnown old new
