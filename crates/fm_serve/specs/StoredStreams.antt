-- How the following of a stream with a store goes, and ends (this project's profile).
use Rattle.std.specs.Prelude.{◌≡◌, ◌⊎◌, ℕ, List, Result, Ok, Err}
use Rattle.fm_records.specs.declared.ops.Op.{Op}
use Rattle.fm_delta.specs.declared.packet.Packet.{Packet}
use Rattle.fm_store.specs.declared.store_fault.StoreFault.{StoreFault}
use Rattle.fm_io.specs.Sources.{Streams}
use Rattle.fm_service.specs.StreamSteps.{StandBehind}
use Rattle.fm_durable.specs.declared.durable_stream.DurableFault.{DurableFault}
use Rattle.fm_durable.specs.declared.durable_stream.DurableFault.TheVariants.{Refused, Store}
use Rattle.fm_durable.specs.DurableServices.{DeviceModel}
use Rattle.fm_durable.specs.DurableStreams.{IsFollowedDurably}
use Rattle.fm_serve.specs.declared.ending.Ending.{Ending}
use Rattle.fm_serve.specs.declared.ending.Ending.TheVariants.{Done, Stopped, Unusable}
use Rattle.fm_serve.specs.Faults.{fault_of}

-- how a run ends
abbrev pub ending_durable : Result (Unit {0}) DurableFault → Ending
ending_durable (Ok done) = Done
ending_durable (Err (Refused refusal)) = Stopped (fault_of refusal)
ending_durable (Err (Store fault)) = Unusable fault

-- the file of the store could not be opened, or memory ran out: nothing is read or written
pub record IsUnopened (Untouched : Type 0) (ending : Ending) (streams : Streams) : Type 0 where
  pub fault : StoreFault
  pub ends : ending ≡ Unusable fault
  pub untouched : Untouched
  pub nothing : streams.new ≡ streams.old
  pub fails_not : streams.has_failed ≡ streams.had_failed

-- the stream was followed from its first line, with the store of this label on a device; whatever operations stand behind the packets that it
-- takes in, answers went out once the device had what they rest on
pub record IsStored (renew_after : ℕ) (label : List ℕ) (ending : Ending) (streams : Streams) : Type 0 where
  pub result : Result (Unit {0}) DurableFault
  pub ends : ending ≡ ending_durable result
  pub old : DeviceModel
  pub new : DeviceModel
  pub followed : (behind : Packet → List Op) → StandBehind behind → IsFollowedDurably renew_after behind label result old new streams

abbrev pub IsStoredStream : ℕ → List ℕ → Type 0 → Ending → Streams → Type 0
IsStoredStream renew_after label Untouched ending streams = IsUnopened Untouched ending streams ⊎ IsStored renew_after label ending streams
