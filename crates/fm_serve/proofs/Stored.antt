-- A stream that is followed durably under a label is one with a store of that label.
use Rattle.std.proofs.Common.{◌≡◌, ℕ, List, Result, inr, subst}
use Rattle.fm_records.specs.declared.ops.Op.{Op}
use Rattle.fm_delta.specs.declared.packet.Packet.{Packet}
use Rattle.fm_io.specs.Sources.{Streams}
use Rattle.fm_service.specs.StreamSteps.{StandBehind}
use Rattle.fm_durable.specs.declared.durable_stream.DurableFault.{DurableFault}
use Rattle.fm_durable.specs.DurableServices.{DeviceModel}
use Rattle.fm_durable.specs.DurableStreams.{IsFollowedDurably}
use Rattle.fm_serve.specs.declared.ending.Ending.{Ending}
use Rattle.fm_serve.specs.StoredStreams.{IsStoredStream, ending_durable}

pub stored : (n : ℕ) (own label : List ℕ) (Untouched : Type 0) (result : Result (Unit {0}) DurableFault) (ending : Ending) (old new : DeviceModel) (streams : Streams) → own ≡ label → ending ≡ ending_durable result
    → ((behind : Packet → List Op) → StandBehind behind → IsFollowedDurably n behind own result old new streams)
    → IsStoredStream n label Untouched ending streams
stored n own label Untouched result ending old new streams same ends followed =
    inr (record {
      result = result;
      ends = ends;
      old = old;
      new = new;
      followed = λ behind stand. subst (λ (l : List ℕ). IsFollowedDurably n behind l result old new streams) same (followed behind stand);
    })
