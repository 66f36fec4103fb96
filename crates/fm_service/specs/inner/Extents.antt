-- Which packets are made of coordinators: of what is not stored, or of all that they know.
use Rattle.std.specs.Prelude.{ℕ, Option}
use Rattle.fm_coord.specs.Events.{Sent}
use Rattle.fm_service.specs.declared.storing.Extent.{Extent}
use Rattle.fm_service.specs.declared.storing.Extent.TheVariants.{Unstored, Full}
use Rattle.fm_service.specs.StreamSteps.{Following}
use Rattle.fm_service.specs.Storing.{unstored_at, full_packet_at}

abbrev pub packet_by : Extent → Following → ℕ → Option Sent
packet_by Unstored k n = unstored_at k n
packet_by Full k n = full_packet_at k n
