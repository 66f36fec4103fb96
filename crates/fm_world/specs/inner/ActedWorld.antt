-- A world in which a coordinator acted.
use Rattle.std.specs.Prelude.{◌≡◌, ℕ, List, ◌++◌, None, map}
use Rattle.fm_delta.specs.declared.packet.Packet.{Packet}
use Rattle.fm_coord.specs.Events.{Sent, Replica}
use Rattle.fm_coord.specs.Replays.{seen_packet}
use Rattle.fm_coord.specs.States.{State, Represents}
use Rattle.fm_world.specs.declared.step.Act.{Act}
use Rattle.fm_world.specs.Worlds.{event_asked, after_maybe, cut_by, cause_here}

-- an act at a replica was accepted: what the coordinator and the packets are is what they are after the event
pub record IsActed (s : State) (ps : List Packet) (r : Replica) (sent : List Sent) (by : ℕ) (act : Act) : Type 0 where
  pub accepted : cause_here r (event_asked sent act) ≡ None
  pub stands : Represents s (after_maybe by (event_asked sent act) r)
  pub packets : ps ≡ map seen_packet (sent ++ cut_by r (event_asked sent act))
