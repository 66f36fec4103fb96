-- Coordinators renewed from all that they know, so that histories, deltas and packets are dropped (this project's
-- profile).
use Rattle.std.specs.Prelude.{[], map}
use Rattle.fm_coord.specs.Events.{Sent, Replica, opening, happens}
use Rattle.fm_coord.specs.Events as event
use Rattle.fm_world.specs.Worlds.{WorldOfSets}
use Rattle.fm_script.specs.Openings.{history_limit}

-- all that a replica took in, as a packet of its own
abbrev pub whole_of : Replica → Sent
whole_of r = record { sender = r.number; number = 0; set = r.taken }

-- a replica to which nothing happened but that it took that in
abbrev pub renewed_replica : Replica → Replica
renewed_replica r = happens (opening r.number history_limit) 0 (event.Merge (whole_of r))

-- the world of such replicas; no packet was cut
abbrev pub renewed_world : WorldOfSets → WorldOfSets
renewed_world w = record { replicas = map renewed_replica w.replicas; packets = [] }
