-- Why threads of a fleet may end early.
use Rattle.std.specs.Prelude.{Bool, true, Option, Some, None}
use Rattle.fm_gossip.specs.declared.early.Early.{Early}
use Rattle.fm_gossip.specs.declared.early.Early.TheVariants.{Refused, Left, Stopped}
use Rattle.fm_gossip.specs.FleetFaults.{may_stop}

-- whether a thread may end so: by a refusal that may stop a fleet, by a packet that it does not await, or since the fleet is stopped
abbrev pub may_end : Early → Bool
may_end (Refused refusal) = may_stop refusal
may_end Left = true
may_end Stopped = true

-- which of two ends is named: the first that was not only stopped; else that one was stopped, if one was
abbrev pub named_end : Option Early → Option Early → Option Early
named_end None other = other
named_end (Some (Refused refusal)) other = Some (Refused refusal)
named_end (Some Left) other = Some Left
named_end (Some Stopped) None = Some Stopped
named_end (Some Stopped) (Some early) = Some early
