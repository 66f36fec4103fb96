use Rattle.std.proofs.Common.{◌≡◌, take}
use Rattle.fm_store.specs.Stores.{recovered}
use Rattle.fm_store.proofs.recovery.knowledge_of.Given as goal

abbrev pub invariant-loop-packet : goal.invariant-loop-packet
invariant-loop-packet l = l.known ≡ recovered l.number (take l.packet-index l.packets)
