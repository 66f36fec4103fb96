use Rattle.std.proofs.Common.{take}
use Rattle.fm_store.specs.Stores.{IsStoreOf}
use Rattle.fm_store.proofs.store.store_of.Given as goal

abbrev pub invariant-loop-packet : goal.invariant-loop-packet
invariant-loop-packet l = IsStoreOf l.head (take l.packet-index l.packets) l.bytes.items
