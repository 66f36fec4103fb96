-- Why calls of an exchange are refused.
use Rattle.std.proofs.Common.{◌≡◌, Bool, true, false, refl, sym, subst, inl, inr}
use Rattle.std.specs.Prelude.{nat_le, None}
use Rattle.fm_records.specs.declared.refusal.Refusal.{Refusal}
use Rattle.fm_records.specs.declared.refusal.Refusal.TheVariants.{OutOfMemory, HistoryFull}
use Rattle.fm_records.specs.Options.{when, or_else}
use Rattle.fm_delta.specs.declared.packet.Packet.{Packet}
use Rattle.fm_coord.specs.declared.entry.Range.TheVariants.{Full}
use Rattle.fm_coord.specs.declared.entry.Call.TheVariants as call
use Rattle.fm_coord.specs.Causes.{Bounds, first_some, refusal_for}
use Rattle.fm_gossip.specs.Exchanges.{StopsExchange}

of_room : (full : Bool) → StopsExchange (or_else OutOfMemory (first_some None (when full HistoryFull)))
of_room true = inr refl
of_room false = inl refl

pub cut_stops : (b : Bounds) (r : Refusal) → r ≡ refusal_for b (call.Cut Full) → StopsExchange r
cut_stops b r is = subst StopsExchange (sym is) (of_room (nat_le b.limit b.entries))

pub merge_stops : (b : Bounds) (p : Packet) (r : Refusal) → r ≡ refusal_for b (call.Merge p) → StopsExchange r
merge_stops b p r is = subst StopsExchange (sym is) (of_room (nat_le b.limit b.entries))
