-- Why calls of a fleet are refused.
use Rattle.std.proofs.Common.{◌≡◌, ◌⊎◌, ℕ, Bool, true, false, refl, sym, ap, subst, inl, inr}
use Rattle.std.specs.Prelude.{nat_le, Option, Some, None, option_map, IsTrue}
use Rattle.fm_records.specs.declared.refusal.Refusal.{Refusal}
use Rattle.fm_records.specs.declared.refusal.Refusal.TheVariants.{OutOfMemory, BadOp, HistoryFull}
use Rattle.fm_records.specs.declared.ops.Field.{Field}
use Rattle.fm_records.specs.declared.ops.Op.{Op}
use Rattle.fm_records.specs.Ops.{op_fault}
use Rattle.fm_records.specs.Options.{when, or_else}
use Rattle.fm_delta.specs.declared.packet.Packet.{Packet}
use Rattle.fm_round.specs.declared.plan.Plan.{Plan}
use Rattle.fm_coord.specs.declared.entry.Call.{Call}
use Rattle.fm_coord.specs.declared.entry.Range.TheVariants.{Full}
use Rattle.fm_coord.specs.declared.entry.Call.TheVariants as call
use Rattle.fm_coord.specs.Causes.{Bounds, first_some, refusal_for}
use Rattle.fm_fleet.specs.Seats.{SeatModel, MayRefuse}
use Rattle.fm_round.specs.Schedules.{IsPlanOf}
use Rattle.fm_fleet.specs.Rounds.{IsRefusedRound}
use Rattle.fm_gossip.specs.FleetFaults.{may_stop}

of_room : (full : Bool) → IsTrue (may_stop (or_else OutOfMemory (first_some None (when full HistoryFull))))
of_room true = refl
of_room false = refl

of_op : (fault : Option Field) (full : Bool) → IsTrue (may_stop (or_else OutOfMemory (first_some (option_map BadOp fault) (when full HistoryFull))))
of_op None true = refl
of_op None false = refl
of_op (Some field) full = refl

-- calls whose refusals may stop a fleet
abbrev pub Stops : Call → Type 0
Stops c = (b : Bounds) → IsTrue (may_stop (refusal_for b c))

pub tell_op : (op : Op) → Stops (call.Tell op)
tell_op op b = of_op (op_fault op) (nat_le b.limit b.entries)

pub merge_packet : (p : Packet) → Stops (call.Merge p)
merge_packet p b = of_room (nat_le b.limit b.entries)

pub cut_full : Stops (call.Cut Full)
cut_full b = of_room (nat_le b.limit b.entries)

pub commit_plan : (plan : Plan) → Stops (call.Commit plan)
commit_plan plan b = of_room (nat_le b.limit b.entries)

pub view : Stops call.View
view b = of_room (nat_le b.limit b.entries)

pub call_stops : (c : Call) (r : Refusal) → Stops c → MayRefuse c r → IsTrue (may_stop r)
call_stops c r stops (inl none) = subst (λ z. IsTrue (may_stop z)) (sym none) refl
call_stops c r stops (inr (b, is)) = subst (λ z. IsTrue (may_stop z)) (sym is) (stops b)

pub round_stops : (base : ℕ) (s t : SeatModel) (r : Refusal) → IsRefusedRound base s t r → IsTrue (may_stop r)
round_stops base s t r (inl (same, refused)) = call_stops call.View r view refused
round_stops base s t r (inr half) = of_half half.cause where
  of_half : ((r ≡ OutOfMemory) ⊎ ((plan : Plan) × IsPlanOf half.known plan × MayRefuse (call.Commit plan) r)) → IsTrue (may_stop r)
  of_half (inl none) = subst (λ z. IsTrue (may_stop z)) (sym none) refl
  of_half (inr (plan, of, refused)) = call_stops (call.Commit plan) r (commit_plan plan) refused

-- a round, done or refused, keeps its seat's number
pub round_number : (base : ℕ) (s t : SeatModel) (r : Refusal) → IsRefusedRound base s t r → t.number ≡ s.number
round_number base s t r (inl (same, refused)) = ap (λ (z : SeatModel). z.number) same
round_number base s t r (inr half) = ap (λ (z : SeatModel). z.number) half.listed
