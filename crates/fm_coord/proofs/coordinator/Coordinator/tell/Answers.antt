use Rattle.std.proofs.Common.{◌≡◌, option_map, ◌∷◌, [], None, ap, sym, subst, rules}
use Rattle.fm_records.specs.declared.refusal.Refusal.TheVariants.{BadOp}
use Rattle.fm_records.specs.Table.{Table}
use Rattle.fm_records.specs.Ops.{op_fault}
use Rattle.fm_records.specs.Know.{table_of}
use Rattle.fm_coord.specs.declared.entry.Entry.{Entry}
use Rattle.fm_coord.specs.declared.entry.Call.TheVariants as call
use Rattle.fm_coord.specs.declared.entry.Reply.TheVariants as reply
use Rattle.fm_coord.specs.Causes.{cause, room_fault}
use Rattle.fm_coord.specs.States.{State, bounds, history_entry, took, IsCoordinator}
use Rattle.fm_coord.proofs.StepLaws.{no_cause}
use Rattle.fm_coord.proofs.Keeps.{keeps_tell}
use Rattle.fm_coord.proofs.Happens.{told}
use Rattle.fm_coord.proofs.coordinator.Coordinator.tell.Goals as goal

pub take_in-requires : goal.take_in-requires
take_in-requires g c =
    let s : State = c.args.self.now.state in
    let fault : op_fault c.args.op ≡ None = search rules in
    let room : room_fault (bounds s) ≡ None = search rules in
    let delta : c.in_ok-delta.delta ≡ table_of (c.args.op ∷ []) = search rules in
    let told : Entry = history_entry c.args.by (call.Tell c.args.op) reply.Nothing in
    subst (λ (d : Table). IsCoordinator (took s d told)) (sym delta)
    (keeps_tell s c.known.ensures.coordinator c.args.by c.args.op (no_cause (bounds s) (call.Tell c.args.op) (ap (λ o. option_map BadOp o) fault) room))

pub returns-clause-event : goal.returns-clause-event
returns-clause-event g c =
    let s : State = c.args.self.now.state in
    let fault : op_fault c.args.op ≡ None = search rules in
    let room : room_fault (bounds s) ≡ None = search rules in
    let none : cause (bounds s) (call.Tell c.args.op) ≡ None = no_cause (bounds s) (call.Tell c.args.op) (ap (λ o. option_map BadOp o) fault) room in
    let made : c.take_in.new.self.state ≡ took s (table_of (c.args.op ∷ [])) (history_entry c.args.by (call.Tell c.args.op) reply.Nothing) = search rules in
    λ r st. told s r st c.args.by c.take_in.new.self.state c.args.op none made
