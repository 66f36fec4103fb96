use Rattle.std.proofs.Common.{◌≡◌, ◌∙◌, None, ap, sym, subst, rules}
use Rattle.fm_records.specs.Table.{Table}
use Rattle.fm_records.specs.Know.{table_of}
use Rattle.fm_round.specs.declared.plan.Admitted.{Admitted}
use Rattle.fm_round.specs.Admission.{admission}
use Rattle.fm_coord.specs.declared.entry.Entry.{Entry}
use Rattle.fm_coord.specs.declared.entry.Call.TheVariants as call
use Rattle.fm_coord.specs.declared.entry.Reply.TheVariants as reply
use Rattle.fm_coord.specs.Causes.{room_fault}
use Rattle.fm_coord.specs.States.{State, bounds, history_entry, took, IsCoordinator}
use Rattle.fm_coord.proofs.Keeps.{keeps_commit}
use Rattle.fm_coord.proofs.Happens.{committed}
use Rattle.fm_coord.proofs.coordinator.Coordinator.accept.Goals as goal

pub take_in-requires : goal.take_in-requires
take_in-requires g c =
    let s : State = c.args.self.now.state in
    let d = c.args.decision in
    let room : room_fault (bounds s) ≡ None = search rules in
    let of : Admitted → Entry = λ a. history_entry c.args.by (call.Commit d.plan) (reply.Admitted a) in
    let entry : c.in_ok-admitted.committed ≡ of (admission s.knowledge s.number d.plan) = c.in_ok-admitted.ensures.entry ∙ ap of c.requires.admitted in
    let told : c.in_ok-admitted.delta ≡ table_of (admission s.knowledge s.number d.plan).ops =
    c.in_ok-admitted.ensures.delta ∙ c.requires.delta ∙ ap (λ (a : Admitted). table_of a.ops) c.requires.admitted in
    subst (λ (p : Table × Entry). IsCoordinator (took s p.0 p.1)) (λ i. (sym told i, sym entry i))
    (keeps_commit s c.known.ensures.coordinator c.args.by d.plan room)

pub returns-clause-event : goal.returns-clause-event
returns-clause-event g c =
    let s : State = c.args.self.now.state in
    let d = c.args.decision in
    let room : room_fault (bounds s) ≡ None = search rules in
    let a : Admitted = c.in_ok-admitted.admitted in
    let admitted : a ≡ admission s.knowledge s.number d.plan = c.in_ok-admitted.ensures.admitted ∙ c.requires.admitted in
    let made : c.take_in.new.self.state ≡ took s (table_of a.ops) (history_entry c.args.by (call.Commit d.plan) (reply.Admitted a)) = search rules in
    λ r st. committed s r st c.args.by c.take_in.new.self.state d.plan a admitted room made
