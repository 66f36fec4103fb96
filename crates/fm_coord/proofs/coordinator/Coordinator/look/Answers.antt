use Rattle.std.proofs.Common.{◌≡◌, ◌∙◌, ℕ, length, None, sym, subst, rules}
use Rattle.fm_records.specs.Table.{Table}
use Rattle.fm_coord.specs.declared.entry.Call.TheVariants as call
use Rattle.fm_coord.specs.declared.entry.Reply.TheVariants as reply
use Rattle.fm_coord.specs.Causes.{room_fault}
use Rattle.fm_coord.specs.States.{State, bounds, history_entry, with_entry, IsCoordinator}
use Rattle.fm_coord.proofs.Keeps.{keeps_view}
use Rattle.fm_coord.proofs.Happens.{viewed}
use Rattle.fm_coord.proofs.coordinator.Coordinator.look.Goals as goal

pub note-requires : goal.note-requires
note-requires g c =
    let s : State = c.args.self.now.state in
    let room : room_fault (bounds s) ≡ None = search rules in
    let same : c.known_now.new.self.state ≡ s = c.in_ok-look.ensures.state in
    let at : c.in_ok-look.look.at ≡ length s.history = c.in_ok-look.ensures.at in
    let seen : c.in_ok-share.field-0 ≡ s.knowledge = c.in_ok-share.ensures ∙ c.in_ok-look.ensures.knowledge in
    subst (λ (p : State × ℕ × Table). IsCoordinator (with_entry p.0 (history_entry c.args.by call.View (reply.Seen p.1 p.2)))) (λ i. (sym same i, sym at i, sym seen i))
    (keeps_view s c.known.ensures.coordinator c.args.by room)

pub returns-clause-event : goal.returns-clause-event
returns-clause-event g c =
    let s : State = c.args.self.now.state in
    let room : room_fault (bounds s) ≡ None = search rules in
    let same : c.known_now.new.self.state ≡ s = c.in_ok-look.ensures.state in
    let at : c.in_ok-look.look.at ≡ length s.history = c.in_ok-look.ensures.at in
    let known : c.in_ok-look.look.knowledge ≡ s.knowledge = c.in_ok-look.ensures.knowledge in
    let made : c.note.new.self.state ≡ with_entry s (history_entry c.args.by call.View (reply.Seen c.in_ok-look.look.at c.in_ok-look.look.knowledge)) = search rules in
    λ r st. viewed s r st c.args.by c.note.new.self.state c.in_ok-look.look.at c.in_ok-look.look.knowledge at known room made
