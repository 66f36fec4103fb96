use Rattle.std.proofs.Common.{◌≡◌, ◌∙◌, List, None, ap, sym, subst, rules}
use Rattle.fm_delta.specs.Deltas.{with_floor, Deltas}
use Rattle.fm_coord.specs.declared.entry.Entry.{Entry}
use Rattle.fm_coord.specs.declared.entry.Call.TheVariants as call
use Rattle.fm_coord.specs.declared.entry.Reply.TheVariants as reply
use Rattle.fm_coord.specs.Causes.{room_fault, floor_fault}
use Rattle.fm_coord.specs.States.{State, bounds, history_entry, after_trim, IsCoordinator}
use Rattle.fm_coord.proofs.StepLaws.{no_cause}
use Rattle.fm_coord.proofs.Said.{same_state}
use Rattle.fm_coord.proofs.Keeps.{keeps_trim}
use Rattle.fm_coord.proofs.Happens.{let_below}
use Rattle.fm_coord.proofs.coordinator.Coordinator.trim.Goals as goal

pub invariant_of-self-2 : goal.invariant_of-self-2
invariant_of-self-2 g c =
    let a = c.self.inside in
    let s : State = record { number = a.number; limit = a.limit; knowledge = a.knowledge; deltas = a.buffer.deltas; cuts = a.cuts; history = a.history.items } in
    let is : s ≡ c.args.self.now.state = same_state c.self.view_is in
    let room : room_fault (bounds s) ≡ None = subst (λ (t : State). room_fault (bounds t) ≡ None) (sym is) c.in_ok-check_room.ensures.ok in
    let fault : floor_fault (bounds s) c.args.n ≡ None = subst (λ (t : State). floor_fault (bounds t) c.args.n ≡ None) (sym is) c.in_ok-check_floor.ensures.ok in
    let deltas : c.trim.new.self.deltas ≡ with_floor s.deltas c.args.n = search rules in
    let items = c.in_ok-push.ensures.items in
    record {
      coordinator =
          subst (λ (p : Deltas × List Entry). IsCoordinator (record { number = s.number; limit = s.limit; knowledge = s.knowledge; deltas = p.0; cuts = s.cuts; history = p.1 })) (λ i. (sym deltas i, sym items i))
          (keeps_trim s c.self.invariant.coordinator c.args.by c.args.n (no_cause (bounds s) (call.Trim c.args.n) fault room));
      keeper = c.self.invariant.keeper;
      kept_up = c.self.invariant.kept_up;
      tallied = c.self.invariant.tallied;
    }

pub returns-clause-event : goal.returns-clause-event
returns-clause-event g c =
    let a = c.self.inside in
    let s : State = c.args.self.now.state in
    let t : State = record { number = a.number; limit = a.limit; knowledge = a.knowledge; deltas = a.buffer.deltas; cuts = a.cuts; history = a.history.items } in
    let is : t ≡ s = same_state c.self.view_is in
    let none = no_cause (bounds s) (call.Trim c.args.n) c.in_ok-check_floor.ensures.ok c.in_ok-check_room.ensures.ok in
    let deltas : c.trim.new.self.deltas ≡ with_floor t.deltas c.args.n = search rules in
    let items = c.in_ok-push.ensures.items in
    let new : State = record { number = t.number; limit = t.limit; knowledge = t.knowledge; deltas = c.trim.new.self.deltas; cuts = t.cuts; history = c.push.new.self.items } in
    let made : new ≡ after_trim s c.args.n (history_entry c.args.by (call.Trim c.args.n) reply.Nothing) =
    ap (λ (p : Deltas × List Entry). record { number = t.number; limit = t.limit; knowledge = t.knowledge; deltas = p.0; cuts = t.cuts; history = p.1 }) (λ i. (deltas i, items i))
    ∙ ap (λ (u : State). after_trim u c.args.n (history_entry c.args.by (call.Trim c.args.n) reply.Nothing)) is in
    λ r st. let_below s r st c.args.by new c.args.n none made
