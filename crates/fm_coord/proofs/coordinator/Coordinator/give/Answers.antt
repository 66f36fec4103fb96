use Rattle.std.proofs.Common.{◌≡◌, ◌∙◌, ◌+◌, List, None, refl, ap, sym, subst}
use Rattle.fm_delta.specs.declared.packet.Packet.{Packet}
use Rattle.fm_coord.specs.declared.entry.Entry.{Entry}
use Rattle.fm_coord.specs.declared.entry.Call.TheVariants as call
use Rattle.fm_coord.specs.declared.entry.Reply.TheVariants as reply
use Rattle.fm_coord.specs.Causes.{cause}
use Rattle.fm_coord.specs.States.{State, bounds, history_entry, gave, cut_packet, Represents, IsCoordinator}
use Rattle.fm_coord.proofs.Said.{same_state}
use Rattle.fm_coord.proofs.Keeps.{keeps_cut}
use Rattle.fm_coord.proofs.Happens.{gave_packet}
use Rattle.fm_coord.proofs.coordinator.Coordinator.give.Goals as goal

pub invariant_of-self-2 : goal.invariant_of-self-2
invariant_of-self-2 g c =
    let a = c.self.inside in
    let s : State = record { number = a.number; limit = a.limit; knowledge = a.knowledge; deltas = a.buffer.deltas; cuts = a.cuts; history = a.history.items } in
    let is : s ≡ c.args.self.now.state = same_state c.self.view_is in
    let fits : cause (bounds c.args.self.now.state) (call.Cut c.args.range) ≡ None = c.in_ok-check_cut.ensures.ok in
    let none : cause (bounds s) (call.Cut c.args.range) ≡ None = subst (λ (t : State). cause (bounds t) (call.Cut c.args.range) ≡ None) (sym is) fits in
    let packet : c.in_ok-share.field-0 ≡ cut_packet s c.args.range = c.in_ok-share.ensures ∙ c.requires ∙ ap (λ (t : State). cut_packet t c.args.range) (sym is) in
    let items = c.in_ok-push.ensures.items in
    record {
      coordinator =
          subst (λ (es : List Entry). IsCoordinator (record { number = s.number; limit = s.limit; knowledge = s.knowledge; deltas = s.deltas; cuts = s.cuts + 1; history = es })) (sym items)
          (subst (λ (p : Packet). IsCoordinator (gave s (history_entry c.args.by (call.Cut c.args.range) (reply.Packet p)))) (sym packet)
          (keeps_cut s c.self.invariant.coordinator c.args.by c.args.range none));
      keeper = c.self.invariant.keeper;
      kept_up = c.self.invariant.kept_up;
      tallied = c.self.invariant.tallied;
    }

pub returns-clause-event : goal.returns-clause-event
returns-clause-event g c =
    let a = c.self.inside in
    let s : State = c.args.self.now.state in
    let t : State = record { number = a.number; limit = a.limit; knowledge = a.knowledge; deltas = a.buffer.deltas; cuts = a.cuts; history = a.history.items } in
    let is : t ≡ s = same_state c.self.view_is in
    let none : cause (bounds s) (call.Cut c.args.range) ≡ None = c.in_ok-check_cut.ensures.ok in
    let p : Packet = c.args.packet.now in
    let shared : c.in_ok-share.field-0 ≡ p = c.in_ok-share.ensures in
    let items = c.in_ok-push.ensures.items in
    let new : State = record { number = t.number; limit = t.limit; knowledge = t.knowledge; deltas = t.deltas; cuts = t.cuts + 1; history = c.push.new.self.items } in
    let made : new ≡ gave s (history_entry c.args.by (call.Cut c.args.range) (reply.Packet p)) =
    ap (λ (es : List Entry). record { number = t.number; limit = t.limit; knowledge = t.knowledge; deltas = t.deltas; cuts = t.cuts + 1; history = es }) items
    ∙ ap (λ (q : Packet). gave t (history_entry c.args.by (call.Cut c.args.range) (reply.Packet q))) shared
    ∙ ap (λ (u : State). gave u (history_entry c.args.by (call.Cut c.args.range) (reply.Packet p))) is in
    λ r st. gave_packet s r st c.args.by new c.args.range p c.requires none made
