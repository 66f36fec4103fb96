use Rattle.std.proofs.Common.{◌≡◌, ◌∙◌, List, [], ◌∷◌, ◌++◌, Some, refl, sym, ap, subst, rules}
use Rattle.std.specs.Result.{IfErr}
use Rattle.fm_delta.specs.declared.packet.Packet.{Packet}
use Rattle.fm_coord.specs.Causes.{refusal_for}
use Rattle.fm_coord.specs.States.{State, bounds}
use Rattle.fm_world.specs.inner.Calls.{call_asked, refusal_asked}
use Rattle.fm_world.specs.inner.ActedWorld.{IsActed}
use Rattle.fm_world.proofs.Acts.{kept, refused, is_acted, by_cause}
use Rattle.fm_world.proofs.dispatch.act_at.Goals as goal

pub returns-in_err-asked-clause-err : goal.returns-in_err-asked-clause-err
returns-in_err-asked-clause-err g c =
    let s : State = c.args.coordinator.now.state in
    let ps : List Packet = c.args.packets.now.items in
    let e : IfErr c.from_residual.result (λ refusal. refusal ≡ refusal_asked (bounds s) (call_asked ps c.args.act.now)) = search rules in
    λ r sent st is. by_cause c.from_residual.result _ _ (refused s r st ps sent is c.args.act.now c.in_err-asked.ensures.spelled) e

pub returns-in_err-answer-clause-err : goal.returns-in_err-answer-clause-err
returns-in_err-answer-clause-err g c =
    let s : State = c.args.coordinator.now.state in
    let ps : List Packet = c.args.packets.now.items in
    let e : IfErr c.from_residual-in_err-answer.result (λ refusal. refusal ≡ refusal_for (bounds s) c.in_ok-asked.asked) = search rules in
    λ r sent st is.
    by_cause c.from_residual-in_err-answer.result _ _
    (sym (ap (refusal_asked (bounds s)) c.in_ok-asked.ensures.ok) ∙ refused s r st ps sent is c.args.act.now c.in_ok-asked.ensures.spelled) e

pub returns-in-Packet-clause-acted : goal.returns-in-Packet-clause-acted
returns-in-Packet-clause-acted g c = λ r sent st is.
    let s : State = c.args.coordinator.now.state in
    let ps : List Packet = c.args.packets.now.items in
    let items : c.push.new.self.items ≡ c.call_for.new.packets.items ++ c.in-Packet.packet ∷ [] = search rules in
    let same : c.call_for.new.packets.items ≡ ps = c.in_ok-asked.ensures.same in
    subst (λ qs. IsActed c.call.new.self.state qs r sent c.args.by c.args.act.now)
    (ap (kept ps) c.in-Packet.is ∙ (λ i. sym same i ++ c.in-Packet.packet ∷ []) ∙ sym items)
    (is_acted s r st ps sent is c.args.act.now c.in_ok-asked.ensures.spelled c.args.by c.in_ok-asked.asked c.call.new.self.state c.in_ok-answer.answer c.in_ok-asked.ensures.ok
    (c.in_ok-answer.ensures.within refl) c.in_ok-answer.ensures.answer (λ event same. c.in_ok-answer.ensures.event r event st same))

pub returns-in-View-clause-acted : goal.returns-in-View-clause-acted
returns-in-View-clause-acted g c = λ r sent st is.
    let s : State = c.args.coordinator.now.state in
    let ps : List Packet = c.args.packets.now.items in
    subst (λ qs. IsActed c.call.new.self.state qs r sent c.args.by c.args.act.now)
    (ap (kept ps) c.in-View.is ∙ sym c.in_ok-asked.ensures.same)
    (is_acted s r st ps sent is c.args.act.now c.in_ok-asked.ensures.spelled c.args.by c.in_ok-asked.asked c.call.new.self.state c.in_ok-answer.answer c.in_ok-asked.ensures.ok
    (c.in_ok-answer.ensures.within refl) c.in_ok-answer.ensures.answer (λ event same. c.in_ok-answer.ensures.event r event st same))

pub returns-in-Done-clause-acted : goal.returns-in-Done-clause-acted
returns-in-Done-clause-acted g c = λ r sent st is.
    let s : State = c.args.coordinator.now.state in
    let ps : List Packet = c.args.packets.now.items in
    subst (λ qs. IsActed c.call.new.self.state qs r sent c.args.by c.args.act.now)
    (ap (kept ps) c.in-Done.is ∙ sym c.in_ok-asked.ensures.same)
    (is_acted s r st ps sent is c.args.act.now c.in_ok-asked.ensures.spelled c.args.by c.in_ok-asked.asked c.call.new.self.state c.in_ok-answer.answer c.in_ok-asked.ensures.ok
    (c.in_ok-answer.ensures.within refl) c.in_ok-answer.ensures.answer (λ event same. c.in_ok-answer.ensures.event r event st same))

pub returns-clause-acted : goal.returns-clause-acted
returns-clause-acted g c = λ r sent st is.
    let s : State = c.args.coordinator.now.state in
    let ps : List Packet = c.args.packets.now.items in
    subst (λ qs. IsActed c.call.new.self.state qs r sent c.args.by c.args.act.now)
    (ap (kept ps) c.in-Admitted.is ∙ sym c.in_ok-asked.ensures.same)
    (is_acted s r st ps sent is c.args.act.now c.in_ok-asked.ensures.spelled c.args.by c.in_ok-asked.asked c.call.new.self.state c.in_ok-answer.answer c.in_ok-asked.ensures.ok
    (c.in_ok-answer.ensures.within refl) c.in_ok-answer.ensures.answer (λ event same. c.in_ok-answer.ensures.event r event st same))
