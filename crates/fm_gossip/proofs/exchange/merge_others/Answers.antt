use Rattle.std.proofs.Common.{◌≡◌, ◌∙◌, ap, subst}
use Rattle.std.proofs.lemmas.Bool.{ne_eqb}
use Rattle.fm_delta.specs.declared.packet.Packet.{Packet}
use Rattle.fm_gossip.proofs.Leaving.{merged_one, one_more}
use Rattle.fm_gossip.proofs.exchange.merge_others.Goals as goal

pub loop-packet-preserved-in_ok-merge : goal.loop-packet-preserved-in_ok-merge
loop-packet-preserved-in_ok-merge g c =
    let p = c.in-Some.packet.now in
    let own = c.value-own.result in
    let now = c.loop-packet.coordinator.state in
    let new = c.merge.new.self.state in
    let apart : ¬ (p.sender ≡ own) = λ same. c.if-value-own.true (c.value.ensures.number ∙ ap (λ (q : Packet). q.sender) c.get-packet.ensures ∙ same) in
    let given = c.in_ok-copy.ensures ∙ c.get-packet.ensures in
    one_more own c.args.packets.now c.loop-packet.rest.now c.in-Some.further.now p c.args.coordinator.now.state now new c.in-Some.ensures.cases.0 (ne_eqb p.sender own apart)
    c.loop-packet.invariant (subst (λ q. new ≡ merged_one now q) given c.in_ok-merge.ensures.ok)
