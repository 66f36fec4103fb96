use Rattle.std.proofs.Common.{rules, ◌≡◌, ◌∙◌, ◌++◌, ◌∷◌, [], Some, None, refl, sym, ap, append-nil}
use Rattle.fm_world.specs.declared.step.Act.{Act}
use Rattle.fm_coord.specs.declared.entry.Reply.TheVariants as reply
use Rattle.fm_world.specs.Listings.{packet_in}
use Rattle.fm_world.specs.inner.Sweeps.{act_asked}
use Rattle.fm_world.proofs.Growing.{asked_can, asked_not, given_none}
use Rattle.fm_world.proofs.linearization.Linearization.take.Goals as goal

pub returns-in_default : goal.returns-in_default
returns-in_default c =
    let none : act_asked c.args.self.now.packets c.args.entry.now.call ≡ None = search rules in
    (refl, refl, asked_not c.args.self.now.packets c.args.entry.now.call none)

pub returns-in_ok-push-2 : goal.returns-in_ok-push-2
returns-in_ok-push-2 c =
    let ps = c.args.self.now.packets in
    let asks : act_asked ps c.args.entry.now.call ≡ Some c.in-Some.act = search rules in
    let can = asked_can ps c.args.entry.now.call c.in-Some.act asks in
    let pushed : c.push.new.self.items ≡ c.args.self.now.steps.items ++ record { at = c.args.at; by = c.args.entry.now.by; act = c.in-Some.act } ∷ [] = search rules in
    let kept : c.push-in-Packet.new.self ≡ ps ++ c.in-Packet.packet ∷ [] = search rules in
    let gives : c.args.entry.now.reply ≡ reply.Packet c.in-Packet.packet = search rules in (
      pushed ∙ ap (λ (a : Act). c.args.self.now.steps.items ++ record { at = c.args.at; by = c.args.entry.now.by; act = a } ∷ []) can.0,
      kept ∙ ap (λ r. ps ++ packet_in r) (sym gives),
      can.1,
    )

pub returns-in_default-reply : goal.returns-in_default-reply
returns-in_default-reply c =
    let ps = c.args.self.now.packets in
    let asks : act_asked ps c.args.entry.now.call ≡ Some c.in-Some.act = search rules in
    let can = asked_can ps c.args.entry.now.call c.in-Some.act asks in
    let pushed : c.push.new.self.items ≡ c.args.self.now.steps.items ++ record { at = c.args.at; by = c.args.entry.now.by; act = c.in-Some.act } ∷ [] = search rules in
    let none : packet_in c.args.entry.now.reply ≡ [] = given_none c.args.entry.now.reply c.in_default-reply.not-Packet in (
      pushed ∙ ap (λ (a : Act). c.args.self.now.steps.items ++ record { at = c.args.at; by = c.args.entry.now.by; act = a } ∷ []) can.0,
      sym (append-nil ps) ∙ ap (λ qs. ps ++ qs) (sym none),
      can.1,
    )
