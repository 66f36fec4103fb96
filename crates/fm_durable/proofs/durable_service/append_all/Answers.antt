use Rattle.std.proofs.Common.{◌≡◌, ◌∙◌, ◌++◌, ◌∷◌, ◌+◌, [], ℕ, List, Option, take, subst, sym, arith}
use Rattle.std.proofs.lemmas.List.{take_more, take_all}
use Rattle.std.proofs.lemmas.Result.{err_from_is_err_and}
use Rattle.fm_delta.specs.declared.packet.Packet.{Packet}
use Rattle.fm_durable.specs.DurableServices.{model_of}
use Rattle.fm_durable.proofs.Appending.{Grows, grows_more, holds_grown, more_then, front_part, front_added}
use Rattle.fm_durable.proofs.durable_service.append_all.Goals as goal

pub returns-in_err-append_packet-clause-err : goal.returns-in_err-append_packet-clause-err
returns-in_err-append_packet-clause-err g c = λ head ps h.
    let model = model_of g.D.Device.content g.D.Device.synced g.D.Device.sound in
    let known = g.met.D.Device.known in
    let new = c.append_packet.new.device in
    let failed = c.in_err-append_packet.ensures in
    let p = err_from_is_err_and c.from_residual.result c.from_residual.ensures.1 in
    rw p.1 (front_part (model c.args.device.now) (model c.loop-packet.device) (model new) (take c.loop-packet.packet-index c.args.packets.now) c.packet-item.result failed.err.count
    c.loop-packet.invariant.more c.loop-packet.invariant.grows failed.err.front failed.part c.append_packet.ensures.synced
    (known c.args.device.now new) (known c.loop-packet.device new) head ps h)

pub returns-in_err-sync-clause-err : goal.returns-in_err-sync-clause-err
returns-in_err-sync-clause-err g c = λ head ps h.
    let model = model_of g.D.Device.content g.D.Device.synced g.D.Device.sound in
    let new = c.sync.new.self in
    let failed = c.in_err-sync.ensures in
    let p = err_from_is_err_and c.from_residual-in_err-sync.result c.from_residual-in_err-sync.ensures.1 in
    rw p.1 (front_added (model c.args.device.now) (model c.loop-packet.device) (model new) (take c.loop-packet.packet-index c.args.packets.now)
    c.loop-packet.invariant.more c.loop-packet.invariant.grows failed.same failed.err (g.met.D.Device.known c.args.device.now new) head ps h)

pub loop-packet-preserved : goal.loop-packet-preserved
loop-packet-preserved g c =
    let model = model_of g.D.Device.content g.D.Device.synced g.D.Device.sound in
    let content = g.D.Device.content in
    let i = c.loop-packet.packet-index in
    let p = c.packet-item.result in
    let done = c.in_ok-append_packet.ensures in
    let more : take (i + 1) c.args.packets.now ≡ take i c.args.packets.now ++ p ∷ [] = grind (arith, take_more) in
    record {
      more = more_then (model c.args.device.now) (model c.loop-packet.device) (model c.append_packet.new.device) _ c.loop-packet.invariant.more done.ok c.append_packet.ensures.synced;
      sound = done.sound ∙ c.loop-packet.invariant.sound;
      grows =
          subst (λ (ps : List Packet). Grows (content c.args.device.now) (content c.append_packet.new.device) ps) (sym more)
          (grows_more (content c.args.device.now) (content c.loop-packet.device) (content c.append_packet.new.device) (take i c.args.packets.now) p
          c.loop-packet.invariant.grows done.packet done.fits done.ok (g.met.D.Device.known c.loop-packet.device c.append_packet.new.device));
    }

pub returns-clause-added : goal.returns-clause-added
returns-clause-added g c = λ head ps h.
    let model = model_of g.D.Device.content g.D.Device.synced g.D.Device.sound in
    let content = g.D.Device.content in
    let all : take c.loop-packet.packet-index c.args.packets.now ≡ c.args.packets.now = take_all c.loop-packet.packet-index c.args.packets.now (omega arith) in
    let grown : Grows (content c.args.device.now) (content c.sync.new.self) c.args.packets.now =
    subst (λ (o : Option (List ℕ)). Grows (content c.args.device.now) o c.args.packets.now) (sym c.in_ok-sync.ensures.same)
    (subst (λ (qs : List Packet). Grows (content c.args.device.now) (content c.loop-packet.device) qs) all c.loop-packet.invariant.grows) in
    holds_grown (model c.args.device.now) (model c.sync.new.self) c.args.packets.now grown
    (λ sound. c.in_ok-sync.ensures.ok (c.loop-packet.invariant.sound ∙ sound)) (c.in_ok-sync.ensures.sound ∙ c.loop-packet.invariant.sound)
    (g.met.D.Device.known c.args.device.now c.sync.new.self) head ps h
